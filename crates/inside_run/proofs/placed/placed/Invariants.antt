-- what is left is what was to be done, and the table may be kept
use Rattle.std.proofs.Common.{◌≡◌, ◌+◌}
use Rattle.std.specs.Option.{option_copied}
use Rattle.param_engine.specs.Tables.{IsKept}
use Rattle.param_engine.specs.Turns.{came_to, asks}
use Rattle.inside_keys.specs.Blamed as blame
use Rattle.inside_keys.specs.Keys.{key}
use Rattle.inside_keys.specs.Values.{asking_of, rules_of, value_at}
use Rattle.inside_keys.specs.declared.key.What.TheVariants as of
use Rattle.inside_run.specs.Going.{goes_on}
use Rattle.inside_run.specs.Weights.{weight}
use Rattle.inside_run.proofs.placed.placed.Given as goal

abbrev pub invariant-loop-turn : goal.invariant-loop-turn
invariant-loop-turn g l = record {
  same : blame.placed (value_at (g.S.ModuleSource.setting l.scene)) l.site (option_copied l.around) (came_to (goes_on (g.S.ModuleSource.setting l.progress.scene.now) l.progress.progress) l.turn)
      ≡ blame.placed (value_at (g.S.ModuleSource.setting l.scene)) l.site (option_copied l.around) (asking_of (g.S.ModuleSource.setting l.scene) (key l.site of.Inside));
  kept : IsKept (rules_of (g.S.ModuleSource.setting l.scene)) l.table.entries;
}

abbrev pub decreases-loop-turn : goal.decreases-loop-turn
decreases-loop-turn g l = asks l.turn + weight (g.S.ModuleSource.setting l.progress.scene.now) l.progress.progress
