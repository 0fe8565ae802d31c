use Rattle.std.proofs.Common.{◌≡◌, ◌-◌, List, reverse}
use Rattle.std.specs.List.{All}
use Rattle.param_engine.specs.Tables.{Begins, Entries, IsKept}
use Rattle.inside_keys.specs.Values.{rules_of}
use Rattle.inside_keys.specs.declared.found.Found.{Found}
use Rattle.inside_keys.specs.declared.key.Key.{Key}
use Rattle.model_settings.specs.Standings.{setting_of}
use Rattle.model_answers.specs.Kept.{most_insides, walked, IsInsideKept}
use Rattle.model_answers.proofs.kept.keep_all.Given as goal

abbrev pub invariant-loop-turn : goal.invariant-loop-turn
invariant-loop-turn l = IsKept (rules_of (setting_of l.setting)) l.kept.entries
    × ((es : Entries Key Found) → Begins l.kept.entries es
    → All (IsInsideKept (setting_of l.setting) es) (walked (setting_of l.setting) (most_insides - l._turn) (reverse l.pending.items))
    → All (IsInsideKept (setting_of l.setting) es) (walked (setting_of l.setting) most_insides (reverse l.fn.pending.items)))
