use Rattle.std.proofs.Common.{Ok, sym, subst, arith}
use Rattle.param_eval.specs.Evaluating as evaluating
use Rattle.inside_keys.specs.Asked.{valued_then}
use Rattle.inside_keys.specs.Checks.{checked}
use Rattle.inside_keys.specs.Places.{meant_under}
use Rattle.inside_keys.specs.Values.{kept}
use Rattle.inside_run.specs.Going.{Moves}
use Rattle.inside_run.specs.declared.progress.Moved.TheVariants as moved
use Rattle.inside_run.specs.declared.progress.Posing.{Posing}
use Rattle.inside_run.specs.declared.progress.KeyProgress.TheVariants as waits
use Rattle.inside_run.proofs.Moves.{costs_more, reached_key, reached_value}
use Rattle.inside_run.proofs.posed.pose.Goals as goal

pub returns-in-Value-clause-moves : goal.returns-in-Value-clause-moves
returns-in-Value-clause-moves c s =
    reached_value s c.kept.result _ _ c.reach.new.evaluation _ (λ u. kept (checked c.args.check u)) c.in-Value.value c.in-Value.is c.in_ok-value.ensures.reaches (c.kept.ensures.moves s)

pub returns-in-Value-clause-costs : goal.returns-in-Value-clause-costs
returns-in-Value-clause-costs c s = costs_more s c.kept.result 0 _ (omega arith) (c.kept.ensures.costs s)

pub returns-clause-moves : goal.returns-clause-moves
returns-clause-moves c s =
    subst (λ (w : Posing). Moves s (Ok (moved.Asks c.in-Key.key (waits.Posed w))) (valued_then (meant_under c.args.variables c.args.place) (evaluating.came_to c.args.evaluation c.args.turn) (λ u. kept (checked c.args.check u)))) (sym c.in_ok-new-in-Key.ensures)
    (reached_key (meant_under c.args.variables c.args.place) c.in_ok-value.field-0 c.reach.new.evaluation _ (λ u. kept (checked c.args.check u)) c.in-Key.key c.in-Key.is c.in_ok-value.ensures.reaches)
