-- what is noted from here leaves what is noted of all
use Rattle.std.proofs.Common.{◌≡◌, ◌++◌, drop}
use Rattle.run_semantics.specs.Laws.{GoesOn}
use Rattle.kernel_actions.proofs.core_part.note_ids.Given as goal

abbrev pub invariant-loop-id : goal.invariant-loop-id
invariant-loop-id l = (l.noted ++ drop l.id-index l.ids ≡ l.fn.noted ++ l.ids) × GoesOn l.fn.noted l.noted
