-- those that are dead from here on are those of all; the records stay
use Rattle.std.proofs.Common.{◌≡◌, ◌++◌, drop}
use Rattle.run_semantics.specs.Laws.{GoesOn}
use Rattle.kernel_actions.proofs.core_part.note_dead.Given as goal

abbrev pub invariant-loop-id : goal.invariant-loop-id
invariant-loop-id l = record {
  all : l.modules.dead ++ drop l.id-index l.ids ≡ l.fn.modules.dead ++ l.ids;
  same : l.modules.records ≡ l.fn.modules.records;
  grown : GoesOn l.fn.modules.dead l.modules.dead;
}
