use Rattle.std.proofs.Common.{◌≡◌, ◌+◌, ◌++◌, drop}
use Rattle.kernel_actions.specs.Positions.{IsGrownFrom}
use Rattle.kernel_actions.specs.Upcoming.{asked_in}
use Rattle.kernel_actions.proofs.core_part.Core.note_looks.Given as goal

abbrev pub invariant-loop-look : goal.invariant-loop-look
invariant-loop-look l = record {
  noted : record l.self { questions = l.self.questions ++ asked_in (l.fn.self.count + 1) (drop l.look-index l.looks) }
      ≡ record l.fn.self { questions = l.fn.self.questions ++ asked_in (l.fn.self.count + 1) l.looks };
  grown : IsGrownFrom l.fn.self l.self;
  count : l.self.count ≡ l.fn.self.count;
}
