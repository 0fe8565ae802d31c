use Rattle.std.proofs.Common.{ap, length, arith}
use Rattle.desk_commands.proofs.Parting.{some_word}
use Rattle.desk_commands.proofs.injections.six_words.Goals as goal

pub returns-in-Some-clause-six : goal.returns-in-Some-clause-six
returns-in-Some-clause-six c = (
  λ h. cc h,
  λ h. absurd (omega (
    arith,
    ap length c.in_ok-path.ensures.words,
    ap length c.in_ok-time.ensures.words,
    ap length c.in_ok-priority.ensures.words,
    ap length c.in_ok-kind.ensures.words,
    ap length c.in_ok-bits.ensures.words,
    ap length c.in-Some.ensures.words,
    some_word c.in-Some.field-0.1.now,
  )),
)
