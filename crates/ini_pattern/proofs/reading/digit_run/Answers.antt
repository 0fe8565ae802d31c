use Rattle.std.proofs.Common.{arith, rules, sym, ◌∙◌, ◌≡◌, ◌+◌, ◌-◌, ◌*◌, ap, true}
use Rattle.std.specs.Char.{is_ascii_digit}
use Rattle.ini_pattern.proofs.ReadingLemmas.{read_none, read_more, read_all, no_digit, no_more}
use Rattle.ini_pattern.proofs.reading.digit_run.Goals as goal
use Rattle.ini_pattern.proofs.reading.digit_run.Goals.{then-count-lt18, else-count-lt18, in-Some+then-not-is_ascii_digit, in_default}

pub loop-digit-init : goal.loop-digit-init
loop-digit-init c = (c.utf8.text, read_none _)

pub loop-digit-preserved : goal.loop-digit-preserved
loop-digit-preserved c =
    let digit : is_ascii_digit c.in-Some.digit ≡ true = sym c.is_ascii_digit.ensures.value ∙ c.if-not-is_ascii_digit.false in (
      search rules,
      elim c.if-count-lt18.branch [
        | then-count-lt18 w ↦ read_more _ _ _ _ _ _ _ _ c.loop-digit.invariant.1 c.in-Some.ensures digit c.min-count.ensures (λ _. w.value-is ∙ ap (λ n. c.loop-digit.value * 10 + (n - 48)) w.from.ensures) (λ h. absurd (omega (arith, w.if-count-lt18.true)))
        | else-count-lt18 w ↦ read_more _ _ _ _ _ _ _ _ c.loop-digit.invariant.1 c.in-Some.ensures digit c.min-count.ensures (λ h. absurd (omega (arith, w.if-count-lt18.false))) (λ _. w.value-is)
      ],
    )

pub returns-clause-digits : goal.returns-clause-digits
returns-clause-digits c =
    elim c.match-first_char.branch [
      | in-Some+then-not-is_ascii_digit w ↦ read_all _ _ _ _ c.loop-digit.invariant.1 (no_digit _ _ _ w.in-Some.ensures (sym w.is_ascii_digit.ensures.value ∙ w.if-not-is_ascii_digit.true)).0
      | in_default w ↦ read_all _ _ _ _ c.loop-digit.invariant.1 (no_more _ w.in_default.ensures).0
    ]

pub returns-clause-rest : goal.returns-clause-rest
returns-clause-rest c =
    elim c.match-first_char.branch [
      | in-Some+then-not-is_ascii_digit w ↦ sym (c.loop-digit.invariant.1.after ∙ (no_digit _ _ _ w.in-Some.ensures (sym w.is_ascii_digit.ensures.value ∙ w.if-not-is_ascii_digit.true)).1)
      | in_default w ↦ sym (c.loop-digit.invariant.1.after ∙ (no_more _ w.in_default.ensures).1)
    ]
