use Rattle.std.proofs.Common.{ℕ, length, ◌++◌, sym, ◌∙◌, ap}
use Rattle.std.specs.Char.{encode_utf8}
use Rattle.ini_pattern.proofs.ReadingLemmas.{chars_before, ends_apart, empty_apart}
use Rattle.ini_pattern.proofs.reading.before_char.Goals as goal

pub returns-in_err-last : goal.returns-in_err-last
returns-in_err-last c =
    rw c.from_residual.ensures (empty_apart _ _ (ap length (sym c.chars-characters.ensures.rest) ∙ c.in_err-last.ensures.steps.0))

pub returns-then-last-wanted : goal.returns-then-last-wanted
returns-then-last-wanted c =
    chars_before _ _ _ c.utf8.text c.as_str-rest.utf8 (sym c.chars-characters.ensures.rest ∙ c.in_ok-last.ensures.steps ∙ ap (λ l. l ++ encode_utf8 c.in_ok-last.last) (sym c.as_str-rest.ensures) ∙ ap (λ (last : ℕ). c.as_str-rest.result.now ++ encode_utf8 last) c.if-last-wanted.true)

pub returns-else-last-wanted : goal.returns-else-last-wanted
returns-else-last-wanted c =
    ends_apart _ _ _ _ (chars_before _ _ _ c.utf8.text c.as_str-rest.utf8 (sym c.chars-characters.ensures.rest ∙ c.in_ok-last.ensures.steps ∙ ap (λ l. l ++ encode_utf8 c.in_ok-last.last) (sym c.as_str-rest.ensures))) c.if-last-wanted.false
