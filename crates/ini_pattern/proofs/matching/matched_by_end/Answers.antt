use Rattle.std.proofs.Common.{rules, [], ◌∷◌, ◌++◌, arith, ap, ◌∙◌}
use Rattle.std.proofs.lemmas.Bool.{false≢true}
use Rattle.std.proofs.lemmas.List.{nil_from_length}
use Rattle.ini_pattern.specs.declared.piece.Piece.{Piece}
use Rattle.ini_pattern.proofs.EndingLemmas.{ended_next, ended_apart, ended_nothing}
use Rattle.ini_pattern.proofs.matching.matched_by_end.Goals as goal

pub returns-in_default-before_char : goal.returns-in_default-before_char
returns-in_default-before_char c = (
  λ wrong. absurd (false≢true wrong),
  λ k. absurd (ended_apart _ _ _ _ _ _ c.loop-wanted.invariant.1 (c.in-Some-Char-default.ensures.cases.0 ∙ ap (λ (p : Piece). c.in-Some-Char-default.before.now ++ (p ∷ [])) c.in-Some-Char-default.field-0-0-is) c.in_default-before_char.ensures k),
)

pub loop-wanted-preserved : goal.loop-wanted-preserved
loop-wanted-preserved c =
    (search rules, ended_next _ _ _ _ _ _ _ c.loop-wanted.invariant.1 (c.in-Some-Char-default.ensures.cases.0 ∙ ap (λ (p : Piece). c.in-Some-Char-default.before.now ++ (p ∷ [])) c.in-Some-Char-default.field-0-0-is) c.in-Some.ensures)

pub returns-in-empty : goal.returns-in-empty
returns-in-empty c =
    let same = ended_nothing _ _ _ _ c.loop-wanted.invariant.1 (nil_from_length _ (omega (arith, c.in-empty.len_below))) in
    (λ t. same.0 (c.may_stop.ensures.0 t), λ k. c.may_stop.ensures.1 (same.1 k))
