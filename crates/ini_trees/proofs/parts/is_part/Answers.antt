use Rattle.std.proofs.Common.{◌≡◌, ◌==◌, drop, length, List, ℕ, Bool, true, false, [], ◌∷◌, sym, ap, ◌∙◌, arith, refl}
use Rattle.std.proofs.lemmas.List.{drop_all}
use Rattle.ini_trees.specs.Parts.{is_nil, is_part}
use Rattle.ini_trees.proofs.PartLaws.{nothing_is_part, nil_where_passed}
use Rattle.ini_trees.proofs.parts.is_part.Goals as goal

pub returns-then-passed-part : goal.returns-then-passed-part
returns-then-passed-part c =
    let none : drop c.loop-number.passed c.args.part.now ≡ [] = drop_all c.loop-number.passed c.args.part.now (omega arith) in
    sym (nothing_is_part (drop c.loop-number.number-index c.args.whole.now)) ∙ ap (λ (l : List ℕ). is_part l (drop c.loop-number.number-index c.args.whole.now)) (sym none) ∙ c.loop-number.invariant.left

pub returns : goal.returns
returns c =
    let none : drop c.loop-number.number-index c.args.whole.now ≡ [] = drop_all c.loop-number.number-index c.args.whole.now c.loop-number-test.false in
    nil_where_passed c.loop-number.passed c.args.part.now c.loop-number.invariant.within
    ∙ ap (is_part (drop c.loop-number.passed c.args.part.now)) (sym none) ∙ c.loop-number.invariant.left
