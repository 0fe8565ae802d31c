use Rattle.std.proofs.Common.{◌≡◌, ◌<◌, ◌++◌, ◌∷◌, [], ℕ, List, Some, None, length, sym, ◌∙◌, subst}
use Rattle.std.specs.List.{All}
use Rattle.std.proofs.lemmas.Bool.{false≢true}
use Rattle.ini_trees.specs.Counts.{same_number, AreAllBelow}
use Rattle.ini_trees.specs.Merge.{first_free}
use Rattle.ini_trees.proofs.MergeLaws.{IsMerging, all_lengths, fewer_numbers, all_without_below, merging_goes_on, merging_ends, merging_stuck, none_counted}
use Rattle.ini_trees.proofs.merge.merged.Goals as goal

pub loop-number-smaller : goal.loop-number-smaller
loop-number-smaller c =
    let found : first_free same_number c.loop-number.rests c.loop-number.rests ≡ Some c.in-Some.number = sym c.first_free.ensures ∙ c.in-Some.is in
    subst (λ (l : List (List ℕ)). all_lengths l < all_lengths c.loop-number.rests) (sym c.take.ensures.rests) (fewer_numbers c.in-Some.number c.loop-number.rests c.loop-number.rests found)

pub loop-number-preserved : goal.loop-number-preserved
loop-number-preserved c =
    let found : first_free same_number c.loop-number.rests c.loop-number.rests ≡ Some c.in-Some.number = sym c.first_free.ensures ∙ c.in-Some.is in
    let next = merging_goes_on c.args.rests.now c.loop-number.rests c.loop-number.line c.in-Some.number found c.loop-number.invariant.merging in
    let line : c.push.new.self ≡ c.loop-number.line ++ c.in-Some.number ∷ [] = c.in_ok-push.ensures.ok in
    let below = all_without_below (length c.loop-number.waiting) c.in-Some.number c.loop-number.rests c.loop-number.invariant.below in
    record {
      below = subst (λ (n : ℕ). AreAllBelow n c.take.new.rests) (sym c.take.auto.waiting) (subst (AreAllBelow (length c.loop-number.waiting)) (sym c.take.ensures.rests) below);
      counted = c.take.ensures.counted;
      merging =
          subst (λ (l : List ℕ). IsMerging c.args.rests.now l c.take.new.rests) (sym line)
          (subst (IsMerging c.args.rests.now (c.loop-number.line ++ c.in-Some.number ∷ [])) (sym c.take.ensures.rests) next);
    }

pub returns-then-are_empty-clause-zeros : goal.returns-then-are_empty-clause-zeros
returns-then-are_empty-clause-zeros c = λ k h.
    c.loop-number.invariant.counted k h ∙ none_counted k c.loop-number.rests (c.are_empty.ensures.0 c.if-are_empty.true)

pub returns-then-are_empty-clause-line : goal.returns-then-are_empty-clause-line
returns-then-are_empty-clause-line c =
    merging_ends c.args.rests.now c.loop-number.rests c.loop-number.line (c.are_empty.ensures.0 c.if-are_empty.true) c.loop-number.invariant.merging

pub returns-else-are_empty-clause-line : goal.returns-else-are_empty-clause-line
returns-else-are_empty-clause-line c =
    let none : first_free same_number c.loop-number.rests c.loop-number.rests ≡ None = sym c.first_free.ensures ∙ c.in_default.is in
    let left : All (λ l. l ≡ []) c.loop-number.rests → ⊥ = λ empty. false≢true (sym c.if-are_empty.false ∙ c.are_empty.ensures.1 empty) in
    merging_stuck c.args.rests.now c.loop-number.rests c.loop-number.line none left c.loop-number.invariant.merging
