use Rattle.std.proofs.Common.{◌≡◌, ◌≢◌, ℕ, ◌+◌, true, List, ◌∷◌, Some, drop, get_or, length, slice_get, sym, ap, ◌∙◌, subst, arith}
use Rattle.std.proofs.lemmas.List.{drop_more}
use Rattle.ini_trees.specs.Counts.{same_number, behind, AreBelow}
use Rattle.ini_trees.specs.Merge.{first_free, stands_behind}
use Rattle.ini_trees.proofs.MergeLaws.{none_behind, some_behind, free_here, free_later, first_below}
use Rattle.ini_trees.proofs.merge.first_free.Goals as goal
use Rattle.ini_trees.proofs.merge.first_free.Goals.{in-Some+else-waiting-head-eq0, in_default}

pub returns-then-waiting-head-eq0 : goal.returns-then-waiting-head-eq0
returns-then-waiting-head-eq0 c =
    let rests = c.args.rests.now in
    let i = c.loop-rest.rest-index in
    let rest = c.rest-item.result in
    let item : get_or rests i rest ≡ rest = sym c.rest-item.is in
    let below : AreBelow (length c.args.waiting.now) rest = subst (AreBelow (length c.args.waiting.now)) item (c.requires.below i rest c.loop-rest-test.true) in
    let first : slice_get rest 0 ≡ Some c.in-Some.head = sym c.head.ensures ∙ c.in-Some.is in
    let within = first_below (length c.args.waiting.now) c.in-Some.head rest below first in
    let none : behind c.in-Some.head rests ≡ 0 = sym (c.requires.counted c.in-Some.head within) ∙ c.if-waiting-head-eq0.true in
    let free = free_here c.in-Some.head rest (drop (i + 1) rests) rests first (none_behind c.in-Some.head rests none) in
    let parts : drop i rests ≡ rest ∷ drop (i + 1) rests = drop_more rests i rest c.loop-rest-test.true ∙ ap (λ (l : List ℕ). l ∷ drop (i + 1) rests) item in
    sym free ∙ ap (λ (l : List (List ℕ)). first_free same_number rests l) (sym parts) ∙ c.loop-rest.invariant

pub loop-rest-preserved : goal.loop-rest-preserved
loop-rest-preserved c =
    let rests = c.args.rests.now in
    let i = c.loop-rest.rest-index in
    let rest = c.rest-item.result in
    let item : get_or rests i rest ≡ rest = sym c.rest-item.is in
    let below : AreBelow (length c.args.waiting.now) rest = subst (AreBelow (length c.args.waiting.now)) item (c.requires.below i rest c.loop-rest-test.true) in
    let held : (x : ℕ) → slice_get rest 0 ≡ Some x → stands_behind same_number x rests ≡ true =
    λ x first.
    elim c.match-head.branch [
      | in-Some+else-waiting-head-eq0 w ↦
          let within = first_below (length c.args.waiting.now) x rest below first in
          let counted = c.requires.counted x within in
          let same : Some x ≡ Some w.in-Some.head = sym first ∙ sym c.head.ensures ∙ w.in-Some.is in
          let is : x ≡ w.in-Some.head = cc in
          let other : get_or c.args.waiting.now x 0 ≢ 0 = subst (λ (n : ℕ). get_or c.args.waiting.now n 0 ≢ 0) (sym is) w.if-waiting-head-eq0.false in
          some_behind x rests (omega arith)
      | in_default w ↦ absurd (w.in_default.not-Some x (c.head.ensures ∙ first))
    ] in
    let later = free_later rest (drop (i + 1) rests) rests held in
    let parts : drop i rests ≡ rest ∷ drop (i + 1) rests = drop_more rests i rest c.loop-rest-test.true ∙ ap (λ (l : List ℕ). l ∷ drop (i + 1) rests) item in
    sym later ∙ ap (λ (l : List (List ℕ)). first_free same_number rests l) (sym parts) ∙ c.loop-rest.invariant
