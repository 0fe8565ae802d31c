use Rattle.std.proofs.Common.{◌≡◌, Some, slice_get, sym, ap, ◌∙◌, List, ℕ, arith}
use Rattle.ini_trees.specs.Merge.{tail}
use Rattle.ini_trees.proofs.MergeLaws.{next_below, held_first}
use Rattle.ini_trees.proofs.merge.take_head.Goals as goal

pub bounds-waiting-next : goal.bounds-waiting-next
bounds-waiting-next c =
    let next : slice_get (tail c.args.rest.now) 0 ≡ Some c.in-Some.next = ap (λ (l : List ℕ). slice_get l 0) (sym c.advance.ensures) ∙ sym c.head-then-eq.ensures ∙ c.in-Some.is in
    next_below _ c.in-Some.next c.args.rest.now c.requires.below next

pub overflow_sub-waiting : goal.overflow_sub-waiting
overflow_sub-waiting c =
    let next : slice_get (tail c.args.rest.now) 0 ≡ Some c.in-Some.next = ap (λ (l : List ℕ). slice_get l 0) (sym c.advance.ensures) ∙ sym c.head-then-eq.ensures ∙ c.in-Some.is in
    let within = next_below _ c.in-Some.next c.args.rest.now c.requires.below next in
    let some = held_first c.in-Some.next (tail c.args.rest.now) next in
    let counted = c.requires.counted c.in-Some.next within in
    omega arith

pub offset_bounds-waiting-next : goal.offset_bounds-waiting-next
offset_bounds-waiting-next c =
    let next : slice_get (tail c.args.rest.now) 0 ≡ Some c.in-Some.next = ap (λ (l : List ℕ). slice_get l 0) (sym c.advance.ensures) ∙ sym c.head-then-eq.ensures ∙ c.in-Some.is in
    let within = next_below _ c.in-Some.next c.args.rest.now c.requires.below next in
    omega arith

pub bounds-waiting-next-in-Some : goal.bounds-waiting-next-in-Some
bounds-waiting-next-in-Some c =
    let next : slice_get (tail c.args.rest.now) 0 ≡ Some c.in-Some.next = ap (λ (l : List ℕ). slice_get l 0) (sym c.advance.ensures) ∙ sym c.head-then-eq.ensures ∙ c.in-Some.is in
    next_below _ c.in-Some.next c.args.rest.now c.requires.below next
