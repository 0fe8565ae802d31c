use Rattle.std.proofs.Common.{◌≡◌, ℕ, List, Option, Ok, sym, ◌∙◌, subst}
use Rattle.std.specs.List.{Contains}
use Rattle.std.specs.declared.alloc.AllocError.{AllocError}
use Rattle.ini_trees.specs.Numbers.{IsOrdered, IsReached, IsWithin, SettlesOrder}
use Rattle.ini_trees.proofs.NumberedLaws.{sections_of, no_line_by_depth}
use Rattle.ini_trees.proofs.chain.numbered_line.Goals as goal

pub ordered_line-requires-clause-ordered : goal.ordered_line-requires-clause-ordered
ordered_line-requires-clause-ordered c =
    let settled = subst (λ (o : Option (List ℕ)). SettlesOrder {E = AllocError} c.as_slice.result.now c.args.root (Ok o)) c.in-Some.is c.in_ok-order.ensures in
    let rows : c.as_slice.result.now ≡ c.as_slice-in-Some.result.now = c.as_slice.ensures ∙ sym c.as_slice-in-Some.ensures in
    subst (λ (rs : List (Option (List ℕ))). IsOrdered rs c.as_slice-in-Some-2.result.now) rows
    (subst (IsOrdered c.as_slice.result.now) (sym c.as_slice-in-Some-2.ensures) settled.0)

pub ordered_line-requires-clause-reached : goal.ordered_line-requires-clause-reached
ordered_line-requires-clause-reached c = λ k held.
    let settled = subst (λ (o : Option (List ℕ)). SettlesOrder {E = AllocError} c.as_slice.result.now c.args.root (Ok o)) c.in-Some.is c.in_ok-order.ensures in
    let rows : c.as_slice.result.now ≡ c.as_slice-in-Some.result.now = c.as_slice.ensures ∙ sym c.as_slice-in-Some.ensures in
    let there : Contains c.in-Some.order k = subst (λ (l : List ℕ). Contains l k) c.as_slice-in-Some-2.ensures held in
    subst (λ (rs : List (Option (List ℕ))). IsReached rs c.args.root k) rows (settled.2 k there)

pub returns : goal.returns
returns c =
    let settled = subst (λ (o : Option (List ℕ)). SettlesOrder {E = AllocError} c.as_slice.result.now c.args.root (Ok o)) c.in-None.is c.in_ok-order.ensures in
    let none : (d : ℕ) → IsWithin d c.in_ok-rows.rows c.args.root → ⊥ = subst (λ (rs : List (Option (List ℕ))). (d : ℕ) → IsWithin d rs c.args.root → ⊥) c.as_slice.ensures settled in
    no_line_by_depth c.args.lines.now c.args.names.now c.in_ok-rows.rows c.args.root (sections_of c.args.lines.now c.args.names.now c.requires.names) c.in_ok-rows.ensures c.requires.within none

pub base_rows-requires : goal.base_rows-requires
base_rows-requires c = record { apart = (sections_of c.args.lines.now c.args.names.now c.requires.names).apart }
