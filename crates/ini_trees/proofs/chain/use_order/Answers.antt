use Rattle.std.proofs.Common.{◌≡◌, inl, inr, ℕ, List, length, get_or, sym, subst, ◌∙◌, arith}
use Rattle.std.specs.List.{Contains}
use Rattle.std.proofs.lemmas.Bool.{cases_lt}
use Rattle.ini_trees.specs.Counts.{AreBelow}
use Rattle.ini_trees.specs.Numbers.{bases_at}
use Rattle.ini_trees.proofs.chain.use_order.Goals as goal

pub use_bases-requires : goal.use_bases-requires
use_bases-requires c =
    subst (λ (l : List ℕ). AreBelow (length c.loop-place.last) l) (sym c.row_at.ensures)
    (subst (λ (n : ℕ). AreBelow n (bases_at c.args.rows.now (get_or c.args.order.now c.loop-place.place 0))) (sym c.loop-place.invariant.size) (c.requires.rows (get_or c.args.order.now c.loop-place.place 0)))

pub loop-place-preserved : goal.loop-place-preserved
loop-place-preserved c =
    let i = c.loop-place.place in
    let new = c.use_bases.new.last in
    record {
      size = c.use_bases.auto.last ∙ c.loop-place.invariant.size;
      last = λ j h b held. elim (cases_lt j i) [
        | inl below ↦
            let old = c.loop-place.invariant.last j below b held in
            elim (c.use_bases.ensures.others b) [
              | inl here ↦ omega (arith, here, below)
              | inr same ↦ omega (arith, same, old)
            ]
        | inr past ↦
            let is : j ≡ i = omega arith in
            let held_here = subst (λ (l : List ℕ). Contains l b) (sym c.row_at.ensures) (subst (λ (n : ℕ). Contains (bases_at c.args.rows.now (get_or c.args.order.now n 0)) b) is held) in
            let used = c.use_bases.ensures.used b held_here in
            omega (arith, is, used)
      ];
    }
