use Rattle.std.proofs.Common.{◌-◌, ◌∙◌, ap, arith, refl, slice_get, sym}
use Rattle.edit_places.proofs.Common.{back_more}
use Rattle.edit_places.proofs.ends.common_back.Goals as goal

pub entries-preserved : goal.entries-preserved
entries-preserved c =
    let less = c.entries-test.true in
    let fewer = c.if-back-len.true in (
      omega (arith, less, c.len.ensures),
      omega (arith, fewer, c.len-in-entries.ensures),
      back_more c.args.one.now c.args.other.now c.entries.back c.at.result.now c.at-in-entries.result.now
          (omega (arith, less, c.len.ensures)) (omega (arith, fewer, c.len-in-entries.ensures))
          c.entries.invariant.2
          (ap (λ k. slice_get c.args.one.now (k - c.entries.back - 1)) (sym c.len-in-entries-2.ensures) ∙ c.at.ensures)
          (ap (λ k. slice_get c.args.other.now (k - c.entries.back - 1)) (sym c.len-in-entries-3.ensures) ∙ c.at-in-entries.ensures)
          (c.if-not-are_same.ensures refl),
    )
