use Rattle.std.proofs.Common.{◌+◌, not, ◌∙◌, sym, ap, arith, drop, get_or, List, ℕ}
use Rattle.std.specs.List.{filter}
use Rattle.run_semantics.specs.Subtree.{among}
use Rattle.kernel_boxes.specs.Saved.{seats_held}
use Rattle.kernel_boxes.specs.Seats.{BoxAt}
use Rattle.kernel_boxes.proofs.Leaving.{dropped_first, dropped_last, next_of, none_of_them}
use Rattle.kernel_boxes.proofs.dropping.drop_those.Goals as goal

pub loop-id-preserved : goal.loop-id-preserved
loop-id-preserved g c =
    let ids = c.args.ids.now in
    let i = c.loop-id.id-index in
    let ss = seats_held (λ b. (g.dyn-1.0.entry b.vtable).1) c.loop-id.boxes in
    ap (filter (λ (s : BoxAt). not (among s.id (drop (i + 1) ids)))) c.drop_one.ensures
    ∙ dropped_first (get_or ids i 0) (drop (i + 1) ids) ss
    ∙ ap (λ (xs : List ℕ). filter (λ (s : BoxAt). not (among s.id xs)) ss) (sym (next_of ids i (omega arith)))
    ∙ c.loop-id.invariant

pub returns : goal.returns
returns g c =
    let ss = seats_held (λ b. (g.dyn-1.0.entry b.vtable).1) c.loop-id.boxes in
    sym (ap (λ (xs : List ℕ). filter (λ (s : BoxAt). not (among s.id xs)) ss) (none_of_them c.args.ids.now c.loop-id.id-index (omega arith)) ∙ dropped_last ss)
    ∙ c.loop-id.invariant
