-- what is dropped from here leaves what is left of all
use Rattle.std.proofs.Common.{◌≡◌, not, drop}
use Rattle.std.specs.List.{filter}
use Rattle.run_semantics.specs.Subtree.{among}
use Rattle.kernel_boxes.specs.Saved.{seats_held}
use Rattle.kernel_boxes.proofs.dropping.drop_those.Given as goal

abbrev pub invariant-loop-id : goal.invariant-loop-id
invariant-loop-id g l =
    filter (λ s. not (among s.id (drop l.id-index l.ids))) (seats_held (λ b. (g.dyn-1.0.entry b.vtable).1) l.boxes)
    ≡ filter (λ s. not (among s.id l.ids)) (seats_held (λ b. (g.dyn-1.0.entry b.vtable).1) l.fn.boxes)
