use Rattle.std.proofs.Common.{◌+◌, List, sym, ap, ◌∙◌, length, drop, slice_get, take, unwrap_or}
use Rattle.run_semantics.specs.Run.{Part, parts_from, standing}
use Rattle.kernel.specs.Seats.{needs}
use Rattle.kernel.specs.Kernels.{world_in}
use Rattle.kernel_boxes.specs.Staying.{first_without}
use Rattle.kernel.proofs.Behind.{next_missing}
use Rattle.kernel.proofs.Waiting.{fresh_standing}
use Rattle.kernel_boxes.specs.Saved.{instances_held, seats_held}
use Rattle.kernel.proofs.kernel.Kernel.missing_part.Goals as goal

pub returns : goal.returns
returns g c =
    let w = world_in (λ b. (g.dyn-1.0.entry b.vtable).1) c.args.self.now in
    let ss = seats_held (λ b. (g.dyn-1.0.entry b.vtable).1) c.args.waiting.now in
    let held : List Part = standing (instances_held (λ b. (g.dyn-1.0.entry b.vtable).1) c.args.waiting.now) in
    let stands = fresh_standing g.C.Catalogue.behaviour (take (length ss) (needs w)) ss c.requires.first ∙ ap (take (length ss)) c.requires.unstarted in
    c.part_behind.ensures
    ∙ ap (λ rs. slice_get (parts_from (c.unwrap_or.result + 1) (drop c.unwrap_or.result rs)) 0) c.records.ensures.records
    ∙ next_missing (λ v. (g.dyn-1.0.entry v.vtable).1.meaning v.value) c.args.self.now.core.records c.args.waiting.now.room c.unwrap_or.result c.args.waiting.now.seats c.last.ensures.rising stands
    (c.unwrap_or.ensures ∙ ap (λ o. unwrap_or o 0) c.last.ensures.last)
    ∙ ap (first_without held) (sym c.requires.unstarted)
