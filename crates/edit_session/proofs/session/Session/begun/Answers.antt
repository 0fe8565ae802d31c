use Rattle.model_answers.specs.Answering.{answers_of}
use Rattle.kernel.specs.Kernels.{boxes_in, world_in}
use Rattle.kernel_boxes.specs.Saved.{seats_held}
use Rattle.edit_session.proofs.Beginning.{begins_fresh}
use Rattle.edit_session.proofs.Valid.{kept_begun}
use Rattle.edit_session.proofs.session.Session.begun.Goals as goal

pub returns-clause-sound : goal.returns-clause-sound
returns-clause-sound g c = record {
  kept = kept_begun g.C.Catalogue.behaviour (boxes_in (λ b. (g.dyn-1.0.entry b.vtable).1) c.new-2.result) (seats_held (λ b. (g.dyn-1.0.entry b.vtable).1) c.new-3.result) (world_in (λ b. (g.dyn-1.0.entry b.vtable).1) c.new-2.result) c.args.model c.args.interval c.new-4.result c.requires c.new-2.ensures.kinds c.new-4.ensures;
  shown = c.new-5.ensures.shown (answers_of c.args.model) (world_in (λ b. (g.dyn-1.0.entry b.vtable).1) c.new-2.result).records;
}

pub returns-clause-editing : goal.returns-clause-editing
returns-clause-editing g c = rw (c.new-4.ensures, c.new-3.ensures) (begins_fresh c.args.model (world_in (λ b. (g.dyn-1.0.entry b.vtable).1) c.new-2.result) c.args.interval c.new-2.ensures.world)
