use Rattle.std.proofs.Common.{◌∙◌, not, sym, subst}
use Rattle.run_semantics.specs.Subtree.{among}
use Rattle.kernel_boxes.specs.Seats.{BoxAt, AreOfKinds}
use Rattle.kernel_boxes.proofs.Leaving.{kinds_left}
use Rattle.kernel.specs.Kernels.{boxes_in}
use Rattle.kernel.proofs.Dropped.{dropped_goes_on, dropped_stops}
use Rattle.kernel.proofs.kernel.Kernel.drop_subtree.Goals as goal

pub returns-then-is_among-clause-kinds : goal.returns-then-is_among-clause-kinds
returns-then-is_among-clause-kinds g c = subst (AreOfKinds g.C.Catalogue.behaviour) (sym c.drop_those.ensures) (kinds_left g.C.Catalogue.behaviour (λ (s : BoxAt). not (among s.id c.as_slice-2.result.now)) (boxes_in (λ b. (g.dyn-1.0.entry b.vtable).1) c.args.self.now) c.requires.kinds)

pub returns-then-is_among-clause-step : goal.returns-then-is_among-clause-step
returns-then-is_among-clause-step g c = dropped_stops c.args.id c.args.target c.args.self.now.core c.bury.new.self (boxes_in (λ b. (g.dyn-1.0.entry b.vtable).1) c.args.self.now) _ c.in_ok-ids.ids c.as_slice.result.now c.as_slice-2.result.now c.as_slice-3.result.now c.in_ok-ids.ensures c.as_slice.ensures c.as_slice-2.ensures c.as_slice-3.ensures c.in_ok-bury.ensures.done c.drop_those.ensures (sym c.is_among.ensures ∙ c.if-is_among.true)

pub returns-clause-kinds : goal.returns-clause-kinds
returns-clause-kinds g c = subst (AreOfKinds g.C.Catalogue.behaviour) (sym c.drop_those.ensures) (kinds_left g.C.Catalogue.behaviour (λ (s : BoxAt). not (among s.id c.as_slice-2.result.now)) (boxes_in (λ b. (g.dyn-1.0.entry b.vtable).1) c.args.self.now) c.requires.kinds)

pub returns-clause-step : goal.returns-clause-step
returns-clause-step g c = dropped_goes_on c.args.id c.args.target c.args.self.now.core c.bury.new.self (boxes_in (λ b. (g.dyn-1.0.entry b.vtable).1) c.args.self.now) _ c.in_ok-ids.ids c.as_slice.result.now c.as_slice-2.result.now c.as_slice-3.result.now c.in_ok-ids.ensures c.as_slice.ensures c.as_slice-2.ensures c.as_slice-3.ensures c.in_ok-bury.ensures.done c.drop_those.ensures (sym c.is_among.ensures ∙ c.if-is_among.false)
