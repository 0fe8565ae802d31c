use Rattle.std.proofs.Common.{ap, arith}
use Rattle.run_semantics.specs.World.{World}
use Rattle.kernel.specs.Kernels.{boxes_in, world_in}
use Rattle.kernel.specs.Seats.{world_of}
use Rattle.kernel.proofs.Rooms.{started_room}
use Rattle.kernel.proofs.Shown.{shown_grows}
use Rattle.kernel.proofs.Starting.{modules_begun, most_told}
use Rattle.kernel.proofs.kernel.Kernel.begin_modules.Goals as goal

pub returns-clause-step : goal.returns-clause-step
returns-clause-step g c =
    let before = world_in (λ b. (g.dyn-1.0.entry b.vtable).1) c.args.self.now in
    let seats = boxes_in (λ b. (g.dyn-1.0.entry b.vtable).1) c.args.self.now in
    modules_begun g.C.Catalogue.behaviour g.A.Answers.answers before (world_of c.mark_started.new.self seats) c.args.ids.now c.in_ok-calls.calls c.as_slice.result.now c.as_slice-2.result.now c.args.first c.most_stages-most.result _ c.in_ok-turn.ensures.step
    (ap (λ (core : World). world_of core seats) c.in_ok-mark_started.ensures.done) c.most_stages-most.ensures c.as_slice.ensures c.as_slice-2.ensures c.in_ok-calls.ensures

pub returns-clause-few : goal.returns-clause-few
returns-clause-few g c calls =
    let before = world_in (λ b. (g.dyn-1.0.entry b.vtable).1) c.args.self.now in
    let stages = most_told g.C.Catalogue.behaviour before c.args.ids.now c.in_ok-calls.calls c.as_slice.result.now c.args.first c.most_stages-most.result c.most_stages-most.ensures c.as_slice.ensures c.in_ok-calls.ensures in
    started_room g.C.Catalogue.behaviour g.A.Answers.answers c.args.ids.now c.args.first before (world_in (λ b. (g.dyn-1.0.entry b.vtable).1) c.stages.new.self) c.in_ok-turn.turn (returns-clause-step g c) (omega (arith, stages, c.stages.ensures.few)) calls

pub returns-in_err-mark_started-clause-shown : goal.returns-in_err-mark_started-clause-shown
returns-in_err-mark_started-clause-shown g c = shown_grows g.A.Answers.answers c.args.self.now.core c.mark_started.new.self c.args.shown.now c.mark_started.ensures.grown c.requires.shown
