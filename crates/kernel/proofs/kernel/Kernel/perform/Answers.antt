use Rattle.std.proofs.Common.{◌∙◌, ℕ, Option, Some, ap, sym, map}
use Rattle.sim_time.specs.Time.{time_sum}
use Rattle.module_api.specs.declared.reply.Action.{Action}
use Rattle.run_semantics.specs.Perform.{perform, sent}
use Rattle.kernel_boxes.specs.Seats.{instance_of}
use Rattle.kernel.specs.Kernels.{boxes_in, world_in}
use Rattle.kernel.proofs.Apart.{deed_is}
use Rattle.kernel.proofs.Calling.{ok_step}
use Rattle.kernel.proofs.Creations.{created_is}
use Rattle.kernel.proofs.Sendings.{connected_is, direct_is, disconnected_is, other_is_deed, sent_is}
use Rattle.kernel_actions.proofs.Lasting.{deed_left}
use Rattle.kernel.proofs.kernel.Kernel.perform.Goals as goal

pub returns-in-Send-clause-step : goal.returns-in-Send-clause-step
returns-in-Send-clause-step g c =
    let world = world_in (λ b. (g.dyn-1.0.entry b.vtable).1) c.args.self.now in
    ok_step c.send.result c.send.ensures.flow (λ turn step.
    sent_is (map instance_of (boxes_in (λ b. (g.dyn-1.0.entry b.vtable).1) c.args.self.now)) g.A.Answers.answers c.args.id c.in-Send.gate c.in-Send.message (Some c.clock.result) c.args.self.now.core c.send.new.core turn step
    ∙ ap (λ (t : ℕ). sent g.A.Answers.answers c.args.id c.in-Send.gate c.in-Send.message (Some t) world) c.clock.ensures
    ∙ ap (λ (a : Action). perform g.C.Catalogue.behaviour g.A.Answers.answers c.args.id a world) (sym c.in-Send.is))

pub returns-in-SendDelayed-clause-step : goal.returns-in-SendDelayed-clause-step
returns-in-SendDelayed-clause-step g c =
    let world = world_in (λ b. (g.dyn-1.0.entry b.vtable).1) c.args.self.now in
    ok_step c.send-in-SendDelayed.result c.send-in-SendDelayed.ensures.flow (λ turn step.
    sent_is (map instance_of (boxes_in (λ b. (g.dyn-1.0.entry b.vtable).1) c.args.self.now)) g.A.Answers.answers c.args.id c.in-SendDelayed.gate c.in-SendDelayed.message c.ok-departure.result c.args.self.now.core c.send-in-SendDelayed.new.core turn step
    ∙ ap (λ (d : Option ℕ). sent g.A.Answers.answers c.args.id c.in-SendDelayed.gate c.in-SendDelayed.message d world)
    (c.ok-departure.ensures.value ∙ c.checked_add.ensures ∙ ap (λ (t : ℕ). time_sum t c.in-SendDelayed.delay) c.clock-in-SendDelayed.ensures)
    ∙ ap (λ (a : Action). perform g.C.Catalogue.behaviour g.A.Answers.answers c.args.id a world) (sym c.in-SendDelayed.is))

pub returns-in-SendDirect-clause-step : goal.returns-in-SendDirect-clause-step
returns-in-SendDirect-clause-step g c =
    let world = world_in (λ b. (g.dyn-1.0.entry b.vtable).1) c.args.self.now in
    ok_step c.send_direct.result c.send_direct.ensures.flow (λ turn step.
    direct_is (map instance_of (boxes_in (λ b. (g.dyn-1.0.entry b.vtable).1) c.args.self.now)) g.A.Answers.answers c.args.id c.in-SendDirect.place c.in-SendDirect.message c.in-SendDirect.flight c.args.self.now.core c.send_direct.new.core turn step
    ∙ ap (λ (a : Action). perform g.C.Catalogue.behaviour g.A.Answers.answers c.args.id a world) (sym c.in-SendDirect.is))

pub returns-in-Connect-clause-step : goal.returns-in-Connect-clause-step
returns-in-Connect-clause-step g c =
    let world = world_in (λ b. (g.dyn-1.0.entry b.vtable).1) c.args.self.now in
    ok_step c.connect.result c.connect.ensures.flow (λ turn step.
    connected_is (map instance_of (boxes_in (λ b. (g.dyn-1.0.entry b.vtable).1) c.args.self.now)) g.A.Answers.answers c.args.id c.in-Connect.from c.in-Connect.to c.in-Connect.link c.args.self.now.core c.connect.new.core turn step
    ∙ ap (λ (a : Action). perform g.C.Catalogue.behaviour g.A.Answers.answers c.args.id a world) (sym c.in-Connect.is))

pub returns-in-Disconnect-clause-step : goal.returns-in-Disconnect-clause-step
returns-in-Disconnect-clause-step g c =
    let world = world_in (λ b. (g.dyn-1.0.entry b.vtable).1) c.args.self.now in
    ok_step c.disconnect.result c.disconnect.ensures.flow (λ turn step.
    disconnected_is (map instance_of (boxes_in (λ b. (g.dyn-1.0.entry b.vtable).1) c.args.self.now)) g.A.Answers.answers c.args.id c.in-Disconnect.place c.args.self.now.core c.disconnect.new.core turn step
    ∙ ap (λ (a : Action). perform g.C.Catalogue.behaviour g.A.Answers.answers c.args.id a world) (sym c.in-Disconnect.is))

pub returns-in-Create-clause-step : goal.returns-in-Create-clause-step
returns-in-Create-clause-step g c =
    let world = world_in (λ b. (g.dyn-1.0.entry b.vtable).1) c.args.self.now in
    ok_step c.create.result c.create.ensures.flow (λ turn step.
    created_is (map instance_of (boxes_in (λ b. (g.dyn-1.0.entry b.vtable).1) c.args.self.now)) g.A.Answers.answers c.args.id c.in-Create.creation c.args.self.now.core c.create.new.core turn step
    ∙ ap (λ (a : Action). perform g.C.Catalogue.behaviour g.A.Answers.answers c.args.id a world) (sym c.in-Create.is))

pub returns-in_default : goal.returns-in_default
returns-in_default g c =
    let world = world_in (λ b. (g.dyn-1.0.entry b.vtable).1) c.args.self.now in
    record {
      kinds = c.requires.callable.kinds;
      step = ok_step c.deed.result c.deed.ensures.flow (λ turn step.
          deed_is (map instance_of (boxes_in (λ b. (g.dyn-1.0.entry b.vtable).1) c.args.self.now)) c.args.id c.args.action.now c.args.self.now.core c.deed.new.self turn step
          ∙ sym (other_is_deed g.C.Catalogue.behaviour g.A.Answers.answers c.args.id c.args.action.now world c.in_default.not-Send c.in_default.not-SendDelayed c.in_default.not-SendDirect c.in_default.not-Connect c.in_default.not-Disconnect c.in_default.not-Delete c.in_default.not-Create));
      grown = deed_left c.deed.result c.args.id c.args.action.now c.args.self.now.core c.deed.new.self c.deed.ensures.flow c.deed.ensures.err;
    }
