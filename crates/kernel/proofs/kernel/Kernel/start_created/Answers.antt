use Rattle.std.proofs.Common.{map, ap, subst, sym, ◌∙◌}
use Rattle.run_semantics.specs.Run.{needs_of, starting}
use Rattle.kernel_boxes.specs.Seats.{AreOfKinds, instance_of, seat_of}
use Rattle.kernel_boxes.specs.Saved.{seats_held}
use Rattle.kernel.specs.Kernels.{boxes_in, world_in}
use Rattle.kernel.specs.Starts.{HasFewCalls}
use Rattle.kernel.proofs.Calls.{start_calls}
use Rattle.kernel.proofs.Taken.{created_start, fresh_free, starting_free, taken_grows, taken_instances, taken_kinds}
use Rattle.kernel.proofs.Calling.{boxed_grows}
use Rattle.kernel.proofs.Waiting.{fresh_kinds}
use Rattle.kernel_actions.proofs.Lasting.{growth_same}
use Rattle.kernel.proofs.kernel.Kernel.start_created.Goals as goal

pub take_in-requires : goal.take_in-requires
take_in-requires g c =
    let before = world_in (λ b. (g.dyn-1.0.entry b.vtable).1) c.args.self.now in
    let seats = boxes_in (λ b. (g.dyn-1.0.entry b.vtable).1) c.args.self.now in
    fresh_free (λ v. (g.dyn-1.0.entry v.vtable).1.meaning v.value) g.C.Catalogue.behaviour (needs_of (starting c.args.first c.args.last before) before) c.args.waiting.now.seats c.args.self.now.boxes.seats c.requires.fresh
    (starting_free c.args.first c.args.last before seats c.requires.modules.stands)

pub begin_modules-requires-clause-callable : goal.begin_modules-requires-clause-callable
begin_modules-requires-clause-callable g c =
    let before = world_in (λ b. (g.dyn-1.0.entry b.vtable).1) c.args.self.now in
    record {
      room = c.requires.callable.room;
      kinds = subst (λ ss. AreOfKinds g.C.Catalogue.behaviour (map (seat_of (λ b. (g.dyn-1.0.entry b.vtable).1)) ss)) (sym c.in_ok-take_in.ensures.all)
          (taken_kinds (λ v. (g.dyn-1.0.entry v.vtable).1.meaning v.value) g.C.Catalogue.behaviour c.args.waiting.now.seats c.args.self.now.boxes.seats
          (fresh_kinds g.C.Catalogue.behaviour (needs_of (starting c.args.first c.args.last before) before) (seats_held (λ b. (g.dyn-1.0.entry b.vtable).1) c.args.waiting.now) c.requires.fresh) c.requires.callable.kinds);
    }

pub returns-clause-none : goal.returns-clause-none
returns-clause-none g c = ap (map (seat_of (λ b. (g.dyn-1.0.entry b.vtable).1))) c.in_ok-take_in.ensures.none

pub returns-clause-step : goal.returns-clause-step
returns-clause-step g c =
    let before = world_in (λ b. (g.dyn-1.0.entry b.vtable).1) c.args.self.now in
    created_start g.C.Catalogue.behaviour g.A.Answers.answers c.as_slice.result.now (starting c.args.first c.args.last before) c.args.first c.args.self.now.core (boxes_in (λ b. (g.dyn-1.0.entry b.vtable).1) c.args.self.now) (map (seat_of (λ b. (g.dyn-1.0.entry b.vtable).1)) c.take_in.new.self.seats)
    (seats_held (λ b. (g.dyn-1.0.entry b.vtable).1) c.args.waiting.now) _ c.requires.fresh
    (ap (λ ss. map instance_of (map (seat_of (λ b. (g.dyn-1.0.entry b.vtable).1)) ss)) c.in_ok-take_in.ensures.all ∙ taken_instances (λ v. (g.dyn-1.0.entry v.vtable).1.meaning v.value) c.args.waiting.now.seats c.args.self.now.boxes.seats)
    (c.as_slice.ensures ∙ c.in_ok-ids.ensures) c.in_ok-turn.ensures.step

pub returns-clause-room : goal.returns-clause-room
returns-clause-room g c =
    let before = world_in (λ b. (g.dyn-1.0.entry b.vtable).1) c.args.self.now in
    let kept = c.in_ok-turn.ensures.few (subst (λ ids. HasFewCalls before ids c.args.first) (sym (c.as_slice.ensures ∙ c.in_ok-ids.ensures)) (start_calls c.args.first c.args.last before c.requires.modules.few)) in
    record { count = kept.count; next = kept.next }

pub returns-clause-grown : goal.returns-clause-grown
returns-clause-grown g c = taken_grows c.args.self.now.core (world_in (λ b. (g.dyn-1.0.entry b.vtable).1) c.begin_modules.new.self) (boxes_in (λ b. (g.dyn-1.0.entry b.vtable).1) c.args.self.now) (map (seat_of (λ b. (g.dyn-1.0.entry b.vtable).1)) c.take_in.new.self.seats) c.begin_modules.ensures.grown

pub returns-in_err-take_in-clause-kinds : goal.returns-in_err-take_in-clause-kinds
returns-in_err-take_in-clause-kinds g c = subst (λ ss. AreOfKinds g.C.Catalogue.behaviour (map (seat_of (λ b. (g.dyn-1.0.entry b.vtable).1)) ss)) (sym c.in_err-take_in.ensures.same) c.requires.callable.kinds

pub returns-in_err-take_in-clause-grown : goal.returns-in_err-take_in-clause-grown
returns-in_err-take_in-clause-grown g c = boxed_grows c.args.self.now.core c.args.self.now.core (boxes_in (λ b. (g.dyn-1.0.entry b.vtable).1) c.args.self.now) (map (seat_of (λ b. (g.dyn-1.0.entry b.vtable).1)) c.take_in.new.self.seats) (growth_same c.args.self.now.core)
