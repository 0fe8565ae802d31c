use Rattle.std.proofs.Common.{sym, ap, ◌∙◌, map, option_map}
use Rattle.module_tree.specs.Boxes.{box_of, with_box}
use Rattle.module_tree.proofs.Seats.{gone}
use Rattle.kernel_boxes.specs.Seats.{seat_of}
use Rattle.kernel_boxes.proofs.Seating.{means_in, none_out_of, put_back_in}
use Rattle.kernel.proofs.kernel.Kernel.reply_of.Goals as goal

pub returns-in_default-clause-served : goal.returns-in_default-clause-served
returns-in_default-clause-served g c =
    let none = sym c.take.ensures.value ∙ c.in_default.is in (
      means_in (λ v. (g.dyn-1.0.entry v.vtable).1.meaning v.value) c.args.call.now.id c.args.self.now.boxes.seats ∙ ap (option_map (λ v. (g.dyn-1.0.entry v.vtable).1.meaning v.value)) none,
      ap (λ h. map (seat_of (λ b. (g.dyn-1.0.entry b.vtable).1)) h.seats) c.take.ensures.rest ∙ none_out_of (λ v. (g.dyn-1.0.entry v.vtable).1.meaning v.value) c.args.call.now.id c.args.self.now.boxes.seats none,
    )

pub put_back-requires-clause-free : goal.put_back-requires-clause-free
put_back-requires-clause-free g c =
    ap (λ h. box_of c.args.call.now.id h.seats) c.take.ensures.rest ∙ gone c.args.call.now.id c.args.self.now.boxes.room 0 c.args.self.now.boxes.seats c.take.ensures.rising

pub returns-clause-served : goal.returns-clause-served
returns-clause-served g c =
    let some = sym c.take.ensures.value ∙ c.in-Some.is in
    record {
      before = (g.dyn-1.0.entry c.in-Some.held.vtable).1.meaning c.in-Some.held.value;
      after = (g.dyn-1.0.entry c.serve-reply.new.held.vtable).1.meaning c.serve-reply.new.held.value;
      found = means_in (λ v. (g.dyn-1.0.entry v.vtable).1.meaning v.value) c.args.call.now.id c.args.self.now.boxes.seats ∙ ap (option_map (λ v. (g.dyn-1.0.entry v.vtable).1.meaning v.value)) some;
      answered = c.serve-reply.ensures.answered;
      same = c.serve-reply.ensures.same;
      seats =
          ap (λ h. map (seat_of (λ b. (g.dyn-1.0.entry b.vtable).1)) h.seats) c.put_back.ensures
          ∙ ap (λ h. map (seat_of (λ b. (g.dyn-1.0.entry b.vtable).1)) (with_box c.args.call.now.id c.serve-reply.new.held h.seats)) c.take.ensures.rest
          ∙ put_back_in (λ v. (g.dyn-1.0.entry v.vtable).1.meaning v.value) c.args.call.now.id c.args.self.now.boxes.room c.in-Some.held c.serve-reply.new.held c.args.self.now.boxes.seats c.take.ensures.rising some;
    }
