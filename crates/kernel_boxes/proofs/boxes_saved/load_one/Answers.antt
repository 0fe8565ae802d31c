use Rattle.std.proofs.Common.{sym, ap, ◌∙◌, subst, map, option_map}
use Rattle.module_tree.specs.Boxes.{box_of, with_box}
use Rattle.module_tree.proofs.Seats.{gone}
use Rattle.kernel_boxes.specs.Seats.{seat_of}
use Rattle.kernel_boxes.specs.Saved.{Takes, seats_held}
use Rattle.kernel_boxes.proofs.Seating.{means_in, put_back_in}
use Rattle.kernel_boxes.proofs.Saving.{taken, loaded_kept, loaded_state}
use Rattle.kernel_boxes.proofs.boxes_saved.load_one.Goals as goal

-- the box that was there takes the state
pub unwrap-held-requires : goal.unwrap-held-requires
unwrap-held-requires g c =
    taken (λ v. (g.dyn-1.0.entry v.vtable).1.meaning v.value) c.args.state.now c.take.result
    (subst (Takes c.args.state.now) (means_in (λ v. (g.dyn-1.0.entry v.vtable).1.meaning v.value) c.args.id c.args.boxes.now.seats ∙ ap (option_map (λ v. (g.dyn-1.0.entry v.vtable).1.meaning v.value)) (sym c.take.ensures.value)) c.requires)

pub load-loaded-requires : goal.load-loaded-requires
load-loaded-requires g c =
    subst (Takes c.args.state.now) (means_in (λ v. (g.dyn-1.0.entry v.vtable).1.meaning v.value) c.args.id c.args.boxes.now.seats ∙ ap (option_map (λ v. (g.dyn-1.0.entry v.vtable).1.meaning v.value)) (sym c.take.ensures.value ∙ c.unwrap-held.ensures)) c.requires

pub put_back-requires-clause-free : goal.put_back-requires-clause-free
put_back-requires-clause-free g c =
    ap (λ h. box_of c.args.id h.seats) c.take.ensures.rest ∙ gone c.args.id c.args.boxes.now.room 0 c.args.boxes.now.seats c.take.ensures.rising

-- it is still of its kind
pub returns-clause-loaded : goal.returns-clause-loaded
returns-clause-loaded g c =
    let some = sym c.take.ensures.value ∙ c.unwrap-held.ensures in
    record {
      before = (g.dyn-1.0.entry c.unwrap-held.result.vtable).1.meaning c.unwrap-held.result.value;
      after = (g.dyn-1.0.entry c.load-loaded.new.held.vtable).1.meaning c.load-loaded.new.held.value;
      found = means_in (λ v. (g.dyn-1.0.entry v.vtable).1.meaning v.value) c.args.id c.args.boxes.now.seats ∙ ap (option_map (λ v. (g.dyn-1.0.entry v.vtable).1.meaning v.value)) some;
      same = c.load-loaded.ensures.same;
      seats =
          ap (λ h. map (seat_of (λ b. (g.dyn-1.0.entry b.vtable).1)) h.seats) c.put_back.ensures
          ∙ ap (λ h. map (seat_of (λ b. (g.dyn-1.0.entry b.vtable).1)) (with_box c.args.id c.load-loaded.new.held h.seats)) c.take.ensures.rest
          ∙ put_back_in (λ v. (g.dyn-1.0.entry v.vtable).1.meaning v.value) c.args.id c.args.boxes.now.room c.unwrap-held.result c.load-loaded.new.held c.args.boxes.now.seats c.take.ensures.rising some;
    }

pub returns-clause-state : goal.returns-clause-state
unfolding returns-clause-loaded
returns-clause-state g c =
    loaded_state c.args.id c.args.state.now (seats_held (λ b. (g.dyn-1.0.entry b.vtable).1) c.args.boxes.now) (seats_held (λ b. (g.dyn-1.0.entry b.vtable).1) c.put_back.new.self) c.load-loaded.result (returns-clause-loaded g c) c.load-loaded.ensures.state

pub returns-clause-kept : goal.returns-clause-kept
returns-clause-kept g c =
    λ b h. loaded_kept b c.args.id (seats_held (λ b. (g.dyn-1.0.entry b.vtable).1) c.args.boxes.now) (seats_held (λ b. (g.dyn-1.0.entry b.vtable).1) c.put_back.new.self) (returns-clause-loaded g c) h
