use Rattle.std.proofs.Common.{◌≡◌, ◌+◌, ◌∙◌, sym, ap, arith, List, refl}
use Rattle.std.specs.List.{filter}
use Rattle.run_semantics.specs.declared.traces.Instance.{Instance}
use Rattle.kernel_boxes.specs.Saved.{seats_held}
use Rattle.kernel_boxes.specs.Staying.{after_id, stays_at}
use Rattle.kernel_boxes.proofs.Saving.{seats_rise}
use Rattle.kernel_boxes.proofs.Going.{all_from, both_pass, first_passed, from_id, last_passed, next_left, passed, passes_on}
use Rattle.kernel_boxes.proofs.going_back.drop_others.Goals as goal

pub loop-index-init : goal.loop-index-init
loop-index-init g c = record {
  seats = sym (first_passed c.args.saved.now (seats_held (λ b. (g.dyn-1.0.entry b.vtable).1) c.args.boxes.now));
  left = sym (all_from c.args.saved.now);
  room = refl;
}

pub loop-index-preserved : goal.loop-index-preserved
loop-index-preserved g c =
    let ss = seats_held (λ b. (g.dyn-1.0.entry b.vtable).1) c.args.boxes.now in
    let saved = c.args.saved.now in
    let n = c.loop-index.index in record {
      seats =
          c.drop_other.ensures.seats
          ∙ ap (filter (stays_at n c.loop-index.left.now)) c.loop-index.invariant.seats
          ∙ ap (λ (is : List Instance). filter (stays_at n is) (filter (passed n saved) ss)) c.loop-index.invariant.left
          ∙ both_pass (stays_at n (from_id n saved)) (passed n saved) (passed (n + 1) saved) ss (λ s. passes_on n saved s c.requires);
      left = c.after_id-left.ensures ∙ ap (after_id n) c.loop-index.invariant.left ∙ next_left 0 n saved c.requires;
      room = c.drop_other.ensures.room ∙ c.loop-index.invariant.room;
    }

pub returns : goal.returns
returns g c =
    let ss = seats_held (λ b. (g.dyn-1.0.entry b.vtable).1) c.args.boxes.now in
    let last : c.loop-index.index ≡ c.args.boxes.now.room = omega (arith, c.loop-index-test.false, c.loop-index.auto.index-end, c.room-index-end.ensures.room) in
    c.loop-index.invariant.seats
    ∙ ap (λ n. filter (passed n c.args.saved.now) ss) last
    ∙ last_passed c.args.saved.now 0 c.args.boxes.now.room ss (seats_rise (λ v. (g.dyn-1.0.entry v.vtable).1.meaning v.value) 0 c.args.boxes.now.room c.args.boxes.now.seats c.room-index-end.ensures.rising)
