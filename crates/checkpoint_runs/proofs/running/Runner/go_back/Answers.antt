use Rattle.std.proofs.Common.{◌≡◌, Some, None, option_map, refl, sym, ap, ◌∙◌, subst}
use Rattle.kernel_actions.specs.declared.position.Position.{Position}
use Rattle.kernel.specs.Kernels.{boxes_in, world_in}
use Rattle.run_semantics.specs.Laws.{GoesOn}
use Rattle.run_semantics.specs.World.{World}
use Rattle.checkpoints.specs.Stored.{counts_in, Timeline}
use Rattle.kernel_boxes.specs.Saved.{seats_held}
use Rattle.checkpoint_runs.specs.Kept.{standing_in, AreGood}
use Rattle.checkpoint_runs.specs.Running.{kept_back, needed_back}
use Rattle.checkpoint_runs.specs.Positions.{CanGoOn}
use Rattle.checkpoint_runs.specs.declared.phases.Stood.TheVariants as stood
use Rattle.checkpoint_runs.proofs.Back.{back_needs, boxes_back}
use Rattle.checkpoint_runs.proofs.Counting.{back_stored, kept_counts, left_stored, on_err, start_is}
use Rattle.checkpoint_runs.proofs.Good.{back_at, can_go_on_last, good_back, good_found, good_on, good_rises, good_states, good_up_to, grown_beside}
use Rattle.checkpoint_runs.proofs.running.Runner.go_back.Goals as goal

pub returns-in_default-clause-back : goal.returns-in_default-clause-back
returns-in_default-clause-back g c = (start_is c.args.limit c.args.self.now.positions.stored ∙ ap (option_map (λ (p : Position). p.count)) (sym c.in_default.ensures), refl)

pub go_back-back-requires : goal.go_back-back-requires
go_back-back-requires g c =
    let b = g.C.Catalogue.behaviour in
    let m = g.M.ModelMarker.answers in
    let w = world_in (λ b. (g.dyn-1.0.entry b.vtable).1) c.args.self.now.kernel in
    let p = c.in-Some.position.now in
    let found = good_found b m c.args.limit w p c.args.self.now.positions.stored c.requires.good (sym c.in-Some.ensures) in
    record {
      kinds = c.requires.kinds;
      rising = good_rises b m w p found;
      states = good_states b g.C.Catalogue.lawful m w p found;
    }

-- of the positions those up to where it goes back are good
pub returns-in_err-request-clause-good : goal.returns-in_err-request-clause-good
returns-in_err-request-clause-good g c =
    let b = g.C.Catalogue.behaviour in
    let m = g.M.ModelMarker.answers in
    let w = world_in (λ b. (g.dyn-1.0.entry b.vtable).1) c.args.self.now.kernel in
    let u = world_in (λ b. (g.dyn-1.0.entry b.vtable).1) c.go_back-back.new.self in
    subst (λ ps. AreGood b m u ps) (sym (ap (λ (t : Timeline Position). t.stored) c.cut_after.ensures ∙ left_stored c.args.self.now.positions _))
    (good_on b m w u _ (grown_beside u w c.in_err-request.ensures.err) (good_up_to b m w c.count-start.result c.args.self.now.positions.stored c.requires.good))

pub returns-in-Some-2-clause-good : goal.returns-in-Some-2-clause-good
returns-in-Some-2-clause-good g c =
    let b = g.C.Catalogue.behaviour in
    let m = g.M.ModelMarker.answers in
    let w = world_in (λ b. (g.dyn-1.0.entry b.vtable).1) c.args.self.now.kernel in
    let u = world_in (λ b. (g.dyn-1.0.entry b.vtable).1) c.go_back-back.new.self in
    subst (λ ps. AreGood b m u ps) (sym (ap (λ (t : Timeline Position). t.stored) c.cut_after.ensures ∙ left_stored c.args.self.now.positions _))
    (good_on b m w u _ (grown_beside u w (rw c.in-Some-2.is at c.in_ok-request.ensures.waits)) (good_up_to b m w c.count-start.result c.args.self.now.positions.stored c.requires.good))

pub returns-in_err-request-clause-err : goal.returns-in_err-request-clause-err
returns-in_err-request-clause-err g c =
    let b = g.C.Catalogue.behaviour in
    let m = g.M.ModelMarker.answers in
    let old = c.args.self.now in
    let start = start_is c.args.limit old.positions.stored ∙ ap (option_map (λ (p : Position). p.count)) (sym c.in-Some.ensures) ∙ ap Some (sym c.count-start.ensures) in
    let going = can_go_on_last b m c.args.limit (world_in (λ b. (g.dyn-1.0.entry b.vtable).1) old.kernel) c.in-Some.position.now old.positions.stored c.requires.good (sym c.in-Some.ensures) in
    on_err c.from_residual.result
    (back_stored b m c.args.limit c.count-start.result (counts_in old.positions) (counts_in c.cut_after.new.self) start
    (subst (CanGoOn b m) (sym c.count-start.ensures) going) (ap counts_in c.cut_after.ensures ∙ kept_counts (Some c.count-start.result) old.positions))

-- it waits for a box
pub returns-in-Some-2-clause-back : goal.returns-in-Some-2-clause-back
returns-in-Some-2-clause-back g c =
    let b = g.C.Catalogue.behaviour in
    let m = g.M.ModelMarker.answers in
    let old = c.args.self.now in
    let w = world_in (λ b. (g.dyn-1.0.entry b.vtable).1) old.kernel in
    let p = c.in-Some.position.now in
    let ss = boxes_in (λ b. (g.dyn-1.0.entry b.vtable).1) old.kernel in
    let ts = boxes_in (λ b. (g.dyn-1.0.entry b.vtable).1) c.go_back-back.new.self in
    let found = good_found b m c.args.limit w p old.positions.stored c.requires.good (sym c.in-Some.ensures) in
    let start = start_is c.args.limit old.positions.stored ∙ ap (option_map (λ (p : Position). p.count)) (sym c.in-Some.ensures) ∙ ap Some (sym c.count-start.ensures) in
    let empty = ap (seats_held (λ b. (g.dyn-1.0.entry b.vtable).1)) c.clear.ensures in
    let some = rw c.in-Some-2.is at c.in_ok-request.ensures.wanted in (
      c.count-start.result,
      start,
      record {
        going = subst (CanGoOn b m) (sym c.count-start.ensures) (can_go_on_last b m c.args.limit w p old.positions.stored c.requires.good (sym c.in-Some.ensures));
        none = empty;
        kept = boxes_back b m w p ss ts found c.go_back-back.ensures.kept ∙ ap (λ k. kept_back b m k (standing_in (λ b. (g.dyn-1.0.entry b.vtable).1) old)) (sym c.count-start.ensures);
        wanted = subst (λ k. needed_back b m k (kept_back b m k (standing_in (λ b. (g.dyn-1.0.entry b.vtable).1) old)) ≡ Some c.in-Some-2.request) (sym c.count-start.ensures) (sym (some ∙ back_needs b m w p ss found));
        positions = c.cut_after.ensures;
        stood = refl;
      },
    )

-- or it is where it stood then
pub returns-in-None-clause-good : goal.returns-in-None-clause-good
returns-in-None-clause-good g c =
    let b = g.C.Catalogue.behaviour in
    let m = g.M.ModelMarker.answers in
    let back = back_at b m c.args.limit (world_in (λ b. (g.dyn-1.0.entry b.vtable).1) c.args.self.now.kernel) (world_in (λ b. (g.dyn-1.0.entry b.vtable).1) c.go_back-back.new.self) c.in-Some.position.now c.args.self.now.positions.stored c.cut_after.new.self.stored
    c.requires.good (sym c.in-Some.ensures) (c.in_ok-request.ensures.ok c.in-None.is)
    (ap (λ (t : Timeline Position). t.stored) (rw c.count-start.ensures at c.cut_after.ensures) ∙ left_stored c.args.self.now.positions _) in
    back.good

pub returns-in-None-clause-back : goal.returns-in-None-clause-back
returns-in-None-clause-back g c =
    let b = g.C.Catalogue.behaviour in
    let m = g.M.ModelMarker.answers in
    let old = c.args.self.now in
    let w = world_in (λ b. (g.dyn-1.0.entry b.vtable).1) old.kernel in
    let p = c.in-Some.position.now in
    let ss = boxes_in (λ b. (g.dyn-1.0.entry b.vtable).1) old.kernel in
    let found = good_found b m c.args.limit w p old.positions.stored c.requires.good (sym c.in-Some.ensures) in
    let start = start_is c.args.limit old.positions.stored ∙ ap (option_map (λ (p : Position). p.count)) (sym c.in-Some.ensures) ∙ ap Some (sym c.count-start.ensures) in
    let without = rw c.in-None.is at c.in_ok-request.ensures.wanted in
    let back = back_at b m c.args.limit w (world_in (λ b. (g.dyn-1.0.entry b.vtable).1) c.go_back-back.new.self) p old.positions.stored c.cut_after.new.self.stored
    c.requires.good (sym c.in-Some.ensures) (c.in_ok-request.ensures.ok c.in-None.is)
    (ap (λ (t : Timeline Position). t.stored) (rw c.count-start.ensures at c.cut_after.ensures) ∙ left_stored old.positions _) in (
      start,
      record {
        going = record { going = back.going; within = back.within; room = back.room; good = back.good; below = back.below; stood = ap stood.After (c.count-start.ensures ∙ sym back.count) };
        count = back.count ∙ sym c.count-start.ensures;
        records = subst (λ (v : World). GoesOn v.records w.records) (sym (c.in_ok-request.ensures.ok c.in-None.is ∙ good_back b m w p found)) found.grown.records;
        none = ap (seats_held (λ b. (g.dyn-1.0.entry b.vtable).1)) c.clear.ensures;
        needs_none = subst (λ k. needed_back b m k (kept_back b m k (standing_in (λ b. (g.dyn-1.0.entry b.vtable).1) old)) ≡ None) (sym c.count-start.ensures) (sym (without ∙ back_needs b m w p ss found));
        positions = c.cut_after.ensures;
      },
    )

-- where it stands if memory runs out
pub returns-in_err-request-clause-stood : goal.returns-in_err-request-clause-stood
returns-in_err-request-clause-stood g c =
    let old = c.args.self.now in
    let start = start_is c.args.limit old.positions.stored ∙ ap (option_map (λ (p : Position). p.count)) (sym c.in-Some.ensures) ∙ ap Some (sym c.count-start.ensures) in
    on_err c.from_residual.result (c.count-start.result, start, refl)
