use Rattle.std.proofs.Common.{◌≡◌, ◌&&◌, false, nat_lt, Some, sym, ap, ◌∙◌, arith, subst}
use Rattle.checkpoints.specs.Stored.{counts_in}
use Rattle.kernel.specs.Kernels.{world_in}
use Rattle.run_semantics.specs.Run.{run_to}
use Rattle.checkpoint_runs.specs.Kept.{standing_in, supplied_in, waiting_in}
use Rattle.checkpoint_runs.specs.Positions.{HasBegun, HasLeft}
use Rattle.checkpoint_runs.specs.Running.{refused_if}
use Rattle.kernel_boxes.specs.Saved.{seats_held}
use Rattle.checkpoint_runs.specs.declared.phases.Stood.TheVariants as stood
use Rattle.checkpoint_runs.proofs.Advancing.{at_the_limit, goes_there, not_declined, onwards_progress, refused_ended}
use Rattle.checkpoint_runs.proofs.Leaving.{refused_left_boxes}
use Rattle.checkpoint_runs.proofs.Observing.{both_hold, on_declined, on_waited, told_in_progress, told_nothing, until_ended, until_nothing, until_on}
use Rattle.checkpoint_runs.specs.Observing.{last_told, went_on}
use Rattle.checkpoints.specs.Stored.{counts_of}
use Rattle.checkpoint_runs.proofs.running.Runner.go_on.Goals as goal
use Rattle.checkpoint_runs.proofs.running.Runner.go_on.Goals.{else-at-via-then-at+else-at-limit, else-at-via-else-at}

-- the run of the model goes on from there
pub run_on-requires-clause-going : goal.run_on-requires-clause-going
run_on-requires-clause-going g c = goes_there g.C.Catalogue.behaviour g.M.ModelMarker.answers (λ b. (g.dyn-1.0.entry b.vtable).1) c.args.limit c.args.at c.args.self.now c.requires.waited c.requires.good

pub run_on-requires-clause-first : goal.run_on-requires-clause-first
run_on-requires-clause-first g c = c.requires.waited.paused.first

pub returns-in_err-status-clause-stopped : goal.returns-in_err-status-clause-stopped
returns-in_err-status-clause-stopped g c =
    let b = g.C.Catalogue.behaviour in
    let m = g.M.ModelMarker.answers in
    subst (λ n. HasBegun b m c.args.limit n (counts_in c.args.self.now.positions) c.run_on.new.self.stood (counts_in c.run_on.new.self.positions)) c.requires.waited.paused.count c.run_on.ensures.stopped

pub returns-clause-advances : goal.returns-clause-advances
returns-clause-advances g c = λ setup.
    let b = g.C.Catalogue.behaviour in
    let m = g.M.ModelMarker.answers in
    let old = c.args.self.now in
    let h = c.requires.waited in
    let going : (c.args.at.declined && nat_lt c.args.at.count c.args.limit) ≡ false = elim c.else-at.branch [ else-at-via-then-at+else-at-limit w ↦ at_the_limit c.args.at.declined c.args.at.count c.args.limit w.if-at-limit.false | else-at-via-else-at w ↦ not_declined c.args.at.declined (nat_lt c.args.at.count c.args.limit) w.if-at.false ] in
    rw (c.progress_of.ensures, c.count.ensures)
    (onwards_progress b m (λ b. (g.dyn-1.0.entry b.vtable).1) c.args.limit c.args.at setup (standing_in (λ b. (g.dyn-1.0.entry b.vtable).1) old) (record old { stood = stood.After c.args.at.count }) c.run_on.new.self c.in_ok-status.status going h.within h.paused h.began c.in_ok-status.ensures.ran)

pub returns-then-at-limit-clause-advances : goal.returns-then-at-limit-clause-advances
returns-then-at-limit-clause-advances g c = λ setup.
    let b = g.C.Catalogue.behaviour in
    let m = g.M.ModelMarker.answers in
    let old = c.args.self.now in
    let new = c.run_refused.new.self in
    let h = c.requires.waited in
    let left = subst (λ n. HasLeft n (counts_in old.positions) (counts_in new.positions) (run_to b m c.args.limit)) h.paused.count c.in_ok-outcome.ensures.left in
    refused_ended b m c.args.limit c.args.at setup (standing_in (λ b. (g.dyn-1.0.entry b.vtable).1) old) (supplied_in (λ b. (g.dyn-1.0.entry b.vtable).1) old) (counts_in old.positions) (counts_in new.positions) (world_in (λ b. (g.dyn-1.0.entry b.vtable).1) new.kernel) (waiting_in (λ b. (g.dyn-1.0.entry b.vtable).1) new) c.in_ok-outcome.outcome c.if-at.true h.began c.in_ok-outcome.ensures.ran left
    (refused_left_boxes b m c.args.limit c.args.at.count (world_in (λ b. (g.dyn-1.0.entry b.vtable).1) old.kernel) (waiting_in (λ b. (g.dyn-1.0.entry b.vtable).1) old) (waiting_in (λ b. (g.dyn-1.0.entry b.vtable).1) new) h.paused.going (omega (arith, c.if-at-limit.true)) h.paused.first (subst (λ d. refused_if b m (world_in (λ b. (g.dyn-1.0.entry b.vtable).1) old.kernel) (waiting_in (λ b. (g.dyn-1.0.entry b.vtable).1) old) d) c.if-at.true h.refused) (ap (seats_held (λ b. (g.dyn-1.0.entry b.vtable).1)) c.run_refused.ensures.waiting))

-- its box was declined
pub run_refused-requires-clause-going : goal.run_refused-requires-clause-going
run_refused-requires-clause-going g c = goes_there g.C.Catalogue.behaviour g.M.ModelMarker.answers (λ b. (g.dyn-1.0.entry b.vtable).1) c.args.limit c.args.at c.args.self.now c.requires.waited c.requires.good

-- ---- what is told of it

pub returns-in_err-outcome-clause-until : goal.returns-in_err-outcome-clause-until
returns-in_err-outcome-clause-until g c =
    let b = g.C.Catalogue.behaviour in
    let m = g.M.ModelMarker.answers in
    let stored = counts_of c.args.self.now.positions.stored in
    let on = went_on b m c.args.limit (Some c.args.at) stored in
    let none = on_declined b m c.args.limit c.args.at stored (both_hold c.args.at.declined c.args.at.count c.args.limit c.if-at.true c.if-at-limit.true) in
    until_nothing b m c.args.limit c.args.at.count on g.W.Observer.told c.args.observer.now c.run_refused.new.self.stood none c.in_err-outcome.ensures.stood

pub returns-then-at-limit-clause-until : goal.returns-then-at-limit-clause-until
returns-then-at-limit-clause-until g c =
    let b = g.C.Catalogue.behaviour in
    let m = g.M.ModelMarker.answers in
    let stored = counts_of c.args.self.now.positions.stored in
    let on = went_on b m c.args.limit (Some c.args.at) stored in
    let none = on_declined b m c.args.limit c.args.at stored (both_hold c.args.at.declined c.args.at.count c.args.limit c.if-at.true c.if-at-limit.true) in
    until_ended b m c.args.limit on g.W.Observer.told c.args.observer.now c.run_refused.new.self.stood none c.in_ok-outcome.ensures.ending

pub returns-then-at-limit-clause-told : goal.returns-then-at-limit-clause-told
returns-then-at-limit-clause-told g c =
    let b = g.C.Catalogue.behaviour in
    let m = g.M.ModelMarker.answers in
    let stored = counts_of c.args.self.now.positions.stored in
    let on = went_on b m c.args.limit (Some c.args.at) stored in
    let none = on_declined b m c.args.limit c.args.at stored (both_hold c.args.at.declined c.args.at.count c.args.limit c.if-at.true c.if-at-limit.true) in
    told_nothing b m c.args.limit (last_told b m c.args.limit) on g.W.Observer.told c.args.observer.now none

pub returns-in_err-status-clause-until : goal.returns-in_err-status-clause-until
returns-in_err-status-clause-until g c =
    let b = g.C.Catalogue.behaviour in
    let m = g.M.ModelMarker.answers in
    let stored = counts_of c.args.self.now.positions.stored in
    let on = went_on b m c.args.limit (Some c.args.at) stored in
    let going : (c.args.at.declined && nat_lt c.args.at.count c.args.limit) ≡ false = elim c.else-at.branch [ else-at-via-then-at+else-at-limit w ↦ at_the_limit c.args.at.declined c.args.at.count c.args.limit w.if-at-limit.false | else-at-via-else-at w ↦ not_declined c.args.at.declined (nat_lt c.args.at.count c.args.limit) w.if-at.false ] in
    let there = Some (world_in (λ b. (g.dyn-1.0.entry b.vtable).1) c.args.self.now.kernel).count in
    let here = on_waited b m c.args.limit c.args.at stored going ∙ ap Some (sym c.requires.waited.paused.count) in
    until_on b m c.args.limit on there g.W.Observer.told c.args.observer.now c.run_on.new.observer c.run_on.new.self.stood here c.run_on.ensures.until

pub returns-clause-until : goal.returns-clause-until
returns-clause-until g c =
    let b = g.C.Catalogue.behaviour in
    let m = g.M.ModelMarker.answers in
    let stored = counts_of c.args.self.now.positions.stored in
    let on = went_on b m c.args.limit (Some c.args.at) stored in
    let going : (c.args.at.declined && nat_lt c.args.at.count c.args.limit) ≡ false = elim c.else-at.branch [ else-at-via-then-at+else-at-limit w ↦ at_the_limit c.args.at.declined c.args.at.count c.args.limit w.if-at-limit.false | else-at-via-else-at w ↦ not_declined c.args.at.declined (nat_lt c.args.at.count c.args.limit) w.if-at.false ] in
    let there = Some (world_in (λ b. (g.dyn-1.0.entry b.vtable).1) c.args.self.now.kernel).count in
    let here = on_waited b m c.args.limit c.args.at stored going ∙ ap Some (sym c.requires.waited.paused.count) in
    until_on b m c.args.limit on there g.W.Observer.told c.args.observer.now c.run_on.new.observer c.run_on.new.self.stood here c.run_on.ensures.until

pub returns-clause-told : goal.returns-clause-told
returns-clause-told g c =
    let b = g.C.Catalogue.behaviour in
    let m = g.M.ModelMarker.answers in
    let stored = counts_of c.args.self.now.positions.stored in
    let on = went_on b m c.args.limit (Some c.args.at) stored in
    let going : (c.args.at.declined && nat_lt c.args.at.count c.args.limit) ≡ false = elim c.else-at.branch [ else-at-via-then-at+else-at-limit w ↦ at_the_limit c.args.at.declined c.args.at.count c.args.limit w.if-at-limit.false | else-at-via-else-at w ↦ not_declined c.args.at.declined (nat_lt c.args.at.count c.args.limit) w.if-at.false ] in
    let there = Some (world_in (λ b. (g.dyn-1.0.entry b.vtable).1) c.args.self.now.kernel).count in
    let here = on_waited b m c.args.limit c.args.at stored going ∙ ap Some (sym c.requires.waited.paused.count) in
    rw (c.progress_of.ensures, c.count.ensures)
    (told_in_progress b m c.args.limit (world_in (λ b. (g.dyn-1.0.entry b.vtable).1) c.run_on.new.self.kernel).count on there c.args.at.from g.W.Observer.told c.args.observer.now c.run_on.new.observer c.in_ok-status.status here c.in_ok-status.ensures.told)
