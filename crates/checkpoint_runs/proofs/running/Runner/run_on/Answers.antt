use Rattle.std.proofs.Common.{◌≡◌, arith, sym, ap, ◌∙◌, subst}
use Rattle.checkpoints.specs.Stored.{counts_of}
use Rattle.kernel.specs.Kernels.{world_in, ran_in}
use Rattle.run_semantics.specs.Ending.{ending}
use Rattle.run_semantics.specs.Run.{is_fault}
use Rattle.checkpoint_runs.specs.Kept.{is_owed}
use Rattle.checkpoint_runs.proofs.Ends.{end_good, end_left}
use Rattle.checkpoint_runs.proofs.Going.{begun_after, begun_owed, owed_below}
use Rattle.checkpoint_runs.proofs.Observing.{told_to_end, until_end, until_executed, until_owed, until_waits}
use Rattle.checkpoint_runs.specs.Telling.{Began}
use Rattle.checkpoint_runs.proofs.running.Runner.run_on.Goals as goal

pub keep_if-requires : goal.keep_if-requires
keep_if-requires g c =
    let from = c.args.self.now.kernel.core.count in
    let mid = c.run_events.new.self in
    let out = rw c.in-Done.is at c.in_ok-request.ensures.ran in
    let due : c.is_owed-due.result ≡ is_owed (is_fault c.in-Done.outcome) mid.kernel.core.count (counts_of mid.positions.stored) =
    rw (c.is_fault.ensures, c.ends_at.ensures.ends, c.count-last.ensures) at c.is_owed-due.ensures in
    record {
      below = λ owed. owed_below g.C.Catalogue.behaviour g.A.Answers.answers from c.args.self.now.positions mid.positions (world_in (λ b. (g.dyn-1.0.entry b.vtable).1) mid.kernel) c.in-Done.outcome
          c.requires.going.below c.ends_at.ensures.rising out.gone (sym due ∙ owed);
    }

pub returns-in_err-keep_if-in-Done-clause-stopped : goal.returns-in_err-keep_if-in-Done-clause-stopped
returns-in_err-keep_if-in-Done-clause-stopped g c =
    let from = c.args.self.now.kernel.core.count in
    let mid = c.run_events.new.self in
    let out = rw c.in-Done.is at c.in_ok-request.ensures.ran in
    let due : c.is_owed-due.result ≡ is_owed (is_fault c.in-Done.outcome) mid.kernel.core.count (counts_of mid.positions.stored) =
    rw (c.is_fault.ensures, c.ends_at.ensures.ends, c.count-last.ensures) at c.is_owed-due.ensures in
    begun_owed g.C.Catalogue.behaviour g.A.Answers.answers c.args.limit from c.keep_if.new.self.stood c.args.self.now.positions mid.positions c.keep_if.new.self.positions (world_in (λ b. (g.dyn-1.0.entry b.vtable).1) mid.kernel) c.in-Done.outcome
    c.in_err-keep_if-in-Done.ensures.untaken out.ran.ran_is out.gone (sym due ∙ c.in_err-keep_if-in-Done.ensures.due) c.in_err-keep_if-in-Done.ensures.err

pub returns-in_err-ended-in-Done-clause-good : goal.returns-in_err-ended-in-Done-clause-good
returns-in_err-ended-in-Done-clause-good g c =
    let from = c.args.self.now.kernel.core.count in
    let mid = c.run_events.new.self in
    let out = rw c.in-Done.is at c.in_ok-request.ensures.ran in
    let due : c.is_owed-due.result ≡ is_owed (is_fault c.in-Done.outcome) mid.kernel.core.count (counts_of mid.positions.stored) =
    rw (c.is_fault.ensures, c.ends_at.ensures.ends, c.count-last.ensures) at c.is_owed-due.ensures in
    let same = c.drop_waiting.ensures.kernel ∙ c.in_ok-keep_if-in-Done.ensures.kept in
    end_good g.C.Catalogue.behaviour g.A.Answers.answers from c.args.self.now.positions mid.positions c.keep_if.new.self.positions c.drop_waiting.new.self.positions (world_in (λ b. (g.dyn-1.0.entry b.vtable).1) mid.kernel) (world_in (λ b. (g.dyn-1.0.entry b.vtable).1) c.drop_waiting.new.self.kernel) (world_in (λ b. (g.dyn-1.0.entry b.vtable).1) c.finish.new.self) c.in-Done.outcome c.is_owed-due.result
    out.gone out.ran.room due c.in_ok-keep_if-in-Done.ensures.ok c.run_events.ensures.good c.drop_waiting.ensures.kept.0 (ap (world_in (λ b. (g.dyn-1.0.entry b.vtable).1)) same) c.finish.ensures.grown

pub returns-in_ok-ended-in-Done-clause-good : goal.returns-in_ok-ended-in-Done-clause-good
returns-in_ok-ended-in-Done-clause-good g c =
    let from = c.args.self.now.kernel.core.count in
    let mid = c.run_events.new.self in
    let out = rw c.in-Done.is at c.in_ok-request.ensures.ran in
    let due : c.is_owed-due.result ≡ is_owed (is_fault c.in-Done.outcome) mid.kernel.core.count (counts_of mid.positions.stored) =
    rw (c.is_fault.ensures, c.ends_at.ensures.ends, c.count-last.ensures) at c.is_owed-due.ensures in
    let same = c.drop_waiting.ensures.kernel ∙ c.in_ok-keep_if-in-Done.ensures.kept in
    end_good g.C.Catalogue.behaviour g.A.Answers.answers from c.args.self.now.positions mid.positions c.keep_if.new.self.positions c.drop_waiting.new.self.positions (world_in (λ b. (g.dyn-1.0.entry b.vtable).1) mid.kernel) (world_in (λ b. (g.dyn-1.0.entry b.vtable).1) c.drop_waiting.new.self.kernel) (world_in (λ b. (g.dyn-1.0.entry b.vtable).1) c.finish.new.self) c.in-Done.outcome c.is_owed-due.result
    out.gone out.ran.room due c.in_ok-keep_if-in-Done.ensures.ok c.run_events.ensures.good c.drop_waiting.ensures.kept.0 (ap (world_in (λ b. (g.dyn-1.0.entry b.vtable).1)) same) c.finish.ensures.grown

pub returns-in_err-ended-in-Done-clause-stopped : goal.returns-in_err-ended-in-Done-clause-stopped
returns-in_err-ended-in-Done-clause-stopped g c =
    let from = c.args.self.now.kernel.core.count in
    let mid = c.run_events.new.self in
    let out = rw c.in-Done.is at c.in_ok-request.ensures.ran in
    let due : c.is_owed-due.result ≡ is_owed (is_fault c.in-Done.outcome) mid.kernel.core.count (counts_of mid.positions.stored) =
    rw (c.is_fault.ensures, c.ends_at.ensures.ends, c.count-last.ensures) at c.is_owed-due.ensures in
    rw c.drop_waiting.ensures.kept.1
    (end_left g.C.Catalogue.behaviour g.A.Answers.answers c.args.limit from c.args.self.now.positions mid.positions c.keep_if.new.self.positions c.drop_waiting.new.self.positions (world_in (λ b. (g.dyn-1.0.entry b.vtable).1) mid.kernel) c.in-Done.outcome c.is_owed-due.result
    out.ran.ran_is out.gone due c.in_ok-keep_if-in-Done.ensures.ok c.drop_waiting.ensures.kept.0)

pub returns-in_ok-ended-in-Done-clause-stopped : goal.returns-in_ok-ended-in-Done-clause-stopped
returns-in_ok-ended-in-Done-clause-stopped g c =
    let from = c.args.self.now.kernel.core.count in
    let mid = c.run_events.new.self in
    let out = rw c.in-Done.is at c.in_ok-request.ensures.ran in
    let due : c.is_owed-due.result ≡ is_owed (is_fault c.in-Done.outcome) mid.kernel.core.count (counts_of mid.positions.stored) =
    rw (c.is_fault.ensures, c.ends_at.ensures.ends, c.count-last.ensures) at c.is_owed-due.ensures in
    rw c.drop_waiting.ensures.kept.1
    (end_left g.C.Catalogue.behaviour g.A.Answers.answers c.args.limit from c.args.self.now.positions mid.positions c.keep_if.new.self.positions c.drop_waiting.new.self.positions (world_in (λ b. (g.dyn-1.0.entry b.vtable).1) mid.kernel) c.in-Done.outcome c.is_owed-due.result
    out.ran.ran_is out.gone due c.in_ok-keep_if-in-Done.ensures.ok c.drop_waiting.ensures.kept.0)

pub returns-in_ok-ended-in-Done-clause-ran : goal.returns-in_ok-ended-in-Done-clause-ran
returns-in_ok-ended-in-Done-clause-ran g c =
    let b = g.C.Catalogue.behaviour in
    let m = g.A.Answers.answers in
    let from = c.args.self.now.kernel.core.count in
    let mid = c.run_events.new.self in
    let out = rw c.in-Done.is at c.in_ok-request.ensures.ran in
    let due : c.is_owed-due.result ≡ is_owed (is_fault c.in-Done.outcome) mid.kernel.core.count (counts_of mid.positions.stored) =
    rw (c.is_fault.ensures, c.ends_at.ensures.ends, c.count-last.ensures) at c.is_owed-due.ensures in
    let same = c.drop_waiting.ensures.kernel ∙ c.in_ok-keep_if-in-Done.ensures.kept in
    record {
      none = out.none;
      whole = ap (ending b m) (out.ran.ran_is ∙ ap (λ K. ran_in (λ b. (g.dyn-1.0.entry b.vtable).1) c.in-Done.outcome K) (sym same)) ∙ sym c.in_ok-ended-in-Done.ensures.step;
      left = end_left b m c.args.limit from c.args.self.now.positions mid.positions c.keep_if.new.self.positions c.drop_waiting.new.self.positions (world_in (λ b. (g.dyn-1.0.entry b.vtable).1) mid.kernel) c.in-Done.outcome c.is_owed-due.result
          out.ran.ran_is out.gone due c.in_ok-keep_if-in-Done.ensures.ok c.drop_waiting.ensures.kept.0;
      empty = c.drop_waiting.ensures.none;
    }

pub returns-in-Waits-clause-stopped : goal.returns-in-Waits-clause-stopped
returns-in-Waits-clause-stopped g c =
    let b = g.C.Catalogue.behaviour in
    let m = g.A.Answers.answers in
    let new = c.run_events.new.self in
    let h = rw c.in-Waits.is at c.in_ok-request.ensures.ran in
    begun_after b m c.args.limit c.args.self.now.kernel.core.count new.kernel.core.count new.stood c.args.self.now.positions new.positions (world_in (λ b. (g.dyn-1.0.entry b.vtable).1) new.kernel) h.stood h.held.grew (omega (arith, h.held.within)) h.held.paused.going h.counts

-- ---- what is told of it

pub returns-in_err-request-clause-until : goal.returns-in_err-request-clause-until
returns-in_err-request-clause-until g c =
    let b = g.C.Catalogue.behaviour in
    let m = g.A.Answers.answers in
    let from = (world_in (λ b. (g.dyn-1.0.entry b.vtable).1) c.args.self.now.kernel).count in
    let began = subst (λ n. g.W.Observer.told c.args.observer.now (Began n c.args.limit) c.begin.new.self) c.count.ensures c.begin.ensures in
    until_executed b m c.args.limit g.W.Observer.told from c.args.observer.now c.begin.new.self c.run_events.new.observer c.run_events.new.self.stood began c.in_err-request.ensures.until

pub returns-in-Waits-clause-told : goal.returns-in-Waits-clause-told
returns-in-Waits-clause-told g c =
    let began = subst (λ n. g.W.Observer.told c.args.observer.now (Began n c.args.limit) c.begin.new.self) c.count.ensures c.begin.ensures in
    (c.begin.new.self, began, rw c.in-Waits.is at c.in_ok-request.ensures.told)

pub returns-in-Waits-clause-until : goal.returns-in-Waits-clause-until
returns-in-Waits-clause-until g c =
    let b = g.C.Catalogue.behaviour in
    let m = g.A.Answers.answers in
    let from = (world_in (λ b. (g.dyn-1.0.entry b.vtable).1) c.args.self.now.kernel).count in
    let new = c.run_events.new.self in
    let h = rw c.in-Waits.is at c.in_ok-request.ensures.ran in
    let began = subst (λ n. g.W.Observer.told c.args.observer.now (Began n c.args.limit) c.begin.new.self) c.count.ensures c.begin.ensures in
    until_waits b m c.args.limit g.W.Observer.told from (world_in (λ b. (g.dyn-1.0.entry b.vtable).1) new.kernel).count c.args.observer.now c.begin.new.self c.run_events.new.observer new.stood h.stood began (rw c.in-Waits.is at c.in_ok-request.ensures.told)

pub returns-in_err-keep_if-in-Done-clause-until : goal.returns-in_err-keep_if-in-Done-clause-until
returns-in_err-keep_if-in-Done-clause-until g c =
    let b = g.C.Catalogue.behaviour in
    let m = g.A.Answers.answers in
    let from = (world_in (λ b. (g.dyn-1.0.entry b.vtable).1) c.args.self.now.kernel).count in
    let mid = c.run_events.new.self in
    let out = rw c.in-Done.is at c.in_ok-request.ensures.ran in
    let due : c.is_owed-due.result ≡ is_owed (is_fault c.in-Done.outcome) mid.kernel.core.count (counts_of mid.positions.stored) =
    rw (c.is_fault.ensures, c.ends_at.ensures.ends, c.count-last.ensures) at c.is_owed-due.ensures in
    let began = subst (λ n. g.W.Observer.told c.args.observer.now (Began n c.args.limit) c.begin.new.self) c.count.ensures c.begin.ensures in
    until_owed b m c.args.limit g.W.Observer.told from (world_in (λ b. (g.dyn-1.0.entry b.vtable).1) mid.kernel).count c.in-Done.outcome (counts_of mid.positions.stored) c.args.observer.now c.begin.new.self c.run_events.new.observer c.keep_if.new.self.stood
    c.in_err-keep_if-in-Done.ensures.untaken (sym due ∙ c.in_err-keep_if-in-Done.ensures.due) began (rw c.in-Done.is at c.in_ok-request.ensures.told)

pub returns-in_err-ended-in-Done-clause-until : goal.returns-in_err-ended-in-Done-clause-until
returns-in_err-ended-in-Done-clause-until g c =
    let b = g.C.Catalogue.behaviour in
    let m = g.A.Answers.answers in
    let from = (world_in (λ b. (g.dyn-1.0.entry b.vtable).1) c.args.self.now.kernel).count in
    let mid = c.run_events.new.self in
    let out = rw c.in-Done.is at c.in_ok-request.ensures.ran in
    let began = subst (λ n. g.W.Observer.told c.args.observer.now (Began n c.args.limit) c.begin.new.self) c.count.ensures c.begin.ensures in
    until_end b m c.args.limit g.W.Observer.told from (world_in (λ b. (g.dyn-1.0.entry b.vtable).1) mid.kernel) c.in-Done.outcome c.args.observer.now c.begin.new.self c.run_events.new.observer c.drop_waiting.new.self.stood c.drop_waiting.ensures.kept.1 out.ran.ran_is began
    (rw c.in-Done.is at c.in_ok-request.ensures.told)

pub returns-in_ok-ended-in-Done-clause-until : goal.returns-in_ok-ended-in-Done-clause-until
returns-in_ok-ended-in-Done-clause-until g c =
    let b = g.C.Catalogue.behaviour in
    let m = g.A.Answers.answers in
    let from = (world_in (λ b. (g.dyn-1.0.entry b.vtable).1) c.args.self.now.kernel).count in
    let mid = c.run_events.new.self in
    let out = rw c.in-Done.is at c.in_ok-request.ensures.ran in
    let began = subst (λ n. g.W.Observer.told c.args.observer.now (Began n c.args.limit) c.begin.new.self) c.count.ensures c.begin.ensures in
    until_end b m c.args.limit g.W.Observer.told from (world_in (λ b. (g.dyn-1.0.entry b.vtable).1) mid.kernel) c.in-Done.outcome c.args.observer.now c.begin.new.self c.run_events.new.observer c.drop_waiting.new.self.stood c.drop_waiting.ensures.kept.1 out.ran.ran_is began
    (rw c.in-Done.is at c.in_ok-request.ensures.told)

pub returns-in_ok-ended-in-Done-clause-told : goal.returns-in_ok-ended-in-Done-clause-told
returns-in_ok-ended-in-Done-clause-told g c =
    let b = g.C.Catalogue.behaviour in
    let m = g.A.Answers.answers in
    let from = (world_in (λ b. (g.dyn-1.0.entry b.vtable).1) c.args.self.now.kernel).count in
    let mid = c.run_events.new.self in
    let out = rw c.in-Done.is at c.in_ok-request.ensures.ran in
    let began = subst (λ n. g.W.Observer.told c.args.observer.now (Began n c.args.limit) c.begin.new.self) c.count.ensures c.begin.ensures in
    told_to_end b m c.args.limit g.W.Observer.told from (world_in (λ b. (g.dyn-1.0.entry b.vtable).1) mid.kernel) c.in-Done.outcome c.args.observer.now c.begin.new.self c.run_events.new.observer out.ran.ran_is began
    (rw c.in-Done.is at c.in_ok-request.ensures.told)
