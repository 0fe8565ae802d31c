-- Up to which event a run stays valid.
use Rattle.std.proofs.Common.{◌≡◌, ◌≤◌, ℕ, List, [], ◌∷◌, Option, Some, None, Result, Ok, Err, IfOk, refl, sym, ap, ◌∙◌, arith, subst}
use Rattle.sim_values.specs.declared.NoMemory.{NoMemory}
use Rattle.module_api.specs.Behaviour.{Behaviour}
use Rattle.module_api.specs.Laws.{IsLawful}
use Rattle.model_questions.specs.declared.answer.AskedQuestion.{AskedQuestion}
use Rattle.model_data.specs.declared.model.Model.{Model}
use Rattle.model_answers.specs.Answering.{answers_of}
use Rattle.model_questions.specs.Answers.{Answers}
use Rattle.model_questions.specs.declared.record.Record.{Record}
use Rattle.run_semantics.specs.declared.outcome.Outcome.{Outcome}
use Rattle.run_semantics.specs.Agreement.{AgreesUpTo, IsAgreement}
use Rattle.run_semantics.specs.Ending.{ending}
use Rattle.run_semantics.specs.Run.{Part, Ran, Stage, IsReached, after, run_to, standing, world_at}
use Rattle.run_semantics.specs.World.{World}
use Rattle.run_semantics.proofs.Agreeing.{shorter_agrees, longer_agrees}
use Rattle.run_semantics.proofs.Closing.{ending_closed}
use Rattle.run_semantics.proofs.Reached.{stands, reached_before}
use Rattle.run_semantics.proofs.Reuse.{reached_same_up_to}
use Rattle.kernel_actions.specs.declared.position.Position.{Position}
use Rattle.kernel_boxes.specs.Seats.{BoxAt, AreOfKinds}
use Rattle.checkpoint_runs.specs.Kept.{kept_up_to, AreGood}
use Rattle.checkpoint_runs.specs.declared.phases.Phase.{Phase}
use Rattle.checkpoint_runs.specs.declared.phases.Phase.TheVariants.{Idle}
use Rattle.edit_session.specs.declared.session.Change.{Change}
use Rattle.checkpoints.specs.Stored.{begun, counts_in, Timeline}
use Rattle.checkpoint_runs.specs.Positions.{cut, events_behind, CanBeStored, begins, is_cut}
use Rattle.edit_session.specs.Editing.{Completed, Editing, edited_by, start_in, IsFreshRun, IsKept}
use Rattle.edit_session.specs.declared.session.Report.{Report}
use Rattle.checkpoint_runs.specs.Running.{at_setup, fresh_run, parts_in, resumed, whole_run, IsEnded}
use Rattle.checkpoint_runs.specs.declared.phases.Ended.{Ended}
use Rattle.checkpoint_runs.proofs.Whole.{stopped_world}
use Rattle.checkpoint_runs.proofs.Counting.{kept_counts}
use Rattle.edit_session.specs.Reuse.{IsValidTo, IsAskedUpTo, IsKnown}

-- ---- a run that is done

abbrev completed_with : ℕ → Outcome → Completed
completed_with limit outcome = record { limit = limit; outcome = outcome }

-- each model agrees with itself
pub agrees_itself : (v : ℕ) (m : Answers) (rs : List Record) (qs : List AskedQuestion) → AgreesUpTo v m m rs qs
agrees_itself v m rs [] = tt
agrees_itself v m rs (q ∷ qs) = (λ l. refl, agrees_itself v m rs qs)

-- all events of a run that is done are known
pub known_done : (b : Behaviour) (m : Answers) (limit : ℕ) (w : World) (outcome : Outcome) → whole_run b m limit w outcome → IsAskedUpTo b m w w.count
known_done b m limit w outcome whole =
    let ran = run_to b m limit in
    let u : World = world_at (after b m limit) in
    let c = ending_closed b m ran in
    let left : (ending b m ran).world ≡ w = ap (λ r. r.world) whole in
    let same : ran.world ≡ u = stopped_world (after b m limit) in
    let count : w.count ≡ u.count = ap (λ (x : World). x.count) (sym left) ∙ (c.count ∙ ap (λ (x : World). x.count) same) in
    let here : world_at (after b m w.count) ≡ u = subst (λ k. world_at (after b m k) ≡ u) (sym count) (stands b m limit) in
    record {
      origin = m;
      last = w.count;
      within = omega arith;
      reached = ap (λ (x : World). x.count) here ∙ sym count;
      records = ap (λ (x : World). x.records) (sym left) ∙ (c.records ∙ (ap (λ (x : World). x.records) same ∙ sym (ap (λ (x : World). x.records) here)));
      questions = ap (λ (x : World). x.questions) (sym left) ∙ (c.questions ∙ (ap (λ (x : World). x.questions) same ∙ sym (ap (λ (x : World). x.questions) here)));
      agrees = agrees_itself w.count m w.records w.questions;
    }

-- ---- an edit

-- where two lists of questions say the same of the events up to the last one, they have the same
-- agreement
same_agreement : (m n : Answers) (k : ℕ) (rs ss : List Record) (qs xs : List AskedQuestion)
    → ((u : ℕ) → u ≤ k → AgreesUpTo u m n rs qs → AgreesUpTo u m n ss xs) → ((u : ℕ) → u ≤ k → AgreesUpTo u m n ss xs → AgreesUpTo u m n rs qs)
    → (found : Option ℕ) → IsAgreement m n rs k qs found → IsAgreement m n ss k xs found
same_agreement m n k rs ss qs xs to back None h = λ a. h (back 0 (omega arith) a)
same_agreement m n k rs ss qs xs to back (Some v) h = (h.0, to v h.0 h.1, λ u low high a. h.2 u low high (back u high a))

-- what is found by the questions that are kept is the answer
pub valid_found : (b : Behaviour) → IsLawful b → (m n : Answers) (w : World) (v : ℕ) (found : Option ℕ) → IsAskedUpTo b m w v
    → IsAgreement m n w.records v w.questions found → IsValidTo b m n (Some v) found
valid_found b law m n w v found h a =
    let o : Answers = h.origin in
    let all : World = world_at (after b o h.last) in
    let first : World = world_at (after b o v) in
    let at : IsReached (after b o v) v = reached_before b o v h.last h.within h.reached in
    let agree : AgreesUpTo v o m all.records all.questions =
    subst (λ rs. AgreesUpTo v o m rs all.questions) h.records (subst (λ qs. AgreesUpTo v o m w.records qs) h.questions h.agrees) in
    let one : after b o v ≡ after b m v = reached_same_up_to b law o m v h.last h.within at agree in
    let whole : IsAgreement m n all.records v all.questions found =
    subst (λ rs. IsAgreement m n rs v all.questions found) h.records (subst (λ qs. IsAgreement m n w.records v qs found) h.questions a) in
    let own : IsAgreement m n first.records v first.questions found = same_agreement m n v all.records first.records all.questions first.questions
    (λ u l. shorter_agrees b o m n u v h.last l h.within) (λ u l. longer_agrees b o m n u v h.last l h.within) found whole in
    subst (λ (s : Stage). IsAgreement m n (world_at s).records v (world_at s).questions found) one own

-- one agreement and then another
pub agrees_then : (u v : ℕ) (o m n : Answers) (rs : List Record) (qs : List AskedQuestion) → u ≤ v → AgreesUpTo v o m rs qs → AgreesUpTo u m n rs qs → AgreesUpTo u o n rs qs
agrees_then u v o m n rs [] l f g = tt
agrees_then u v o m n rs (q ∷ qs) l f g = (λ (e : q.event ≤ u). f.0 (omega (arith, e, l)) ∙ g.0 e, agrees_then u v o m n rs qs l f.1 g.1)

-- what stays known
pub known_edited : (b : Behaviour) (m n : Answers) (w : World) (v : ℕ) (found : Option ℕ) → IsAskedUpTo b m w v → IsAgreement m n w.records v w.questions found → IsKnown b n w found
known_edited b m n w v None h a = tt
known_edited b m n w v (Some u) h a = record {
  origin = h.origin;
  last = h.last;
  within = omega (arith, a.0, h.within);
  reached = h.reached;
  records = h.records;
  questions = h.questions;
  agrees = agrees_then u v h.origin m n w.records w.questions a.0 h.agrees a.1;
}

-- What is known stays known where the modules and the questions are the same.
pub known_same : (b : Behaviour) (m : Answers) (w u : World) (known : Option ℕ) → u.records ≡ w.records → u.questions ≡ w.questions → IsKnown b m w known → IsKnown b m u known
known_same b m w u None r q h = tt
known_same b m w u (Some v) r q h = record {
  origin = h.origin;
  last = h.last;
  within = h.within;
  reached = h.reached;
  records = r ∙ h.records;
  questions = q ∙ h.questions;
  agrees = subst (λ rs. AgreesUpTo v h.origin m rs u.questions) (sym r) (subst (λ qs. AgreesUpTo v h.origin m w.records qs) (sym q) h.agrees);
}

-- what is told of a session's last run, where there is one
pub valid_of : (b : Behaviour) → IsLawful b → (m n : Answers) (w : World) (known : Option ℕ) (last : ℕ) (told : Result (Option ℕ) NoMemory) → known ≡ Some last → IsKnown b m w known
    → IfOk told (λ found. IsAgreement m n w.records last w.questions found) → IfOk told (λ found. IsValidTo b m n known found)
valid_of b law m n w known last (Err error) e h a = tt
valid_of b law m n w known last (Ok found) e h a =
    subst (λ k. IsValidTo b m n k found) (sym e) (valid_found b law m n w last found (subst (IsKnown b m w) e h) a)

pub known_of : (b : Behaviour) (m n : Answers) (w : World) (known : Option ℕ) (last : ℕ) (told : Result (Option ℕ) NoMemory) → known ≡ Some last → IsKnown b m w known
    → IfOk told (λ found. IsAgreement m n w.records last w.questions found) → IfOk told (λ found. IsKnown b n w found)
known_of b m n w known last (Err error) e h a = tt
known_of b m n w known last (Ok found) e h a = known_edited b m n w last found (subst (IsKnown b m w) e h) a

-- what is kept of a run that is done
pub kept_done : (b : Behaviour) (ss xs : List BoxAt) (w : World) (m : Model) (limit : ℕ) (outcome : Outcome) (known : ℕ) (ps : Timeline Position) → AreOfKinds b ss → whole_run b (answers_of m) limit w outcome
    → known ≡ w.count → AreGood b (answers_of m) w ps.stored → CanBeStored (counts_in ps) → IsKept b ss xs w m Idle (Some (record { limit = limit; outcome = outcome })) (Some known) ps
kept_done b ss xs w m limit outcome known ps kinds whole n good stored = record {
  kinds = kinds;
  live = tt;
  left = whole;
  undone = tt;
  asked = subst (IsAskedUpTo b (answers_of m) w) (sym n) (known_done b (answers_of m) limit w outcome whole);
  good = good;
  stored = stored;
}

-- what it tells, and what callers see of it
pub fresh_done : (b : Behaviour) (before after : Editing) (limit : ℕ) (report : Report) (w : World) (waiting : List BoxAt) (new : Timeline ℕ) (ended : Ended) (count : ℕ)
    → IsEnded b (answers_of before.model) limit (at_setup before.phase) (resumed limit before.phase) before.boxes before.supplied before.positions w waiting new ended
    → report ≡ record { outcome = ended.outcome; started_from = ended.start; executed = events_behind ended.start count } → count ≡ w.count
    → after.done ≡ Some (record { limit = limit; outcome = ended.outcome }) → after.boxes ≡ standing w.modules → after.supplied ≡ parts_in waiting → after.known ≡ Some count → after.positions ≡ new
    → IsFreshRun b before limit report after
fresh_done b before after limit report w waiting new ended count h told n d boxes supplied known positions =
    let m : Answers = answers_of before.model in
    let world : w ≡ (fresh_run b m limit).world = sym (ap (λ (r : Ran). r.world) h.whole) in
    let outcome : ended.outcome ≡ (fresh_run b m limit).outcome = sym (ap (λ (r : Ran). r.outcome) h.whole) in
    let counted : count ≡ (fresh_run b m limit).world.count = n ∙ ap (λ (v : World). v.count) world in
    record {
      outcome = ap (λ (r : Report). r.outcome) told ∙ outcome;
      started_from = ap (λ (r : Report). r.started_from) told ∙ h.began;
      executed = ap (λ (r : Report). r.executed) told ∙ ap (λ s. events_behind s count) h.began ∙ ap (events_behind (start_in before limit)) counted;
      done = d ∙ ap (λ (o : Outcome). Some (completed_with limit o)) outcome;
      boxes = boxes ∙ ap (λ (v : World). standing v.modules) world;
      supplied = supplied ∙ h.left;
      known = known ∙ ap Some counted;
      positions = positions ∙ h.positions;
      needs_none = h.none;
    }

-- what is kept without a run
pub kept_begun : (b : Behaviour) (ss xs : List BoxAt) (w : World) (m : Model) (interval : ℕ) (ps : Timeline Position) → 1 ≤ interval → AreOfKinds b ss → ps ≡ begun interval → IsKept b ss xs w m Idle None None ps
kept_begun b ss xs w m interval ps some kinds e = rw e (record {
  kinds = kinds;
  live = tt;
  left = tt;
  undone = tt;
  asked = tt;
  good = tt;
  stored = begins interval some;
})

-- what is kept after an accepted edit
pub kept_edited : (b : Behaviour) (ss ts ws xs : List BoxAt) (w u : World) (m n : Model) (phase : Phase) (done : Option Completed) (known valid : Option ℕ) (ps qs : Timeline Position) → IsKept b ss ws w m phase done known ps → ts ≡ ss → u ≡ w → qs ≡ kept_up_to valid ps
    → IsKnown b (answers_of n) w valid → AreGood b (answers_of n) w (kept_up_to valid ps).stored → IsKept b ts xs u n Idle None valid qs
kept_edited b ss ts ws xs w u m n phase last known valid ps qs kept t e q asked good = rw (t, e, q) (record {
  kinds = kept.kinds;
  live = tt;
  left = tt;
  undone = tt;
  asked = asked;
  good = good;
  stored = subst CanBeStored (sym (kept_counts valid ps)) (is_cut valid (counts_in ps) kept.stored);
})

-- what an accepted edit leaves
pub edited_same : (before : Editing) (change : Change) (boxes supplied : List Part) (positions : Timeline ℕ) → boxes ≡ before.boxes → supplied ≡ before.supplied → positions ≡ cut change.edited.valid_to before.positions
    → record { model = change.model; done = None; phase = Idle; boxes = boxes; supplied = supplied; known = change.edited.valid_to; positions = positions } ≡ edited_by before change
edited_same before change boxes supplied positions h s p = rw (h, s, p) refl
