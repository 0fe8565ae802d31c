-- Positions stay good after an edit.
use Rattle.std.proofs.Common.{◌≡◌, ℕ, ◌≤◌, nat_le, Bool, true, false, cond, List, [], ◌∷◌, Option, Some, None, Result, Ok, Err, IfOk, refl, sym, ◌∙◌, arith, subst}
use Rattle.sim_values.specs.declared.NoMemory.{NoMemory}
use Rattle.module_api.specs.Behaviour.{Behaviour}
use Rattle.module_api.specs.Laws.{IsLawful}
use Rattle.model_questions.specs.declared.answer.AskedQuestion.{AskedQuestion}
use Rattle.model_questions.specs.declared.record.Record.{Record}
use Rattle.model_questions.specs.Answers.{Answers}
use Rattle.run_semantics.specs.Agreement.{AgreesUpTo, IsAgreement}
use Rattle.run_semantics.specs.Run.{IsReached, after, world_at}
use Rattle.run_semantics.specs.World.{World}
use Rattle.run_semantics.proofs.Reached.{reached_before}
use Rattle.run_semantics.proofs.Reuse.{reached_same_up_to}
use Rattle.checkpoints.specs.Stored.{up_to, Timeline}
use Rattle.kernel_actions.specs.declared.position.Position.{Position}
use Rattle.checkpoint_runs.proofs.Counting.{left_stored}
use Rattle.checkpoint_runs.proofs.Good.{up_to_is}
use Rattle.checkpoint_runs.specs.Kept.{kept_up_to, AreGood, IsGood}
use Rattle.edit_session.specs.Reuse.{IsAskedUpTo, IsKnown}
use Rattle.edit_session.proofs.Valid.{agrees_then}

agrees_less : (u v : ℕ) (m n : Answers) (rs : List Record) (qs : List AskedQuestion) → u ≤ v → AgreesUpTo v m n rs qs → AgreesUpTo u m n rs qs
agrees_less u v m n rs [] l h = tt
agrees_less u v m n rs (q ∷ qs) l h = (λ (e : q.event ≤ u). h.0 (omega (arith, e, l)), agrees_less u v m n rs qs l h.1)

-- up to where the questions that are kept have equal answers two models have the same run
pub same_run : (b : Behaviour) → IsLawful b → (m n : Answers) (w : World) (known v k : ℕ) → IsAskedUpTo b m w known → v ≤ known → AgreesUpTo v m n w.records w.questions → k ≤ v → after b m k ≡ after b n k
same_run b law m n w known v k h l a less =
    let o : Answers = h.origin in
    let all : World = world_at (after b o h.last) in
    let within : k ≤ h.last = omega (arith, less, l, h.within) in
    let at : IsReached (after b o k) k = reached_before b o k h.last within h.reached in
    let first : AgreesUpTo k o m w.records w.questions = agrees_less k known o m w.records w.questions (omega (arith, less, l)) h.agrees in
    let second : AgreesUpTo k o n w.records w.questions = agrees_then k known o m n w.records w.questions (omega (arith, less, l)) h.agrees (agrees_less k v m n w.records w.questions less a) in
    let move : (p : Answers) → AgreesUpTo k o p w.records w.questions → AgreesUpTo k o p all.records all.questions =
    λ p f. subst (λ rs. AgreesUpTo k o p rs all.questions) h.records (subst (λ qs. AgreesUpTo k o p w.records qs) h.questions f) in
    sym (reached_same_up_to b law o m k h.last within at (move m first)) ∙ reached_same_up_to b law o n k h.last within at (move n second)

edited_good : (b : Behaviour) (m n : Answers) (w : World) (p : Position) → after b m p.count ≡ after b n p.count → IsGood b m w p → IsGood b n w p
edited_good b m n w p e h = record {
  world = h.world;
  stage = sym e ∙ h.stage;
  position = h.position;
  room = h.room;
  grown = h.grown;
}

edited_up_to : (b : Behaviour) (m n : Answers) (w : World) (v : ℕ) (ps : List Position) → ((k : ℕ) → k ≤ v → after b m k ≡ after b n k) → AreGood b m w ps → AreGood b n w (up_to v ps)
edited_up_to b m n w v [] f h = tt
edited_up_to b m n w v (p ∷ ps) f h = by (nat_le p.count v) refl (edited_up_to b m n w v ps f h.1)
  where
    by : (t : Bool) → nat_le p.count v ≡ t → AreGood b n w (up_to v ps) → AreGood b n w (cond t (p ∷ up_to v ps) (up_to v ps))
    by true e rest = (edited_good b m n w p (f p.count (up_to_is p.count v e)) h.0, rest)
    by false e rest = rest

good_edited : (b : Behaviour) → IsLawful b → (m n : Answers) (w : World) (t : Timeline Position) (known : ℕ) (found : Option ℕ) → IsAskedUpTo b m w known → IsAgreement m n w.records known w.questions found
    → AreGood b m w t.stored → AreGood b n w (kept_up_to found t).stored
good_edited b law m n w t known None h a g = tt
good_edited b law m n w t known (Some v) h a g =
    subst (AreGood b n w) (sym (left_stored t (up_to v t.stored))) (edited_up_to b m n w v t.stored (λ k l. same_run b law m n w known v k h a.0 a.1 l) g)

-- THE POSITIONS UP TO WHERE A RUN STAYS VALID are good ones of the model as edited
pub good_of : (b : Behaviour) → IsLawful b → (m n : Answers) (w : World) (t : Timeline Position) (known : Option ℕ) (last : ℕ) (told : Result (Option ℕ) NoMemory) → known ≡ Some last → IsKnown b m w known
    → AreGood b m w t.stored → IfOk told (λ found. IsAgreement m n w.records last w.questions found) → IfOk told (λ found. AreGood b n w (kept_up_to found t).stored)
good_of b law m n w t known last (Err error) e h g a = tt
good_of b law m n w t known last (Ok found) e h g a = good_edited b law m n w t last found (subst (IsKnown b m w) e h) a g
