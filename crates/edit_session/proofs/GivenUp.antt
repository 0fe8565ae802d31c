-- What a session keeps of a run that is given up.
use Rattle.std.proofs.Common.{◌≡◌, ℕ, List, [], Option, Some, None, option_map, refl, sym, ap, ◌∙◌, arith, subst}
use Rattle.module_api.specs.Behaviour.{Behaviour}
use Rattle.model_data.specs.declared.model.Model.{Model}
use Rattle.model_answers.specs.Answering.{answers_of}
use Rattle.model_questions.specs.Answers.{Answers}
use Rattle.run_semantics.specs.Run.{Part, Running, after, world_at}
use Rattle.run_semantics.specs.World.{World}
use Rattle.run_semantics.proofs.Counts.{reached_after}
use Rattle.checkpoints.specs.Stored.{counts_in, counts_of, last_of, AreRising, Timeline}
use Rattle.kernel_actions.specs.declared.position.Position.{Position}
use Rattle.kernel_actions.specs.Positions.{cut_to, lengths_of, IsGrownFrom}
use Rattle.kernel_boxes.specs.Seats.{BoxAt, AreOfKinds}
use Rattle.checkpoint_runs.specs.declared.phases.Phase.TheVariants.{Idle}
use Rattle.checkpoint_runs.specs.Kept.{cut_to_last, AreGood, IsGood}
use Rattle.checkpoint_runs.specs.Positions.{last_count, CanBeStored, HasStored}
use Rattle.checkpoint_runs.specs.Running.{resumed}
use Rattle.checkpoint_runs.specs.declared.phases.Stood.{Stood}
use Rattle.checkpoint_runs.proofs.Counting.{last_count_is}
use Rattle.checkpoint_runs.proofs.Good.{cut_good, cut_grown, cut_is, good_last, last_below}
use Rattle.edit_session.specs.Editing.{given_up, Editing, IsGivenUp, IsKept}
use Rattle.edit_session.specs.Reuse.{IsAskedUpTo, IsKnown}
use Rattle.edit_session.proofs.Valid.{agrees_itself}

known_cut : (b : Behaviour) (m : Answers) (w u : World) (p : Position) → (h : IsGood b m w p) → u ≡ cut_to (lengths_of h.world) w → IsAskedUpTo b m u p.count
known_cut b m w u p h e =
    let here : world_at (after b m p.count) ≡ h.world = ap world_at h.stage in
    record {
      origin = m;
      last = p.count;
      within = omega arith;
      reached = reached_after b m p.count h.world h.stage;
      records = ap (λ (x : World). x.records) e ∙ cut_is h.world.records w.records h.grown.records ∙ sym (ap (λ (x : World). x.records) here);
      questions = ap (λ (x : World). x.questions) e ∙ cut_is h.world.questions w.questions h.grown.questions ∙ sym (ap (λ (x : World). x.questions) here);
      agrees = agrees_itself p.count m u.records u.questions;
    }

-- WHAT IS KNOWN where lists that only grow are cut to what the last position has of them: the events
-- up to that one; and the positions stay good
pub record IsCutBack (b : Behaviour) (m : Answers) (u : World) (ps : Timeline Position) : Type 0 where
  pub asked : IsKnown b m u (last_count (counts_of ps.stored))
  pub good : AreGood b m u ps.stored

cut_at : (b : Behaviour) (m : Answers) (w u : World) (ps : List Position) (last : Option Position) → last_of ps ≡ last → AreGood b m w ps → AreRising ps → u ≡ cut_to_last last w → IsKnown b m u (option_map (λ (p : Position). p.count) last) × AreGood b m u ps
cut_at b m w u ps None l good rising e = (tt, subst (λ (x : World). AreGood b m x ps) (sym e) good)
cut_at b m w u ps (Some p) l good rising e =
    let h : IsGood b m w p = good_last b m w ps p good l in
    let cut : u ≡ cut_to (lengths_of h.world) w = e ∙ ap (λ (q : Position). cut_to q.lengths w) h.position in (
      known_cut b m w u p h cut,
      cut_good b m w u p ps h (subst (IsGrownFrom h.world) (sym cut) (cut_grown h.world w h.grown)) (last_below ps p rising l) good,
    )

pub cut_back : (b : Behaviour) (m : Answers) (w u : World) (ps : Timeline Position) → AreGood b m w ps.stored → AreRising ps.stored → u ≡ cut_to_last (last_of ps.stored) w → IsCutBack b m u ps
cut_back b m w u ps good rising e =
    let h = cut_at b m w u ps.stored (last_of ps.stored) refl good rising e in
    record { asked = subst (IsKnown b m u) (sym (last_count_is ps.stored)) h.0; good = h.1 }

-- the events up to this one are known where the run stands after it
pub known_there : (b : Behaviour) (m : Answers) (w : World) (k : ℕ) → Running w ≡ after b m k → IsAskedUpTo b m w k
known_there b m w k going =
    let here : w ≡ world_at (after b m k) = ap world_at going in
    record {
      origin = m;
      last = k;
      within = omega arith;
      reached = reached_after b m k w (sym going);
      records = ap (λ (x : World). x.records) here;
      questions = ap (λ (x : World). x.questions) here;
      agrees = agrees_itself k m w.records w.questions;
    }

-- WHAT A SESSION KEEPS of a run that is given up
kept_given_up : (b : Behaviour) (m : Model) (ss : List BoxAt) (w u : World) (ps : Timeline Position) → AreOfKinds b ss → AreGood b (answers_of m) w ps.stored → AreRising ps.stored → CanBeStored (counts_in ps) → u ≡ cut_to_last (last_of ps.stored) w
    → IsKept b ss [] u m Idle None (last_count (counts_of ps.stored)) ps
kept_given_up b m ss w u ps kinds good rising stored e =
    let h = cut_back b (answers_of m) w u ps good rising e in
    record {
      kinds = kinds;
      live = tt;
      left = tt;
      undone = tt;
      asked = h.asked;
      good = h.good;
      stored = stored;
    }

pub kept_cut : (b : Behaviour) (m : Model) (ss ts xs : List BoxAt) (w u : World) (ps qs : Timeline Position) (known : Option ℕ) → ts ≡ ss → xs ≡ [] → qs ≡ ps → known ≡ last_count (counts_of ps.stored)
    → AreOfKinds b ss → AreGood b (answers_of m) w ps.stored → AreRising ps.stored → CanBeStored (counts_in ps) → u ≡ cut_to_last (last_of ps.stored) w → IsKept b ts xs u m Idle None known qs
kept_cut b m ss ts xs w u ps qs known t x q k kinds good rising stored e = rw (t, x, q, k) (kept_given_up b m ss w u ps kinds good rising stored e)

-- and what callers see of it
pub seen_given_up : (e : Editing) (boxes supplied : List Part) (known : Option ℕ) (positions : Timeline ℕ) → boxes ≡ e.boxes → supplied ≡ [] → known ≡ last_count e.positions.stored → positions ≡ e.positions
    → record { model = e.model; done = None; phase = Idle; boxes = boxes; supplied = supplied; known = known; positions = positions } ≡ given_up e
seen_given_up e boxes supplied known positions b s k p = rw (b, s, k, p) refl

-- what it leaves of a run for which memory ran out
pub leaves_given_up : (b : Behaviour) (before between after : Editing) (limit : ℕ) (at : Stood) → after ≡ given_up between → HasStored b (answers_of before.model) limit (resumed limit before.phase) before.positions at between.positions → IsGivenUp b before limit after
leaves_given_up b before between after limit at left stored = record {
  stood = at;
  done = ap (λ (e : Editing). e.done) left;
  idle = ap (λ (e : Editing). e.phase) left;
  supplied = ap (λ (e : Editing). e.supplied) left;
  known = ap (λ (e : Editing). e.known) left ∙ ap (λ (e : Editing). last_count e.positions.stored) (sym left);
  positions = subst (λ (e : Editing). HasStored b (answers_of before.model) limit (resumed limit before.phase) before.positions at e.positions) (sym left) stored;
}

-- up to where it stood
pub stores_given_up : (b : Behaviour) (before between after : Editing) (limit : ℕ) (at there : Stood) → there ≡ at → after ≡ given_up between → HasStored b (answers_of before.model) limit (resumed limit before.phase) before.positions at between.positions
    → HasStored b (answers_of before.model) limit (resumed limit before.phase) before.positions there after.positions
stores_given_up b before between after limit at there same left stored =
    subst (λ s. HasStored b (answers_of before.model) limit (resumed limit before.phase) before.positions s after.positions) (sym same)
    (subst (λ (e : Editing). HasStored b (answers_of before.model) limit (resumed limit before.phase) before.positions at e.positions) (sym left) stored)
