-- Where a run waits, and for which box.
use Rattle.std.proofs.Common.{◌≡◌, ℕ, zero, suc, ◌+◌, ◌-◌, ◌≤◌, ◌<◌, ◌==◌, Bool, true, false, List, [], Option, Some, None, option_map, refl, sym, ap, ◌∙◌, subst, arith, eq-eqb, if◌then◌else◌}
use Rattle.std.proofs.lemmas.Bool.Decides.{nat_tests}
use Rattle.module_api.specs.Behaviour.{Behaviour}
use Rattle.model_answers.specs.Answering.{answers_of}
use Rattle.model_data.specs.declared.model.Model.{Model}
use Rattle.model_questions.specs.Answers.{Answers}
use Rattle.run_semantics.specs.Run.{Part, after}
use Rattle.kernel.specs.declared.request.Request.{Request}
use Rattle.checkpoint_runs.specs.declared.phases.AtSetup.{AtSetup}
use Rattle.checkpoint_runs.specs.declared.phases.AtSetup.TheVariants.{Anew, Filling, Refused}
use Rattle.checkpoint_runs.specs.declared.phases.Phase.TheVariants.{Waiting}
use Rattle.checkpoint_runs.specs.declared.phases.Point.{Point}
use Rattle.checkpoint_runs.specs.declared.phases.Point.TheVariants as point
use Rattle.checkpoint_runs.specs.declared.phases.Resumed.{Resumed}
use Rattle.checkpoint_runs.specs.declared.phases.Wait.{Wait}
use Rattle.checkpoint_runs.specs.Positions.{start_of}
use Rattle.checkpoint_runs.specs.Running.{boxes_at, first_wait, kept_at_setup, kept_back, needed_back, supplied_at, supplied_before, wait_anew, wait_before, wait_first, wait_of, wait_onwards, wait_or, wanted_at_setup, wanted_by, wanted_next}
use Rattle.checkpoint_runs.proofs.Counting.{start_within}
use Rattle.checkpoint_runs.proofs.Filling.{some_part}
use Rattle.edit_session.specs.Editing.{waited_for}
use Rattle.edit_session.proofs.Leaving.{IsNoSooner, IsWithin}

-- ---- the first event that needs a box

either_same : (c : Bool) (ps : List Part) → (if c then ps else ps) ≡ ps
either_same true ps = refl
either_same false ps = refl

not_same : (k j : ℕ) → suc k ≤ j → (k == j) ≡ false
not_same k j l = grind (arith, nat_tests)

-- it is one of those that are looked at, and what is wanted before it is that
record IsFirstWait (b : Behaviour) (m : Answers) (k more : ℕ) (supplied : List Part) (j : ℕ) (request : Request) : Type 0 where
  pub later : k ≤ j
  pub within : j < k + more
  pub wants : wanted_next m (after b m j) (if k == j then supplied else []) ≡ Some request

wait_first_is : (b : Behaviour) (m : Answers) (k more : ℕ) (supplied : List Part) (j : ℕ) (request : Request) → first_wait b m k more supplied ≡ Some (j, request) → IsFirstWait b m k more supplied j request
wait_first_is b m k zero supplied j request e = cc
wait_first_is b m k (suc more) supplied j request e = by (wanted_next m (after b m k) supplied) refl e (λ f. wait_first_is b m (suc k) more [] j request f)
  where
    by : (o : Option Request) → wanted_next m (after b m k) supplied ≡ o → wait_or k o (first_wait b m (suc k) more []) ≡ Some (j, request) → (first_wait b m (suc k) more [] ≡ Some (j, request) → IsFirstWait b m (suc k) more [] j request) → IsFirstWait b m k (suc more) supplied j request
    by (Some r) wants e rest =
        let same : (k, r) ≡ (j, request) = cc in
        let at : k ≡ j = ap (λ (w : ℕ × Request). w.0) same in
        let asked : r ≡ request = ap (λ (w : ℕ × Request). w.1) same in
        subst (λ n. IsFirstWait b m k (suc more) supplied n request) at (record {
          later = omega arith;
          within = omega arith;
          wants = ap (λ (t : Bool). wanted_next m (after b m k) (if t then supplied else [])) (eq-eqb k k refl) ∙ wants ∙ ap Some asked;
        })
    by None wants e rest =
        let h : IsFirstWait b m (suc k) more [] j request = rest e in
        record {
          later = omega (arith, h.later);
          within = omega (arith, h.within);
          wants = ap (λ (t : Bool). wanted_next m (after b m j) (if t then supplied else [])) (not_same k j h.later)
              ∙ ap (wanted_next m (after b m j)) (sym (either_same (suc k == j) [])) ∙ h.wants;
        }

-- ---- where a run waits

-- what is missing there
abbrev pub IsMissing : Behaviour → Answers → ℕ → AtSetup → Option Resumed → List Part → List Part → Option ℕ → Point → Request → Type 0
IsMissing b m limit at r boxes supplied from point.Setup request = wanted_at_setup at m (kept_at_setup at supplied) ≡ Some request
IsMissing b m limit at r boxes supplied None point.Position request = ⊥
IsMissing b m limit at r boxes supplied (Some event) point.Position request = (r ≡ None) × (needed_back b m event (kept_back b m event boxes) ≡ Some request)
IsMissing b m limit at r boxes supplied from (point.Start k id) request =
    (id ≡ Some request.id) × IsNoSooner r from k × (k ≤ limit) × (wanted_next m (after b m k) (supplied_before r k supplied) ≡ Some request)

found_in : (b : Behaviour) (m : Answers) (limit : ℕ) (at : AtSetup) (r : Option Resumed) (boxes supplied : List Part) (from : Option ℕ) (k more : ℕ) (others : List Part) (wait : Wait) → k + more ≤ limit → ((j : ℕ) → k ≤ j → IsNoSooner r from j) → ((j : ℕ) → (if k == j then others else []) ≡ supplied_before r j supplied)
    → option_map (wait_before from) (first_wait b m k more others) ≡ Some wait → IsMissing b m limit at r boxes supplied wait.from wait.at wait.request
found_in b m limit at r boxes supplied from k more others wait less later same e =
    let q = some_part (wait_before from) (first_wait b m k more others) wait e in
    let h : IsFirstWait b m k more others q.0.0 q.0.1 = wait_first_is b m k more others q.0.0 q.0.1 q.1 in
    subst (λ (w : Wait). IsMissing b m limit at r boxes supplied w.from w.at w.request) (sym q.2)
    (refl, later q.0.0 h.later, omega (arith, h.within, less), ap (wanted_next m (after b m q.0.0)) (sym (same q.0.0)) ∙ h.wants)

found_onwards : (b : Behaviour) (m : Answers) (limit : ℕ) (at : AtSetup) (r : Resumed) (boxes supplied : List Part) (wait : Wait) → r.count ≤ limit → wait_onwards b m limit r supplied ≡ Some wait → IsMissing b m limit at (Some r) boxes supplied wait.from wait.at wait.request
found_onwards b m limit at r boxes supplied wait less e = by r.declined e
  where
    by : (t : Bool) → (if t then None else option_map (wait_before r.from) (first_wait b m r.count (limit - r.count) supplied)) ≡ Some wait → IsMissing b m limit at (Some r) boxes supplied wait.from wait.at wait.request
    by true e = cc
    by false e = found_in b m limit at (Some r) boxes supplied r.from r.count (limit - r.count) supplied wait (omega (arith, less)) (λ j l. l) (λ j. refl) e

first_or : (P : Wait → Type 0) (from : Option ℕ) (at : Point) (asked : Option Request) (later : Option (ℕ × Request)) (wait : Wait) → ((request : Request) → asked ≡ Some request → P (record { from = from; at = at; request = request })) → (option_map (wait_before from) later ≡ Some wait → P wait)
    → wait_first from at asked later ≡ Some wait → P wait
first_or P from at None later wait here there e = there e
first_or P from at (Some request) later wait here there e =
    let same : record { from = from; at = at; request = request } ≡ wait = cc in
    subst P same (here request refl)

found_anew : (b : Behaviour) (m : Answers) (limit : ℕ) (at : AtSetup) (stored : List ℕ) (boxes supplied : List Part) (wait : Wait) (start : Option ℕ) → start_of limit stored ≡ start → ((s : ℕ) → start ≡ Some s → s ≤ limit) → wait_of b m limit at None stored boxes supplied ≡ Some wait
    → IsMissing b m limit at None boxes supplied wait.from wait.at wait.request
found_anew b m limit at stored boxes supplied wait None is less e =
    first_or (λ (w : Wait). IsMissing b m limit at None boxes supplied w.from w.at w.request) None point.Setup (wanted_at_setup at m (kept_at_setup at supplied)) (first_wait b m 0 limit []) wait (λ request asked. asked)
    (λ f. found_in b m limit at None boxes supplied None 0 limit [] wait (omega arith) (λ j l. tt) (λ j. either_same (0 == j) []) f)
    (ap (λ s. wait_anew b m limit at s boxes supplied) (sym is) ∙ e)
found_anew b m limit at stored boxes supplied wait (Some s) is less e =
    first_or (λ (w : Wait). IsMissing b m limit at None boxes supplied w.from w.at w.request) (Some s) point.Position (needed_back b m s (kept_back b m s boxes)) (first_wait b m s (limit - s) []) wait (λ request asked. (refl, asked))
    (λ f. (let within : s ≤ limit = less s refl in found_in b m limit at None boxes supplied (Some s) s (limit - s) [] wait (omega (arith, within)) (λ j l. l) (λ j. either_same (s == j) []) f))
    (ap (λ s. wait_anew b m limit at s boxes supplied) (sym is) ∙ e)

-- WHAT IS MISSING WHERE A RUN WAITS
pub found : (b : Behaviour) (m : Answers) (limit : ℕ) (at : AtSetup) (r : Option Resumed) (stored : List ℕ) (boxes supplied : List Part) (wait : Wait) → IsWithin limit r → wait_of b m limit at r stored boxes supplied ≡ Some wait → IsMissing b m limit at r boxes supplied wait.from wait.at wait.request
found b m limit at None stored boxes supplied wait within e = found_anew b m limit at stored boxes supplied wait (start_of limit stored) refl (λ s. start_within limit stored s) e
found b m limit at (Some r) stored boxes supplied wait within e = found_onwards b m limit at r boxes supplied wait within e

-- ---- what is asked for then

asked_at_setup : (m : Answers) (at : AtSetup) (boxes : List Part) (request : Request) → wanted_at_setup at m boxes ≡ Some request → wanted_by m boxes ≡ Some request
asked_at_setup m Anew boxes request e = e
asked_at_setup m Filling boxes request e = e
asked_at_setup m Refused boxes request e = cc

pub asked_there : (b : Behaviour) (m : Model) (limit : ℕ) (at : AtSetup) (r : Option Resumed) (boxes supplied : List Part) (from : Option ℕ) (p : Point) (request : Request) → IsMissing b (answers_of m) limit at r boxes supplied from p request
    → waited_for b (Waiting from p) m (boxes_at b (answers_of m) from p boxes) (supplied_at at r p supplied) ≡ Some request
asked_there b m limit at r boxes supplied from point.Setup request h = asked_at_setup (answers_of m) at (kept_at_setup at supplied) request h
asked_there b m limit at r boxes supplied None point.Position request h = absurd h
asked_there b m limit at r boxes supplied (Some event) point.Position request h = h.1
asked_there b m limit at r boxes supplied from (point.Start k None) request h = let none = h.0 in cc
asked_there b m limit at r boxes supplied from (point.Start k (Some id)) request h = h.3
