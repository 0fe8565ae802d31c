-- The end of a run, and what it leaves.
use Rattle.std.proofs.Common.{◌≡◌, ℕ, suc, ◌-◌, ◌<◌, Bool, true, List, [], Option, Some, None, refl, sym, ap, ◌∙◌, arith, subst}
use Rattle.checkpoints.specs.Stored.{begun, counts_in, counts_of, is_multiple, with_count, IsBegun, Timeline}
use Rattle.kernel_actions.specs.declared.position.Position.{Position}
use Rattle.kernel_actions.specs.Positions.{position_of, IsGrownFrom}
use Rattle.kernel_boxes.specs.Seats.{Members}
use Rattle.kernel.specs.Kernels.{world_in}
use Rattle.module_api.specs.Behaviour.{Behaviour}
use Rattle.model_questions.specs.Answers.{Answers}
use Rattle.run_semantics.specs.declared.outcome.Outcome.{Outcome}
use Rattle.run_semantics.specs.Ending.{ending}
use Rattle.run_semantics.specs.Run.{Part, Ran, Stage, Running, after, first_unknown, is_fault, next_stage, run_to, stage_of, stopped, world_at}
use Rattle.run_semantics.specs.World.{World, HasRoom}
use Rattle.run_semantics.proofs.Ends.{run_over}
use Rattle.run_semantics.proofs.Fitting.{fits_after}
use Rattle.run_semantics.proofs.Growth.{Fits}
use Rattle.checkpoint_runs.specs.declared.running.Runner.{Runner}
use Rattle.checkpoint_runs.specs.declared.phases.RunStatus.{RunStatus}
use Rattle.checkpoint_runs.specs.declared.phases.RunStatus.TheVariants as status
use Rattle.checkpoint_runs.specs.Kept.{is_owed, supplied_in, taken_if, waiting_in, AreGood, HasGoneOn, HasRunOn, HasStarted}
use Rattle.checkpoint_runs.specs.Positions.{behind, numbers_from, positions_onwards, HasLeft}
use Rattle.checkpoint_runs.specs.Running.{first_wait, fresh_run, needed_in, IsHeldUp}
use Rattle.checkpoint_runs.proofs.Counting.{setup_begins, setup_left_all}
use Rattle.checkpoint_runs.proofs.Filling.{ended}
use Rattle.checkpoint_runs.proofs.Going.{count_is, left_gone, over_counts, owed_lasts}
use Rattle.checkpoint_runs.proofs.Good.{good_on, good_stored}
use Rattle.checkpoint_runs.proofs.Pausing.{EndsInFault}

-- ---- positions behind the last event

-- they are good in its end
pub end_good : (b : Behaviour) (m : Answers) (from : ℕ) (before mid new last : Timeline Position) (w x y : World) (outcome : Outcome) (due : Bool) → HasGoneOn b m from before mid w outcome → HasRoom w → due ≡ is_owed (is_fault outcome) w.count (counts_of mid.stored)
    → new ≡ taken_if due (position_of w) mid → AreGood b m w mid.stored → last ≡ new → x ≡ w → IsGrownFrom x y → AreGood b m y last.stored
end_good b m from before mid new last w x y outcome due gone room is taken good same here grown =
    subst (λ (t : Timeline Position). AreGood b m y t.stored) (sym same)
    (good_on b m x y new.stored grown
    (subst (λ (v : World). AreGood b m v new.stored) (sym here)
    (good_stored b m w due mid new (λ owed. owed_lasts b m from before mid w outcome gone (sym is ∙ owed)) room taken good)))

pub end_left : (b : Behaviour) (m : Answers) (limit from : ℕ) (before mid new last : Timeline Position) (w : World) (outcome : Outcome) (due : Bool) → run_to b m limit ≡ record { world = w; outcome = outcome } → HasGoneOn b m from before mid w outcome → due ≡ is_owed (is_fault outcome) w.count (counts_of mid.stored)
    → new ≡ taken_if due (position_of w) mid → last ≡ new → HasLeft from (counts_in before) (counts_in last) (run_to b m limit)
end_left b m limit from before mid new last w outcome due ran gone is taken same =
    subst (λ (t : Timeline Position). HasLeft from (counts_in before) (counts_in t) (run_to b m limit)) (sym same)
    (left_gone b m limit from before mid new w outcome (position_of w) ran gone refl (taken ∙ ap (λ (d : Bool). taken_if d (position_of w) mid) is))

-- ---- a run whose box was declined

over_so : (b : Behaviour) (m : Answers) (limit k : ℕ) (v : World) (over : Option Outcome) (s : Stage) → k < limit → EndsInFault s → stage_of over v ≡ s → s ≡ after b m (suc k) → fresh_run b m limit ≡ stopped (stage_of over v)
over_so b m limit k v None s l ends e at = absurd (subst EndsInFault (sym e) ends)
over_so b m limit k v (Some outcome) s l ends e at =
    let f : is_fault outcome ≡ true = subst EndsInFault (sym e) ends in
    ap (ending b m) (run_over b m v outcome (suc k) limit (omega (arith, l)) (e ∙ at)) ∙ ended b m v outcome f

pub refused_ran : (b : Behaviour) (m : Answers) (limit k : ℕ) (w v : World) (over : Option Outcome) → Running w ≡ after b m k → k < limit → EndsInFault (next_stage b m (Running w)) → stage_of over v ≡ next_stage b m (Running w) → fresh_run b m limit ≡ stopped (stage_of over v)
refused_ran b m limit k w v over going l ends e = over_so b m limit k v over (next_stage b m (Running w)) l ends e (ap (next_stage b m) going)

none_behind : (from last : ℕ) (t : Timeline ℕ) → last ≡ suc from → t ≡ positions_onwards t from last true
none_behind from last t e = let z : last - 1 - from ≡ 0 = omega (arith, e) in rw z refl

left_so : (b : Behaviour) (m : Answers) (limit k : ℕ) (w v : World) (over : Option Outcome) (s : Stage) (t u : Timeline ℕ) → Fits w → w.count ≡ k → k < limit → EndsInFault s → stage_of over v ≡ s → s ≡ next_stage b m (Running w) → s ≡ after b m (suc k) → u ≡ t → HasLeft k t u (run_to b m limit)
left_so b m limit k w v None s t u fits c l ends e is at same = absurd (subst EndsInFault (sym e) ends)
left_so b m limit k w v (Some outcome) s t u fits c l ends e is at same =
    let f : is_fault outcome ≡ true = subst EndsInFault (sym e) ends in
    let counts = over_counts b m w v outcome fits (e ∙ is) in
    let one : v.count ≡ suc k = counts.0 f ∙ ap suc c in
    subst (λ (r : Ran). HasLeft k t u r) (sym (run_over b m v outcome (suc k) limit (omega (arith, l)) (e ∙ at))) (record {
      grew = omega (arith, one);
      faulted = λ _. omega (arith, one);
      counts = same ∙ (rw f (none_behind k v.count t one));
    })

-- none is stored behind it
pub refused_left : (b : Behaviour) (m : Answers) (limit k : ℕ) (w v : World) (over : Option Outcome) (t u : Timeline ℕ) → Running w ≡ after b m k → k < limit → EndsInFault (next_stage b m (Running w)) → stage_of over v ≡ next_stage b m (Running w) → u ≡ t → HasLeft k t u (run_to b m limit)
refused_left b m limit k w v over t u going l ends e same =
    left_so b m limit k w v over (next_stage b m (Running w)) t u (subst (λ s. Fits (world_at s)) (sym going) (fits_after b m k)) (count_is b m k w going) l ends e refl (ap (next_stage b m) going) same

-- ---- a run that was started

pub none_less : (n : ℕ) → n - 0 ≡ n
none_less n = omega arith

behind_zero : (i k : ℕ) (t u : Timeline ℕ) → t ≡ with_count 0 (begun i) → u ≡ behind is_multiple t (numbers_from 1 (k - 0)) → u ≡ behind is_multiple (begun i) (numbers_from 0 (suc k - 0))
behind_zero i k t u c e =
    e ∙ ap (λ x. behind is_multiple x (numbers_from 1 (k - 0))) c
    ∙ ap (λ n. behind is_multiple (with_count 0 (begun i)) (numbers_from 1 n)) (none_less k)
    ∙ setup_begins i k
    ∙ ap (λ n. behind is_multiple (begun i) (numbers_from 0 n)) (sym (none_less (suc k)))

module _ {C X : Type 0} {Y : X → Type 0} where
  -- what is known of it, where it went on after event zero without boxes that wait
  pub started_status : (b : Behaviour) (m : Answers) (members : Members X Y) (limit : ℕ) (old : Timeline Position) (before after : Runner C X Y) (s : RunStatus Outcome) → IsBegun old → counts_in before.positions ≡ with_count 0 (begun old.first) → (world_in members before.kernel).count ≡ 0 → supplied_in members before ≡ []
      → first_unknown b (needed_in b m 0) ≡ None → HasRunOn b m members limit before after s → HasStarted b m members limit (counts_in old) after s
  started_status b m members limit old before after (status.Waits request) none c count empty known h = record {
    held = subst (λ n. IsHeldUp b m limit n [] (world_in members after.kernel) (waiting_in members after) request) count
        (subst (λ (ps : List Part). IsHeldUp b m limit (world_in members before.kernel).count ps (world_in members after.kernel) (waiting_in members after) request) empty h.held);
    counts = behind_zero old.first (world_in members after.kernel).count (counts_in before.positions) (counts_in after.positions) c
        (subst (λ n. counts_in after.positions ≡ behind is_multiple (counts_in before.positions) (numbers_from (suc n) ((world_in members after.kernel).count - n))) count h.counts);
  }
  started_status b m members limit old before after (status.Done outcome) none c count empty known h = record {
    none = ap (λ n. first_wait b m 0 n []) (sym (none_less limit))
        ∙ subst (λ n. first_wait b m n (limit - n) [] ≡ None) count (subst (λ (ps : List Part). first_wait b m (world_in members before.kernel).count (limit - (world_in members before.kernel).count) ps ≡ None) empty h.none);
    known = known;
    whole = h.whole;
    empty = h.empty;
    left = setup_left_all b m limit old before.positions (counts_in after.positions) none c (subst (λ n. HasLeft n (counts_in before.positions) (counts_in after.positions) (run_to b m limit)) count h.left);
  }
