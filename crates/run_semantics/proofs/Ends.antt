-- How runs end.
use Rattle.std.proofs.Common.{◌≡◌, ℕ, zero, suc, ◌+◌, ◌≤◌, ◌<◌, sym, ◌∙◌, ap, arith, subst, ⊎_elim}
use Rattle.std.proofs.Math.Nat.{eq-or-lt_of_le}
use Rattle.module_api.specs.Behaviour.{Behaviour}
use Rattle.model_questions.specs.Answers.{Answers}
use Rattle.run_semantics.specs.declared.outcome.Outcome.{Outcome}
use Rattle.run_semantics.specs.World.{World}
use Rattle.run_semantics.specs.Run.{Stage, Running, Over, world_at, next_stage, after, stopped, run_to}
use Rattle.run_semantics.specs.Laws.{gone_on}
use Rattle.run_semantics.proofs.Counts.{count_at_most}

pub over_stays : (b : Behaviour) (m : Answers) (w : World) (outcome : Outcome) (k n : ℕ) → k ≤ n → after b m k ≡ Over w outcome → after b m n ≡ Over w outcome
over_stays b m w outcome k zero h e = let z : k ≡ zero = omega arith in subst (λ (n : ℕ). after b m n ≡ Over w outcome) z e
over_stays b m w outcome k (suc n) h e =
    ⊎_elim (λ (x : k ≡ suc n). subst (λ (i : ℕ). after b m i ≡ Over w outcome) x e) (λ (l : k < suc n). ap (next_stage b m) (over_stays b m w outcome k n (omega arith) e)) (eq-or-lt_of_le h)

-- an end within the limit is the run's
pub run_over : (b : Behaviour) (m : Answers) (w : World) (outcome : Outcome) (k limit : ℕ) → k ≤ limit → Over w outcome ≡ after b m k → run_to b m limit ≡ record { world = w; outcome = outcome }
run_over b m w outcome k limit h e = ap stopped (over_stays b m w outcome k limit h (sym e))

-- one event on
pub next_after : (b : Behaviour) (m : Answers) (w : World) (s : Stage) (k : ℕ) → Running w ≡ after b m k → s ≡ next_stage b m (Running w) → s ≡ after b m (suc k)
next_after b m w s k g e = e ∙ ap (next_stage b m) g

pub count_going : (b : Behaviour) (m : Answers) (w : World) (k : ℕ) → Running w ≡ after b m k → w.count ≤ k
count_going b m w k e = omega (arith, count_at_most b m k, ap (λ (s : Stage). (world_at s).count) e)

pub count_over : (b : Behaviour) (m : Answers) (w : World) (outcome : Outcome) (k : ℕ) → Over w outcome ≡ after b m k → w.count ≤ k
count_over b m w outcome k e = omega (arith, count_at_most b m k, ap (λ (s : Stage). (world_at s).count) e)

-- ---- going on

-- what is to come rests on the stage alone
pub gone_after : (b : Behaviour) (m : Answers) (n k : ℕ) → after b m (n + k) ≡ gone_on b m k (after b m n)
gone_after b m n zero = let e : n + zero ≡ n = omega arith in ap (after b m) e
gone_after b m n (suc k) = let e : n + suc k ≡ suc (n + k) = omega arith in ap (after b m) e ∙ ap (next_stage b m) (gone_after b m n k)

-- from an equal stage
pub gone_from : (b : Behaviour) (n : Answers) (v k : ℕ) (s : Stage) → s ≡ after b n v → after b n (v + k) ≡ gone_on b n k s
gone_from b n v k s e = gone_after b n v k ∙ ap (gone_on b n k) (sym e)

-- one event more
pub one_more : (b : Behaviour) (m : Answers) (n : ℕ) (w : World) → after b m n ≡ Running w → run_to b m (suc n) ≡ stopped (next_stage b m (Running w))
one_more b m n w e = ap (λ s. stopped (next_stage b m s)) e

-- a run that is over has none
pub no_more : (b : Behaviour) (m : Answers) (n : ℕ) (w : World) (outcome : Outcome) → after b m n ≡ Over w outcome → run_to b m (suc n) ≡ run_to b m n
no_more b m n w outcome e = ap (λ s. stopped (next_stage b m s)) e ∙ ap stopped (sym e)
