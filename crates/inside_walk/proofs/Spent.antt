-- What steps leave to be done.
use Rattle.std.proofs.Common.{◌≡◌, ℕ, suc, zero, ◌+◌, ◌-◌, ◌*◌, ◌<◌, ◌≤◌, max, ℤ, List, [], ◌∷◌, Result, Ok, Err, Bor, ap, sym, subst, ◌∙◌, arith}
use Rattle.std.proofs.Math.Nat.{suc-mul}
use Rattle.inside_keys.specs.declared.found.State.{State}
use Rattle.inside_parts.specs.declared.fault.InsideError.{InsideError}
use Rattle.ned_trees.specs.declared.connections.Clause.{Clause}
use Rattle.inside_walk.specs.declared.task.Body.{Body}
use Rattle.inside_walk.specs.declared.task.Ground.{Ground}
use Rattle.inside_walk.specs.declared.task.Next.{Next}
use Rattle.inside_walk.specs.declared.task.Next.TheVariants as next
use Rattle.inside_walk.specs.declared.task.Task.{Task}
use Rattle.inside_walk.specs.declared.task.Task.TheVariants as task
use Rattle.inside_walk.specs.Weights.{IsSpent, Spends, of_next, of_task, of_tasks, cost_of_next, cost_of_task, cost_of_tasks, turns_of, of_clauses, of_body}

fewer : (a b t p q : ℕ) → a < b → p ≡ q → a + t + p < b + t + q
fewer a b t p q h e = omega arith

-- the tasks are as they were
pub unchanged : (g : Ground) (most weight : ℕ) (ts : List Task) (n : ℕ) (found : Next) → cost_of_next found ≤ most → cost_of_tasks ts ≤ most → of_next g found < weight → turns_of found ≡ n
    → IsSpent g most weight ts n found ts
unchanged g most weight ts n found c cs w e =
    record { cost = c; costs = cs; less = fewer (of_next g found) weight (of_tasks g ts) (turns_of found * most) (n * most) w (ap (λ t. t * most) e) }

raised : (a b w v : ℕ) → a < w + b → w ≤ v → a < v + b
raised a b w v h k = omega arith

regroup : (a w t p : ℕ) → a < w + t + p → a < w + (t + p)
regroup a w t p h = omega arith

back : (a v t p : ℕ) → a < v + (t + p) → a < v + t + p
back a v t p h = omega arith

pub heavier : (g : Ground) (most w v : ℕ) (ts : List Task) (n : ℕ) (found : Next) (us : List Task) → w ≤ v → IsSpent g most w ts n found us → IsSpent g most v ts n found us
heavier g most w v ts n found us h s =
    record {
      cost = s.cost;
      costs = s.costs;
      less = back _ v (of_tasks g ts) (n * most) (raised _ (of_tasks g ts + n * most) w v (regroup _ w (of_tasks g ts) (n * most) s.less) h);
    }

-- what spends little spends no more than much
pub spends_more : (g : Ground) (w v p q : ℕ) (ts : List Task) (n : ℕ) (r : Result Next InsideError) (us : List Task) → w ≤ v → p ≤ q → Spends g w p ts n r us → Spends g v q ts n r us
spends_more g w v p q ts n (Ok found) us h k s = λ most c cs. heavier g most w v ts n found us h (s most (omega (arith, k, c)) cs)
spends_more g w v p q ts n (Err e) us h k s = tt

pub one_less : (n p : ℕ) → 0 < n → n * p ≡ (n - 1) * p + p
one_less zero p h = absurd (omega arith)
one_less (suc m) p h = let e : suc m - 1 ≡ m = omega arith in suc-mul m p ∙ ap (λ k. k * p + p) (sym e)

turn_less : (c t a b most : ℕ) → c + 1 ≤ most → b ≡ a + most → 0 + (c + (1 + t)) + a < 1 + t + b
turn_less c t a b most h e = omega arith

-- a turn has begun
pub one_spent : (g : Ground) (ts above all : List Task) (x : Bor (List ℕ)) (a last : ℤ) (cs : Bor (List Clause)) (b : Body) (s : State)
    → above ≡ task.Turns x a last cs b ∷ ts → all ≡ task.Clauses cs b ∷ above → 0 < s.turns
    → (most : ℕ) → of_clauses cs.now (of_body b) + 1 ≤ most → cost_of_tasks ts ≤ most
    → IsSpent g most 1 ts s.turns (next.Go (record { parts = s.parts; wiring = s.wiring; turns = s.turns - 1; written = s.written })) all
one_spent g ts above all x a last cs b s e f h most k l =
    subst (λ us. IsSpent g most 1 ts s.turns (next.Go (record { parts = s.parts; wiring = s.wiring; turns = s.turns - 1; written = s.written })) us) (sym (f ∙ ap (λ us. task.Clauses cs b ∷ us) e))
    (record {
      cost = omega arith;
      costs = under (of_clauses cs.now (of_body b)) (cost_of_tasks ts) k l;
      less = turn_less (of_clauses cs.now (of_body b)) (of_tasks g ts) ((s.turns - 1) * most) (s.turns * most) most k (one_less s.turns most h);
    })
  where
    under : (c t : ℕ) → c + 1 ≤ most → t ≤ most → max c (max (c + 1) t) ≤ most
    under c t h k = omega arith

-- the body is part of the clauses around it
pub body_less : (cs : List Clause) (b : ℕ) → b + 2 ≤ of_clauses cs b
body_less [] b = omega arith
body_less (c ∷ cs) b = let h : b + 2 ≤ of_clauses cs b = body_less cs b in omega (arith, h)

pub body_one : (cs : List Clause) (b : ℕ) → b + 1 ≤ of_clauses cs b
body_one cs b = let h : b + 2 ≤ of_clauses cs b = body_less cs b in omega (arith, h)

pub body_within : (cs : List Clause) (b : ℕ) → b ≤ of_clauses cs b
body_within cs b = let h : b + 2 ≤ of_clauses cs b = body_less cs b in omega (arith, h)

within_both : (a b q most : ℕ) → a ≤ q → b ≤ most → q ≤ most → max a b ≤ most
within_both a b q most h k l = omega arith

moved : (a w x t p v : ℕ) → a < w + (x + t) + p → w + x ≤ v → a < v + t + p
moved a w x t p v h k = omega arith

-- a task was put on top, and then something was spent
pub below : (g : Ground) (t : Task) (above ts : List Task) (w v p q n : ℕ) (r : Result Next InsideError) (us : List Task) → above ≡ t ∷ ts → p ≤ q → cost_of_task t ≤ q → w + of_task g t ≤ v
    → Spends g w p above n r us → Spends g v q ts n r us
below g t above ts w v p q n (Err e) us is h c l s = tt
below g t above ts w v p q n (Ok found) us is h c l s = λ most d ds.
    let z = subst (λ a. Spends g w p a n (Ok found) us) is s most (omega (arith, h, d)) (within_both (cost_of_task t) (cost_of_tasks ts) q most c ds d) in
    record { cost = z.cost; costs = z.costs; less = moved _ w (of_task g t) (of_tasks g ts) (n * most) v z.less l }

-- and nothing more than that was done
pub put : (g : Ground) (t : Task) (above ts : List Task) (v q n : ℕ) (found : Next) → above ≡ t ∷ ts → cost_of_task t ≤ q → cost_of_next found ≤ q → of_next g found + of_task g t < v → turns_of found ≡ n
    → Spends g v q ts n (Ok found) above
put g t above ts v q n found is c d l e = λ most h k.
    subst (λ us. IsSpent g most v ts n found us) (sym is)
    (record {
      cost = omega (arith, d, h);
      costs = within_both (cost_of_task t) (cost_of_tasks ts) q most c k h;
      less = fewer_all (of_next g found) (of_task g t) (of_tasks g ts) (turns_of found * most) (n * most) v l (ap (λ m. m * most) e);
    })
  where
    fewer_all : (a x t p q v : ℕ) → a + x < v → p ≡ q → a + (x + t) + p < v + t + q
    fewer_all a x t p q v h e = omega arith
