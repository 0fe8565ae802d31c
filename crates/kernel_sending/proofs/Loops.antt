-- One part of an event for each element of a list, in a loop.
use Rattle.std.proofs.Common.{◌≡◌, ℕ, zero, suc, ◌+◌, ◌≤◌, ◌<◌, List, [], ◌∷◌, refl, sym, ap, ◌∙◌, add-one, arith, drop, get_or, length}
use Rattle.run_semantics.specs.declared.outcome.EventFlow.{EventFlow}
use Rattle.run_semantics.specs.declared.outcome.EventFlow.TheVariants.{GoOn, Stop, Break}
use Rattle.run_semantics.specs.World.{World}
use Rattle.run_semantics.specs.Perform.{Flow, On, ◌>>=◌, flow_of, for_each}

-- a turn that doesn't go on is the last
pub stops : (turn : EventFlow) (w : World) (k : World → Flow) → (turn ≡ GoOn → ⊥) → (flow_of turn w >>= k) ≡ flow_of turn w
stops GoOn w k h = absurd (h refl)
stops Stop w k h = refl
stops (Break path f) w k h = refl

-- the first of those that are left, and the others
drop_step : {X : Type 0} (xs : List X) (i : ℕ) (d : X) → i < length xs → drop i xs ≡ get_or xs i d ∷ drop (suc i) xs
drop_step [] i d h = absurd (omega (arith, h))
drop_step (x ∷ xs) zero d h = refl
drop_step (x ∷ xs) (suc i) d h = drop_step xs i d (omega (arith, h))

pub next_left : {X : Type 0} (xs : List X) (i : ℕ) (d : X) → i < length xs → drop i xs ≡ get_or xs i d ∷ drop (i + 1) xs
next_left xs i d h = rw add-one (drop_step xs i d h)

pub none_left : {X : Type 0} (xs : List X) (i : ℕ) → length xs ≤ i → drop i xs ≡ []
none_left [] zero h = refl
none_left [] (suc i) h = refl
none_left (x ∷ xs) zero h = absurd (omega (arith, h))
none_left (x ∷ xs) (suc i) h = none_left xs i (omega (arith, h))

-- one more, in a loop
pub each_step : {X : Type 0} (part : X → World → Flow) (xs : List X) (i : ℕ) (d : X) (w : World) (fl whole : Flow) → i < length xs → fl ≡ part (get_or xs i d) w → for_each part (drop i xs) w ≡ whole → (fl >>= for_each part (drop (i + 1) xs)) ≡ whole
each_step part xs i d w fl whole h step done =
    ap (λ (f : Flow). f >>= for_each part (drop (i + 1) xs)) step ∙ (ap (λ ys. for_each part ys w) (sym (next_left xs i d h)) ∙ done)

-- the same, of an element that a loop reads
pub each_on : {X : Type 0} (part : X → World → Flow) (xs : List X) (i : ℕ) (x : X) (w : World) (fl whole : Flow) → i < length xs → x ≡ get_or xs i x → fl ≡ part x w → for_each part (drop i xs) w ≡ whole → (fl >>= for_each part (drop (i + 1) xs)) ≡ whole
each_on part xs i x w fl whole h is step done = each_step part xs i x w fl whole h (step ∙ ap (λ y. part y w) is) done

-- no more
pub each_ends : {X : Type 0} (part : X → World → Flow) (xs : List X) (i : ℕ) (w : World) → length xs ≤ i → for_each part (drop i xs) w ≡ On w
each_ends part xs i w h = ap (λ ys. for_each part ys w) (none_left xs i h)
