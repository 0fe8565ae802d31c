-- The turns of a loop.
use Rattle.std.proofs.Common.{◌≡◌, ℕ, suc, zero, ◌+◌, ◌-◌, ◌==◌, ◌≤◌, ◌<◌, ℤ, pos, negsuc, ◌+ℤ◌, ◌-ℤ◌, ◌≤ℤ◌, ◌<ℤ◌, Bool, true, false, if◌then◌else◌, List, ◌∷◌, Result, Err, Bor, refl, ap, sym, subst, ◌∙◌, arith, add-one}
use Rattle.std.proofs.lemmas.Int.{ints, to_z-of_z}
use mir.Syntax.{w64}
use mir.Val.{SFits, of_z, to_z}
use Rattle.param_following.specs.Asking.{Done}
use Rattle.inside_keys.specs.declared.found.State.{State}
use Rattle.inside_keys.specs.Asked.{KeyAsking}
use Rattle.inside_keys.specs.Inside.{Rest, looped, counted, turns, count, or_zero}
use Rattle.inside_keys.specs.Places.{Scope, bind}
use Rattle.sim_values.specs.declared.model_fault.ModelFault.TheVariants.{TooManyTurns}
use Rattle.ned_trees.specs.declared.connections.Clause.{Clause}
use Rattle.inside_walk.specs.declared.task.Body.{Body}
use Rattle.inside_walk.specs.declared.task.Ground.{Ground}
use Rattle.inside_walk.specs.declared.task.Task.{Task}
use Rattle.inside_walk.specs.declared.task.Task.TheVariants as task
use Rattle.inside_parts.specs.declared.fault.InsideError.{InsideError}
use Rattle.inside_walk.specs.declared.task.Next.{Next}
use Rattle.inside_walk.specs.Tasks.{Leads, body_of, continued, scope_of}

or_zero-more : (z : ℤ) → pos 0 ≤ℤ z → or_zero (z +ℤ pos 1) ≡ suc (or_zero z)
or_zero-more (pos n) h = add-one n
or_zero-more (negsuc n) h = absurd (omega (arith, ints))

or_zero-none : (z : ℤ) → z ≤ℤ pos 0 → or_zero z ≡ 0
or_zero-none (pos n) h = omega (arith, ints)
or_zero-none (negsuc n) h = refl

pub count-more : (a b : ℤ) → a ≤ℤ b → count a b ≡ suc (count (a +ℤ pos 1) b)
unfolding count
count-more a b h =
    let low : pos 0 ≤ℤ (b -ℤ a) = omega (arith, ints) in
    let same : b -ℤ a ≡ (b -ℤ (a +ℤ pos 1)) +ℤ pos 1 = omega (arith, ints) in
    or_zero-more (b -ℤ a) low ∙ ap (λ z. suc (or_zero z)) same

pub count-none : (a b : ℤ) → b <ℤ a → count a b ≡ 0
unfolding count
count-none a b h =
    let high : ((b -ℤ a) +ℤ pos 1) ≤ℤ pos 0 = omega (arith, ints) in
    or_zero-none ((b -ℤ a) +ℤ pos 1) high

-- comparisons of numbers that were passed to a call
pub is_at_most : (a b : ℤ) → to_z w64 (of_z w64 a) ≤ℤ to_z w64 (of_z w64 b) → SFits w64 a → SFits w64 b → a ≤ℤ b
is_at_most a b h f g = omega (arith, ints)

pub is_below : (a b : ℤ) → to_z w64 (of_z w64 a) <ℤ to_z w64 (of_z w64 b) → SFits w64 a → SFits w64 b → a <ℤ b
is_below a b h f g = omega (arith, ints)

pub is_next : (z a : ℤ) → z ≡ to_z w64 (of_z w64 a) +ℤ pos 1 → SFits w64 a → z ≡ a +ℤ pos 1
is_next z a h f = omega (arith, ints)

module _ (g : Ground) (x : List ℕ) (cs : List Clause) (b : Body) (scope : Scope) where
  abbrev pub each : ℤ → State → Rest → KeyAsking
  each y t next = looped g.place cs (body_of g b) (bind x y scope) t next

  -- no turn is left
  pub none_left : (a last : ℤ) (s : State) (rest : Rest) → last <ℤ a → rest s ≡ turns (count a last) a each s rest
  none_left a last s rest h = sym (ap (λ n. turns n a each s rest) (count-none a last h))

  -- there is one more
  pub one_more : (a last : ℤ) (s : State) (rest : Rest) → a ≤ℤ last
      → turns (count a last) a each s rest ≡ counted s (λ t. each a t (λ u. turns (count (a +ℤ pos 1) last) (a +ℤ pos 1) each u rest))
  one_more a last s rest h = ap (λ n. turns n a each s rest) (count-more a last h)

  -- but none may be made
  pub too_many : (a last : ℤ) (s : State) (rest : Rest) → a ≤ℤ last → s.turns ≡ 0 → turns (count a last) a each s rest ≡ Done (Err TooManyTurns)
  too_many a last s rest h e = one_more a last s rest h ∙ ap (λ n. if n == 0 then Done (Err TooManyTurns) else each a (record { parts = s.parts; wiring = s.wiring; turns = n - 1; written = s.written }) (λ u. turns (count (a +ℤ pos 1) last) (a +ℤ pos 1) each u rest)) e

spent : (t : Bool) (s : State) (rest : Rest) → t ≡ false → (if t then Done (Err TooManyTurns) else rest (record { parts = s.parts; wiring = s.wiring; turns = s.turns - 1; written = s.written })) ≡ rest (record { parts = s.parts; wiring = s.wiring; turns = s.turns - 1; written = s.written })
spent true s rest h = absurd cc
spent false s rest h = refl

-- a turn has begun
pub turned : (g : Ground) (ts above all : List Task) (x : Bor (List ℕ)) (a last : ℤ) (cs : Bor (List Clause)) (b : Body) (s : State)
    → above ≡ task.Turns x a last cs b ∷ ts → all ≡ task.Clauses cs b ∷ above → a ≤ℤ last → (s.turns == 0) ≡ false
    → continued g all (record { parts = s.parts; wiring = s.wiring; turns = s.turns - 1; written = s.written }) ≡ turns (count a last) a (each g x.now cs.now b (scope_of ts)) s (continued g ts)
turned g ts above all x a last cs b s e f h k =
    ap (λ l. continued g l (record { parts = s.parts; wiring = s.wiring; turns = s.turns - 1; written = s.written })) (f ∙ ap (λ l. task.Clauses cs b ∷ l) e)
    ∙ sym (one_more g x.now cs.now b (scope_of ts) a last s (continued g ts) h
    ∙ spent (s.turns == 0) s (λ t. each g x.now cs.now b (scope_of ts) a t (λ u. turns (count (a +ℤ pos 1) last) (a +ℤ pos 1) (each g x.now cs.now b (scope_of ts)) u (continued g ts))) k)

-- a loop that was pushed, with its numbers read back
pub pushed : (above ts : List Task) (x : Bor (List ℕ)) (a last : ℤ) (cs : Bor (List Clause)) (b : Body)
    → above ≡ task.Turns x (to_z w64 (of_z w64 a)) (to_z w64 (of_z w64 last)) cs b ∷ ts → SFits w64 a → SFits w64 last → above ≡ task.Turns x a last cs b ∷ ts
pushed above ts x a last cs b e f h = e ∙ ap (λ z. task.Turns x z (to_z w64 (of_z w64 last)) cs b ∷ ts) (to_z-of_z w64 a f) ∙ ap (λ z. task.Turns x a z cs b ∷ ts) (to_z-of_z w64 last h)

pub not_none : (n : ℕ) → 0 < n → (n == 0) ≡ false
not_none zero h = absurd (omega arith)
not_none (suc n) h = grind arith

pub over : (a last : ℤ) → last ≤ℤ a → last <ℤ (a +ℤ pos 1)
over a last h = omega (arith, ints)

-- turns from a number that is the one or the other
pub leads_from : (g : Ground) (x : List ℕ) (cs : List Clause) (b : Body) (ts : List Task) (s : State) (r : Result Next InsideError) (us : List Task) (a e l last : ℤ) → a ≡ e → l ≡ last
    → Leads g r us (turns (count a l) a (each g x cs b (scope_of ts)) s (continued g ts)) → Leads g r us (turns (count e last) e (each g x cs b (scope_of ts)) s (continued g ts))
leads_from g x cs b ts s r us a e l last same other h =
    subst (λ m. Leads g r us (turns (count e m) e (each g x cs b (scope_of ts)) s (continued g ts))) other
    (subst (λ z. Leads g r us (turns (count z l) z (each g x cs b (scope_of ts)) s (continued g ts))) same h)
