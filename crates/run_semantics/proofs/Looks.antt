-- Where nothing comes next no event is left, and no injection.
use Rattle.std.proofs.Common.{◌≡◌, ℕ, zero, suc, ◌+◌, ◌<◌, Bool, true, false, List, [], ◌∷◌, Option, Some, None, length, refl, subst, arith, if◌then◌else◌}
use Rattle.model_questions.specs.declared.answer.Answer.TheVariants as answer
use Rattle.model_questions.specs.declared.answer.Question.TheVariants.{InjectionBefore}
use Rattle.model_questions.specs.Answers.{Answers}
use Rattle.model_injections.specs.declared.injection.Due.{Due}
use Rattle.model_injections.specs.declared.injection.Injection.{Injection}
use Rattle.model_injections.specs.declared.injection.InjectionTurn.{InjectionTurn}
use Rattle.model_injections.specs.Injections.{turn_of, first_undelivered, goes_first, if_first}
use Rattle.model_injections.proofs.Left.{left_in, left_within, fewer}
use Rattle.event_set.specs.declared.pending.Pending.{Pending}
use Rattle.run_semantics.specs.Laws.{HasEnded}
use Rattle.run_semantics.specs.World.{World, asked_next}
use Rattle.run_semantics.specs.Upcoming.{first_due, delivered, target_of, Upcoming, Nothing, first_of, aimed, chosen, upcoming_in, upcoming}

-- one look less is enough for what is left after the one that is delivered
one_less : (last : Option InjectionTurn) (is : List Injection) (i : Injection) (left : ℕ) → left_in last is < suc left → first_undelivered last is ≡ Some i → left_in (Some (turn_of i)) is < left
one_less last is i left h e = let l = fewer last is i e in omega (arith, h, l)

-- ---- more looks than there are injections left change nothing

aimed_alike : (go other : World → Upcoming) (u : World) (ps : List Pending) (i : Injection) (target : Option ℕ) → go u ≡ other u → aimed go u ps i target ≡ aimed other u ps i target
aimed_alike go other u ps i None e = e
aimed_alike go other u ps i (Some id) e = refl

chosen_alike : (go other : World → Upcoming) (u : World) (ps : List Pending) (due : Option Due) (found : Option Injection) → ((i : Injection) → found ≡ Some i → go (delivered i u) ≡ other (delivered i u))
    → chosen go u ps (answer.Injection (if_first due found)) ≡ chosen other u ps (answer.Injection (if_first due found))
chosen_alike go other u ps due None f = refl
chosen_alike go other u ps due (Some i) f = by (goes_first due i)
  where
    by : (c : Bool) → chosen go u ps (answer.Injection (if c then Some i else None)) ≡ chosen other u ps (answer.Injection (if c then Some i else None))
    by true = aimed_alike go other (delivered i u) ps i (target_of i.path u) (f i refl)
    by false = refl

pub coming_alike : (left right : ℕ) (m : Answers) (ps : List Pending) (v : World) → left_in v.delivered m.injections < left → left_in v.delivered m.injections < right → upcoming_in left m ps v ≡ upcoming_in right m ps v
coming_alike zero right m ps v h k = absurd (omega (arith, h))
coming_alike (suc left) zero m ps v h k = absurd (omega (arith, k))
coming_alike (suc left) (suc right) m ps v h k =
    let u : World = asked_next (InjectionBefore (first_due ps) v.delivered) v in
    chosen_alike (upcoming_in left m ps) (upcoming_in right m ps) u ps (first_due ps) (first_undelivered v.delivered m.injections)
    (λ i e. coming_alike left right m ps (delivered i u) (one_less v.delivered m.injections i left h e) (one_less v.delivered m.injections i right k e))

-- as many as there are injections, and any number more
pub upcoming_more : (m : Answers) (w : World) (more : ℕ) → upcoming m w ≡ upcoming_in (suc (length m.injections + more)) m w.pending w
unfolding upcoming
upcoming_more m w more =
    let l = left_within w.delivered m.injections in
    coming_alike (suc (length m.injections)) (suc (length m.injections + more)) m w.pending w (omega (arith, l)) (omega (arith, l))

-- ---- where nothing comes

first_ends : (m : Answers) (v u : World) (ps : List Pending) → first_undelivered v.delivered m.injections ≡ None → first_of v ps ≡ Nothing u → HasEnded m ps u
first_ends m v u [] e h = let same : v ≡ u = cc in (refl, subst (λ (x : World). first_undelivered x.delivered m.injections ≡ None) same e)
first_ends m v u (p ∷ rest) e h = cc

aimed_ends : (m : Answers) (go : World → Upcoming) (v u : World) (ps : List Pending) (i : Injection) (target : Option ℕ) → (go v ≡ Nothing u → HasEnded m ps u) → aimed go v ps i target ≡ Nothing u → HasEnded m ps u
aimed_ends m go v u ps i None f h = f h
aimed_ends m go v u ps i (Some id) f h = cc

chosen_ends : (m : Answers) (go : World → Upcoming) (v u : World) (ps : List Pending) (found : Option Injection) → first_undelivered v.delivered m.injections ≡ found → ((i : Injection) → found ≡ Some i → go (delivered i v) ≡ Nothing u → HasEnded m ps u)
    → chosen go v ps (answer.Injection (if_first (first_due ps) found)) ≡ Nothing u → HasEnded m ps u
chosen_ends m go v u ps None e f h = first_ends m v u ps e h
chosen_ends m go v u [] (Some i) e f h = aimed_ends m go (delivered i v) u [] i (target_of i.path v) (f i refl) h
chosen_ends m go v u (p ∷ rest) (Some i) e f h = by (goes_first (first_due (p ∷ rest)) i) h
  where
    by : (c : Bool) → chosen go v (p ∷ rest) (answer.Injection (if c then Some i else None)) ≡ Nothing u → HasEnded m (p ∷ rest) u
    by true h = aimed_ends m go (delivered i v) u (p ∷ rest) i (target_of i.path v) (f i refl) h
    by false h = cc

coming_ends : (left : ℕ) (m : Answers) (ps : List Pending) (v u : World) → left_in v.delivered m.injections < left → upcoming_in left m ps v ≡ Nothing u → HasEnded m ps u
coming_ends zero m ps v u h e = absurd (omega (arith, h))
coming_ends (suc left) m ps v u h e =
    let x : World = asked_next (InjectionBefore (first_due ps) v.delivered) v in
    chosen_ends m (upcoming_in left m ps) x u ps (first_undelivered v.delivered m.injections) refl (λ i f. coming_ends left m ps (delivered i x) u (one_less v.delivered m.injections i left h f)) e

-- NOTHING COMES only where no event is left, and no injection
pub upcoming_ends : (m : Answers) (w u : World) → upcoming m w ≡ Nothing u → HasEnded m w.pending u
unfolding upcoming
upcoming_ends m w u e = let l = left_within w.delivered m.injections in coming_ends (suc (length m.injections)) m w.pending w u (omega (arith, l)) e
