-- What comes next is the first of the events to come, or an injection for a module that stands.
use Rattle.std.proofs.Common.{◌≡◌, ◌⊎◌, inl, inr, ℕ, ℤ, zero, suc, Bool, true, false, List, [], ◌∷◌, Option, Some, None, bytes_eq, length, refl, subst, if◌then◌else◌}
use Rattle.event_set.specs.Events.{last_started}
use Rattle.event_set.specs.declared.pending.Pending.{Pending}
use Rattle.model_injections.specs.Injections.{first_undelivered, goes_before, goes_first, if_first, is_undelivered, sooner, turn_of}
use Rattle.model_injections.specs.declared.injection.Injection.{Injection}
use Rattle.model_injections.specs.declared.injection.InjectionTurn.{InjectionTurn}
use Rattle.model_questions.specs.declared.answer.Answer.TheVariants as answer
use Rattle.model_questions.specs.declared.answer.Question.TheVariants.{InjectionBefore}
use Rattle.model_questions.specs.declared.record.Record.{Record}
use Rattle.model_questions.specs.Answers.{Answers}
use Rattle.model_questions.specs.Records.{path_of}
use Rattle.run_semantics.specs.Laws.{Each}
use Rattle.run_semantics.specs.Upcoming.{first_due, delivered, id_at, target_of, Upcoming, Comes, Nothing, first_of, aimed, chosen, upcoming_in, upcoming}
use Rattle.run_semantics.specs.World.{World, asked_next}
use Rattle.run_semantics.specs.declared.traces.Instance.{Instance}

-- an event is the first of these, and the others are left; or it is none of them and no start, and
-- that holds of its module and of its priority
abbrev pub IsOf : (ℕ → Type 0) → (ℤ → Type 0) → List Pending → Pending → List Pending → Type 0
IsOf T S ps p rest = (ps ≡ p ∷ rest) ⊎ ((rest ≡ ps) × (last_started p.what ≡ None) × T p.id × S p.priority)

abbrev ComesOf : (ℕ → Type 0) → (ℤ → Type 0) → List Pending → Upcoming → Type 0
ComesOf T S ps (Comes u p rest) = IsOf T S ps p rest
ComesOf T S ps (Nothing u) = Unit {0}

-- what holds of all that stand holds of one that is found
found_of : (T : ℕ → Type 0) (records : List Record) (path : List ℕ) (held : List Instance) (id : ℕ) → Each (λ (i : Instance). T i.id) held → id_at records path held ≡ Some id → T id
found_of T records path [] id h e = cc
found_of T records path (x ∷ xs) id h e = by (bytes_eq (path_of records x.id) path) e (found_of T records path xs id h.1)
  where
    by : (t : Bool) → (if t then Some x.id else id_at records path xs) ≡ Some id → (id_at records path xs ≡ Some id → T id) → T id
    by true e later = let same : x.id ≡ id = cc in subst T same h.0
    by false e later = later e

-- ---- the injection that is next

-- it holds of its priority, where there is one
abbrev HasSuch : (ℤ → Type 0) → Option Injection → Type 0
HasSuch S None = Unit {0}
HasSuch S (Some i) = S i.due.priority

-- it holds of the priorities of all of these
abbrev pub AllSuch : (ℤ → Type 0) → List Injection → Type 0
AllSuch S is = Each (λ (i : Injection). S i.due.priority) is

sooner_such : (S : ℤ → Type 0) (i : Injection) (o : Option Injection) → S i.due.priority → HasSuch S o → HasSuch S (sooner i o)
sooner_such S i None h k = h
sooner_such S i (Some j) h k = by (goes_before (turn_of j) (turn_of i))
  where
    by : (c : Bool) → HasSuch S (if c then Some j else Some i)
    by true = k
    by false = h

first_such : (S : ℤ → Type 0) (last : Option InjectionTurn) (is : List Injection) → AllSuch S is → HasSuch S (first_undelivered last is)
first_such S last [] h = tt
first_such S last (i ∷ is) h = by (is_undelivered last i) (first_such S last is h.1)
  where
    by : (c : Bool) → HasSuch S (first_undelivered last is) → HasSuch S (if c then sooner i (first_undelivered last is) else first_undelivered last is)
    by true later = sooner_such S i (first_undelivered last is) h.0 later
    by false later = later

-- ---- what comes

module _ (T : ℕ → Type 0) (S : ℤ → Type 0) where
  abbrev AllStand : World → Type 0
  AllStand w = Each (λ (i : Instance). T i.id) w.modules

  first_comes : (ps : List Pending) (w : World) → ComesOf T S ps (first_of w ps)
  first_comes [] w = tt
  first_comes (p ∷ rest) w = inl refl

  aimed_comes : (go_on : World → Upcoming) (ps : List Pending) (w : World) (i : Injection) (o : Option ℕ) → target_of i.path w ≡ o → AllStand w → S i.due.priority → ComesOf T S ps (go_on (delivered i w)) → ComesOf T S ps (aimed go_on (delivered i w) ps i o)
  aimed_comes go_on ps w i None e h such k = k
  aimed_comes go_on ps w i (Some id) e h such k = inr (refl, refl, found_of T w.records i.path w.modules id h e, such)

  chosen_comes : (go_on : World → Upcoming) (ps : List Pending) (w : World) (found : Option Injection) → HasSuch S found → ((v : World) → AllStand v → ComesOf T S ps (go_on v)) → AllStand w → ComesOf T S ps (chosen go_on w ps (answer.Injection (if_first (first_due ps) found)))
  chosen_comes go_on ps w None such f h = first_comes ps w
  chosen_comes go_on ps w (Some i) such f h = by (goes_first (first_due ps) i)
    where
      by : (c : Bool) → ComesOf T S ps (chosen go_on w ps (answer.Injection (if c then Some i else None)))
      by true = aimed_comes go_on ps w i (target_of i.path w) refl h such (f (delivered i w) h)
      by false = first_comes ps w

  coming_comes : (left : ℕ) (m : Answers) (ps : List Pending) (w : World) → AllSuch S m.injections → AllStand w → ComesOf T S ps (upcoming_in left m ps w)
  coming_comes zero m ps w such h = tt
  coming_comes (suc left) m ps w such h =
      chosen_comes (upcoming_in left m ps) ps (asked_next (InjectionBefore (first_due ps) w.delivered) w) (first_undelivered w.delivered m.injections)
      (first_such S w.delivered m.injections such) (λ v g. coming_comes left m ps v such g) h

  upcoming_comes : (m : Answers) (w : World) → AllSuch S m.injections → AllStand w → ComesOf T S w.pending (upcoming m w)
  unfolding upcoming
  upcoming_comes m w such h = coming_comes (suc (length m.injections)) m w.pending w such h

  -- WHAT COMES
  pub comes_of : (m : Answers) (w u : World) (p : Pending) (rest : List Pending) → upcoming m w ≡ Comes u p rest → AllSuch S m.injections → Each (λ (i : Instance). T i.id) w.modules → IsOf T S w.pending p rest
  comes_of m w u p rest e such h = subst (ComesOf T S w.pending) e (upcoming_comes m w such h)
