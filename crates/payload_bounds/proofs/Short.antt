-- At each moment of a run the messages of the events to come are short.
use Rattle.std.proofs.Common.{◌≡◌, inl, inr, ℕ, zero, suc, true, false, List, [], ◌∷◌, Option, Some, None, Bool, length, refl, subst, if◌then◌else◌}
use Rattle.event_set.specs.declared.pending.Pending.{Pending}
use Rattle.event_set.proofs.Order.{each_inserted, each_without}
use Rattle.model_injections.specs.declared.injection.Due.{Due}
use Rattle.model_injections.specs.declared.injection.Injection.{Injection}
use Rattle.model_injections.specs.declared.injection.InjectionTurn.{InjectionTurn}
use Rattle.model_injections.specs.Injections.{first_undelivered, goes_first, if_first}
use Rattle.model_injections.proofs.Left.{IsIn, first_is_left}
use Rattle.module_api.specs.Behaviour.{Behaviour}
use Rattle.model_questions.specs.Answers.{Answers}
use Rattle.model_questions.specs.declared.answer.Answer.TheVariants as answer
use Rattle.model_questions.specs.declared.answer.Question.TheVariants.{InjectionBefore}
use Rattle.run_semantics.specs.Event.{message_of}
use Rattle.run_semantics.specs.Run.{world_at, after}
use Rattle.run_semantics.specs.Upcoming.{first_due, delivered, target_of, Upcoming, Comes, Nothing, first_of, aimed, chosen, upcoming_in, upcoming}
use Rattle.run_semantics.specs.World.{World, asked_next}
use Rattle.run_semantics.proofs.Alive.{each_filter}
use Rattle.run_semantics.proofs.Always.{LastsAlways, always}
use Rattle.run_semantics.proofs.Lasting.{Lasts, by_steps}
use Rattle.payload_bounds.specs.Bounds.{AreShort, BringShort, IsShort}

abbrev Short : World → Type 0
Short w = BringShort w.pending

-- ---- what comes next

short_of : (f : Injection) (is : List Injection) → IsIn f is → AreShort is → IsShort f.payload
short_of f [] i h = absurd i
short_of f (j ∷ is) (inl e) h = subst (λ (x : Injection). IsShort x.payload) e h.0
short_of f (j ∷ is) (inr i) h = short_of f is i h.1

-- it is short, where an event comes; and so are those that stay
abbrev ComesShort : Upcoming → Type 0
ComesShort (Comes u p rest) = IsShort (message_of p).payload × BringShort rest
ComesShort (Nothing u) = Unit {0}

first_short : (u : World) (ps : List Pending) → BringShort ps → ComesShort (first_of u ps)
first_short u [] h = tt
first_short u (p ∷ rest) h = h

aimed_short : (go : World → Upcoming) (u : World) (ps : List Pending) (i : Injection) (target : Option ℕ) → BringShort ps → IsShort i.payload → ComesShort (go u) → ComesShort (aimed go u ps i target)
aimed_short go u ps i None h k rest = rest
aimed_short go u ps i (Some id) h k rest = (k, h)

chosen_short : (go : World → Upcoming) (u : World) (ps : List Pending) (due : Option Due) (found : Option Injection) → BringShort ps → ((i : Injection) → found ≡ Some i → IsShort i.payload) → ((v : World) → ComesShort (go v))
    → ComesShort (chosen go u ps (answer.Injection (if_first due found)))
chosen_short go u ps due None h k rest = first_short u ps h
chosen_short go u ps due (Some i) h k rest = by (goes_first due i)
  where
    by : (c : Bool) → ComesShort (chosen go u ps (answer.Injection (if c then Some i else None)))
    by true = aimed_short go (delivered i u) ps i (target_of i.path u) h (k i refl) (rest (delivered i u))
    by false = first_short u ps h

found_short : (last : Option InjectionTurn) (is : List Injection) (i : Injection) → AreShort is → first_undelivered last is ≡ Some i → IsShort i.payload
found_short last is i h e = short_of i is (first_is_left last is i e).1 h

coming_short : (left : ℕ) (m : Answers) (ps : List Pending) (v : World) → AreShort m.injections → BringShort ps → ComesShort (upcoming_in left m ps v)
coming_short zero m ps v is h = tt
coming_short (suc left) m ps v is h =
    chosen_short (upcoming_in left m ps) (asked_next (InjectionBefore (first_due ps) v.delivered) v) ps (first_due ps) (first_undelivered v.delivered m.injections) h
    (λ i e. found_short v.delivered m.injections i is e) (λ u. coming_short left m ps u is h)

upcoming_short : (m : Answers) (w : World) → AreShort m.injections → Short w → ComesShort (upcoming m w)
unfolding upcoming
upcoming_short m w is h = coming_short (suc (length m.injections)) m w.pending w is h

-- ---- runs

-- what is put among the events to come is short
short_lasts : (b : Behaviour) (m : Answers) → Lasts b m Short
short_lasts b m = record {
  asked = λ q w n f g h. h;
  emitted = λ e w n t f g h. h;
  recorded = λ s w f g h. h;
  inserted = λ e w n t live short f g h. each_inserted (λ (p : Pending). IsShort (message_of p).payload) e w.pending short h;
  cancelled = λ id timer w f g h. each_without (λ (p : Pending). IsShort (message_of p).payload) id timer w.pending h;
  transmitted = λ ts w f g h. h;
  joined = λ gate to w f g h. h;
  ended = λ w f g h. h;
  called = λ id reason i w e f g h. h;
  finished = λ id w f g h. h;
  gone = λ target w live f g h. each_filter (λ (p : Pending). IsShort (message_of p).payload) (λ (p : Pending). IsShort (message_of p).payload) _ w.pending (λ p k e. k) h;
  created = λ parent c class w live room deep f g h. h;
  set_up = by_steps m Short (λ id w n f g h. h) (λ parent bs w n few f g h. h);
  started = λ ids w e live fresh f g h. h;
}

short_always : (b : Behaviour) (m : Answers) → AreShort m.injections → LastsAlways b m Short
short_always b m is = record {
  lasts = short_lasts b m;
  at_first = tt;
  network = λ name. tt;
  begins = λ w u p rest e looked f h. (subst ComesShort e (upcoming_short m w is h)).1;
}

pub pending_short : (b : Behaviour) (m : Answers) (n : ℕ) → AreShort m.injections → BringShort (world_at (after b m n)).pending
pending_short b m n is = always b m Short (short_always b m is) n

pub next_is_short : (b : Behaviour) (m : Answers) (n : ℕ) (u : World) (p : Pending) (rest : List Pending) → AreShort m.injections → upcoming m (world_at (after b m n)) ≡ Comes u p rest → IsShort (message_of p).payload
next_is_short b m n u p rest is e = (subst ComesShort e (upcoming_short m (world_at (after b m n)) is (pending_short b m n is))).0
