-- In the world beside what comes next all that is new is what was asked to know it, and which
-- injection was delivered last.
use Rattle.std.proofs.Common.{◌≡◌, ℕ, zero, suc, ◌+◌, List, [], ◌∷◌, ◌++◌, Option, Some, None, length, refl, sym, ap, arith, subst, append_assoc, append-nil}
use Rattle.model_questions.specs.declared.answer.Answer.{Answer}
use Rattle.model_questions.specs.declared.answer.Answer.TheVariants as answer
use Rattle.model_questions.specs.declared.answer.AskedQuestion.{AskedQuestion}
use Rattle.model_questions.specs.declared.answer.Question.{Question}
use Rattle.model_questions.specs.declared.answer.Question.TheVariants.{BeyondLimit, InjectionBefore}
use Rattle.model_injections.specs.declared.injection.Injection.{Injection}
use Rattle.model_injections.specs.declared.injection.InjectionTurn.{InjectionTurn}
use Rattle.model_questions.specs.Answers.{Answers, answer_of}
use Rattle.model_injections.specs.Injections.{turn_of}
use Rattle.model_questions.proofs.AnswerLemmas.{about}
use Rattle.event_set.specs.declared.pending.Pending.{Pending}
use Rattle.run_semantics.specs.Agreement.{tried}
use Rattle.run_semantics.specs.Laws.{GoesOn}
use Rattle.run_semantics.specs.World.{World, asked_next}
use Rattle.run_semantics.specs.Upcoming.{first_due, delivered, target_of, Upcoming, Comes, Nothing, first_of, aimed, chosen, upcoming_in, upcoming}
use Rattle.run_semantics.proofs.Growth.{AllOfEvent, AllAbout, AllOfEvent-append, AllAbout-append}

-- a world in which more was asked, and that injection was delivered last
abbrev pub looking : World → Option InjectionTurn → List AskedQuestion → World
looking w last rest = record w { delivered = last; questions = w.questions ++ rest }

-- from the first world to the second: questions of the event after the first were asked, about no
-- module, and injections delivered
pub record HasLooked (w u : World) : Type 0 where
  pub last : Option InjectionTurn
  pub rest : List AskedQuestion
  pub of_next : AllOfEvent (w.count + 1) rest
  pub of_none : AllAbout 0 rest
  pub same : looking w last rest ≡ u

-- nothing was asked
pub looked_same : (w : World) → HasLooked w w
looked_same w = record { last = w.delivered; rest = []; of_next = tt; of_none = tt; same = ap (λ (qs : List AskedQuestion). record w { questions = qs }) (append-nil w.questions) }

-- one more question
pub looked_asked : (w v : World) (q : Question) → about q ≡ 0 → HasLooked w v → HasLooked w (asked_next q v)
looked_asked w v q e h =
    let a : AskedQuestion = record { event = w.count + 1; question = q } in
    subst (λ (u : World). HasLooked w (asked_next q u)) h.same (record {
      last = h.last;
      rest = h.rest ++ a ∷ [];
      of_next = AllOfEvent-append (w.count + 1) h.rest (a ∷ []) h.of_next (refl, tt);
      of_none = AllAbout-append 0 h.rest (a ∷ []) h.of_none (omega (arith, e), tt);
      same = ap (λ (qs : List AskedQuestion). record w { delivered = h.last; questions = qs }) (sym (append_assoc w.questions h.rest (a ∷ [])));
    })

-- an injection is delivered
looked_delivered : (w v : World) (i : Injection) → HasLooked w v → HasLooked w (delivered i v)
looked_delivered w v i h =
    subst (λ (u : World). HasLooked w (delivered i u)) h.same (record { last = Some (turn_of i); rest = h.rest; of_next = h.of_next; of_none = h.of_none; same = refl })

-- so many events were executed as before
pub looked_count : (w u : World) → HasLooked w u → u.count ≡ w.count
looked_count w u h = sym (ap (λ (v : World). v.count) h.same)

-- its questions are what was noted, and then those
pub looked_joined : (w u : World) (h : HasLooked w u) → w.questions ++ h.rest ≡ u.questions
looked_joined w u h = ap (λ (v : World). v.questions) h.same

-- so they go on
pub looked_questions : (w u : World) → HasLooked w u → GoesOn w.questions u.questions
looked_questions w u h = (h.rest, looked_joined w u h)

-- ---- what comes next

-- the world beside it
abbrev pub beside : Upcoming → World
beside (Comes u p rest) = u
beside (Nothing u) = u

-- the first of the events to come
first_looks : (w u : World) (ps : List Pending) → HasLooked w u → HasLooked w (beside (first_of u ps))
first_looks w u [] h = h
first_looks w u (p ∷ rest) h = h

-- an injection, for the module that stands at its path
aimed_looks : (w u : World) (go_on : World → Upcoming) (ps : List Pending) (i : Injection) (target : Option ℕ) → ((v : World) → HasLooked w v → HasLooked w (beside (go_on v))) → HasLooked w u → HasLooked w (beside (aimed go_on u ps i target))
aimed_looks w u go_on ps i None f h = f u h
aimed_looks w u go_on ps i (Some id) f h = h

-- what was answered
pub chosen_looks : (w u : World) (go_on : World → Upcoming) (ps : List Pending) (found : Answer) → ((v : World) → HasLooked w v → HasLooked w (beside (go_on v))) → HasLooked w u → HasLooked w (beside (chosen go_on u ps found))
chosen_looks w u go_on ps (answer.Injection (Some i)) f h = aimed_looks w (delivered i u) go_on ps i (target_of i.path u) f (looked_delivered w u i h)
chosen_looks w u go_on ps _ f h = first_looks w u ps h

-- where so many injections may be discarded
pub coming_looks : (left : ℕ) (m : Answers) (ps : List Pending) (w v : World) → HasLooked w v → HasLooked w (beside (upcoming_in left m ps v))
coming_looks zero m ps w v h = h
coming_looks (suc left) m ps w v h =
    chosen_looks w (asked_next (InjectionBefore (first_due ps) v.delivered) v) (upcoming_in left m ps) ps (answer_of m v.records (InjectionBefore (first_due ps) v.delivered))
    (λ x f. coming_looks left m ps w x f)
    (looked_asked w v (InjectionBefore (first_due ps) v.delivered) refl h)

-- what comes next
pub upcoming_looks : (m : Answers) (w : World) → HasLooked w (beside (upcoming m w))
unfolding upcoming
upcoming_looks m w = coming_looks (suc (length m.injections)) m w.pending w w (looked_same w)

-- ---- what was tried

-- the world in which it was asked too whether what comes next is after the limit
abbrev pub trying : Upcoming → World
trying (Comes u p rest) = asked_next (BeyondLimit p.time) u
trying (Nothing u) = u

-- its questions
tried_in : (up : Upcoming) → (trying up).questions ≡ tried up
tried_in (Comes u p rest) = refl
tried_in (Nothing u) = refl

-- in it too only questions were asked
trying_looks : (w : World) (up : Upcoming) → HasLooked w (beside up) → HasLooked w (trying up)
trying_looks w (Comes u p rest) h = looked_asked w u (BeyondLimit p.time) refl h
trying_looks w (Nothing u) h = h

-- what was asked up to an event that did not begin is what is noted, and then questions of that
-- event, about no module
pub record HasTried (w : World) (qs : List AskedQuestion) : Type 0 where
  pub rest : List AskedQuestion
  pub joined : w.questions ++ rest ≡ qs
  pub of_next : AllOfEvent (w.count + 1) rest
  pub of_none : AllAbout 0 rest

-- the same, of what comes next
pub upcoming_tried : (m : Answers) (w : World) → HasTried w (tried (upcoming m w))
upcoming_tried m w =
    let h = trying_looks w (upcoming m w) (upcoming_looks m w) in
    subst (HasTried w) (tried_in (upcoming m w)) (record { rest = h.rest; joined = looked_joined w (trying (upcoming m w)) h; of_next = h.of_next; of_none = h.of_none })

-- the first question of the event after a world
abbrev pub first_asked : World → AskedQuestion
first_asked w = record { event = w.count + 1; question = InjectionBefore (first_due w.pending) w.delivered }

-- it is asked in any case
pub upcoming_asks : (m : Answers) (w : World) → GoesOn (w.questions ++ first_asked w ∷ []) (beside (upcoming m w)).questions
unfolding upcoming
upcoming_asks m w =
    let q : Question = InjectionBefore (first_due w.pending) w.delivered in
    let v : World = asked_next q w in
    looked_questions v (beside (upcoming m w))
    (chosen_looks v v (upcoming_in (length m.injections) m w.pending) w.pending (answer_of m w.records q) (λ x f. coming_looks (length m.injections) m w.pending v x f) (looked_same v))
