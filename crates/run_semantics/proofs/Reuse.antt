-- A run takes nothing from its model but answers to the questions that it notes: models that answer
-- them alike have the same run.
use Rattle.std.proofs.Common.{◌≡◌, ℕ, zero, suc, ◌+◌, ◌≤◌, ◌<◌, Bool, true, false, List, [], ◌∷◌, ◌++◌, Option, Some, None, refl, sym, ap, ◌∙◌, arith, subst, append_assoc, append-nil, length, if◌then◌else◌, ⊎_elim}
use Rattle.std.proofs.Math.Nat.{eq-or-lt_of_le}
use Rattle.module_api.specs.Behaviour.{Behaviour}
use Rattle.module_api.specs.Laws.{IsLawful}
use Rattle.model_questions.specs.declared.answer.Answer.{Answer}
use Rattle.model_questions.specs.declared.answer.Answer.TheVariants as answer
use Rattle.model_questions.specs.declared.answer.AskedQuestion.{AskedQuestion}
use Rattle.model_questions.specs.declared.answer.Question.{Question}
use Rattle.model_questions.specs.declared.answer.Question.TheVariants.{BeyondLimit, InjectionBefore}
use Rattle.model_injections.specs.declared.injection.Injection.{Injection}
use Rattle.model_questions.specs.Answers.{Answers, answer_of}
use Rattle.model_questions.specs.declared.record.Record.{Record}
use Rattle.model_questions.proofs.AnswerLemmas.{AreNested, answer_more}
use Rattle.run_semantics.specs.declared.outcome.Outcome.{Outcome}
use Rattle.run_semantics.specs.declared.outcome.Outcome.TheVariants.{Ended, EventLimit, NoMoreEvents, TimeLimit, Fault}
use Rattle.event_set.specs.declared.pending.Pending.{Pending}
use Rattle.run_semantics.specs.Agreement.{Agrees, AgreesUpTo, tried, questions_of}
use Rattle.run_semantics.specs.Laws.{Each, GoesOn}
use Rattle.run_semantics.specs.World.{World, asked_next}
use Rattle.run_semantics.specs.Perform.{Flow, On, Stopped, Broken}
use Rattle.run_semantics.specs.Event.{begun, event}
use Rattle.run_semantics.specs.Run.{Stage, Running, Over, world_at, settled, start, says_beyond, is_after_limit, went, next_stage, after, IsReached}
use Rattle.run_semantics.specs.Upcoming.{first_due, delivered, target_of, Upcoming, Comes, Nothing, aimed, chosen, upcoming_in, upcoming}
use Rattle.run_semantics.proofs.Looking.{beside, HasLooked, looked_same, looked_count, looked_joined, looked_questions, chosen_looks, coming_looks, upcoming_looks, upcoming_tried, first_asked, upcoming_asks}
use Rattle.run_semantics.proofs.Looks.{upcoming_more}
use Rattle.run_semantics.proofs.Flows.{in_flow}
use Rattle.run_semantics.proofs.Counts.{RunsOn, runs_on}
use Rattle.run_semantics.proofs.Ends.{over_stays}
use Rattle.run_semantics.proofs.Alike.{AgreesIn, Agrees-front, Agrees-last, Agrees-fewer, Agrees-grown, Agrees-before, begins, begins_same, begins_grows, happens_same}
use Rattle.run_semantics.proofs.Growth.{AllOfEvent, AllAbout, AllOfEvent-append, AllAbout-append, AllAbout-more, Fits, grown_on}
pub use Rattle.run_semantics.proofs.Fitting.{fits_after}
use Rattle.run_semantics.proofs.Fitting.{settled_world, looked_records, fits_looked, begun_grows}
use Rattle.run_semantics.proofs.Grows.{happens_grows}

-- ---- all that was asked

-- what is noted stands first of it
noted_first : (P : List AskedQuestion → Type 0) → ((xs ys : List AskedQuestion) → P (xs ++ ys) → P xs) → (m : Answers) (s : Stage) → P (questions_of m s) → P (world_at s).questions
noted_first P front m (Running w) h = h
noted_first P front m (Over w Ended) h = h
noted_first P front m (Over w EventLimit) h = h
noted_first P front m (Over w NoMoreEvents) h = let t = upcoming_tried m w in front w.questions t.rest (subst P (sym t.joined) h)
noted_first P front m (Over w TimeLimit) h = let t = upcoming_tried m w in front w.questions t.rest (subst P (sym t.joined) h)
noted_first P front m (Over w (Fault event path f)) h = h

-- the models agree on all that was asked up to that stage
abbrev pub AgreesAt : Answers → Answers → Stage → Type 0
AgreesAt m n s = Agrees m n (world_at s).records (questions_of m s)

-- so they agree on what is noted
AgreesAt-noted : (m n : Answers) (s : Stage) → AgreesAt m n s → AgreesIn m n (world_at s)
AgreesAt-noted m n s h = noted_first (Agrees m n (world_at s).records) (Agrees-front m n (world_at s).records) m s h

-- event zero, settled
start_same : (b : Behaviour) → IsLawful b → (m n : Answers) → AgreesAt m n (start b m) → start b m ≡ start b n
start_same b law m n h = ap settled ((begins_same b law m n).same (subst (AgreesIn m n) (settled_world (begins b m)) (AgreesAt-noted m n (start b m) h)))

-- ---- events

-- from the first world to the second one event was executed at most, the one of that number: its
-- questions were asked
pub record IsLater (event : ℕ) (old new : World) : Type 0 where
  pub rest : List AskedQuestion
  pub joined : old.questions ++ rest ≡ new.questions
  pub later : AllOfEvent event rest
  pub more : List Record
  pub records : old.records ++ more ≡ new.records
  pub fits : Fits new

-- no event was executed
later_same : (event : ℕ) (w : World) → Fits w → IsLater event w w
later_same event w f = record { rest = []; joined = append-nil w.questions; later = tt; more = []; records = append-nil w.records; fits = f }

-- one event asks questions of its own number
event_later : (b : Behaviour) (m : Answers) (p : Pending) (rest : List Pending) (w : World) → Fits w → IsLater (w.count + 1) w (world_at (settled (event b m p rest w)))
event_later b m p rest w f =
    let first = begun_grows p rest w f in
    let g = grown_on first (happens_grows b m p p.what (begun p rest w) first.fits) in
    subst (IsLater (w.count + 1) w) (sym (settled_world (event b m p rest w))) (record { rest = g.rest; joined = g.joined; later = g.present; more = g.more; records = g.records; fits = g.fits })

-- where the run is over nothing is noted
either_later : (event : ℕ) (c : Bool) (w : World) (outcome : Outcome) (s : Stage) → Fits w → IsLater event w (world_at s) → IsLater event w (world_at (if c then Over w outcome else s))
either_later event true w outcome s f g = later_same event w f
either_later event false w outcome s f g = g

-- what was asked before the event is of its number too
later_looked : (w u v : World) → HasLooked w u → IsLater (u.count + 1) u v → IsLater (w.count + 1) w v
later_looked w u v h g = record {
  rest = h.rest ++ g.rest;
  joined = sym (append_assoc w.questions h.rest g.rest) ∙ (ap (λ qs. qs ++ g.rest) (looked_joined w u h) ∙ g.joined);
  later = AllOfEvent-append (w.count + 1) h.rest g.rest h.of_next (subst (λ (c : ℕ). AllOfEvent (c + 1) g.rest) (looked_count w u h) g.later);
  more = g.more;
  records = ap (λ rs. rs ++ g.more) (sym (looked_records w u h)) ∙ g.records;
  fits = g.fits;
}

-- so does the next event, where there is one
went_later : (b : Behaviour) (m : Answers) (w : World) (up : Upcoming) → HasLooked w (beside up) → Fits w → IsLater (w.count + 1) w (world_at (went b m w up))
went_later b m w (Nothing u) looked f = later_same (w.count + 1) w f
went_later b m w (Comes u p rest) looked f =
    either_later (w.count + 1) (is_after_limit m u.records p) w TimeLimit (settled (event b m p rest u)) f
    (later_looked w u (world_at (settled (event b m p rest u))) looked (event_later b m p rest u (fits_looked w u looked f)))

-- one turn of a run
next_later : (b : Behaviour) (m : Answers) (n : ℕ) (s : Stage) → RunsOn n s → Fits (world_at s) → IsLater (suc n) (world_at s) (world_at (next_stage b m s))
next_later b m n (Running w) at f =
    let e : w.count + 1 ≡ suc n = omega (arith, at w refl) in
    subst (λ event. IsLater event w (world_at (next_stage b m (Running w)))) e (either_later (w.count + 1) w.ended w Ended (went b m w (upcoming m w)) f (went_later b m w (upcoming m w) (upcoming_looks m w) f))
next_later b m n (Over w outcome) at f = later_same (suc n) w f

-- ---- what comes next in two models

-- an injection, for the module that stands at its path
aimed_same : (m n : Answers) (go_on other : World → Upcoming) (u : World) (ps : List Pending) (i : Injection) (target : Option ℕ) → (Agrees m n u.records (beside (go_on u)).questions → go_on u ≡ other u) → Agrees m n u.records (beside (aimed go_on u ps i target)).questions → aimed go_on u ps i target ≡ aimed other u ps i target
aimed_same m n go_on other u ps i None f h = f h
aimed_same m n go_on other u ps i (Some id) f h = refl

-- what was answered
chosen_same : (m n : Answers) (go_on other : World → Upcoming) (u : World) (ps : List Pending) (found : Answer) → ((i : Injection) → Agrees m n u.records (beside (go_on (delivered i u))).questions → go_on (delivered i u) ≡ other (delivered i u)) → Agrees m n u.records (beside (chosen go_on u ps found)).questions → chosen go_on u ps found ≡ chosen other u ps found
chosen_same m n go_on other u ps (answer.Injection (Some i)) f h = aimed_same m n go_on other (delivered i u) ps i (target_of i.path u) (f i) h
chosen_same m n go_on other u ps _ f h = refl

-- models that agree on all that was asked to know what comes next have the same next
coming_same : (left : ℕ) (m n : Answers) (ps : List Pending) (v : World) → Agrees m n v.records (beside (upcoming_in left m ps v)).questions → upcoming_in left m ps v ≡ upcoming_in left n ps v
coming_same zero m n ps v h = refl
coming_same (suc left) m n ps v h =
    let q : Question = InjectionBefore (first_due ps) v.delivered in
    let u : World = asked_next q v in
    let found : Answer = answer_of m v.records q in
    let looked = chosen_looks u u (upcoming_in left m ps) ps found (λ x f. coming_looks left m ps u x f) (looked_same u) in
    let more = looked_questions u (beside (chosen (upcoming_in left m ps) u ps found)) looked in
    let here : Agrees m n v.records u.questions = Agrees-front m n v.records u.questions more.0 (subst (Agrees m n v.records) (sym more.1) h) in
    let alike : found ≡ answer_of n v.records q = Agrees-last m n v.records v.questions (record { event = v.count + 1; question = q }) here in
    chosen_same m n (upcoming_in left m ps) (upcoming_in left n ps) u ps found (λ i k. coming_same left m n ps (delivered i u) k) h
    ∙ ap (λ (a : Answer). chosen (upcoming_in left n ps) u ps a) alike

-- what is noted stands first of what was tried
tried_first : (up : Upcoming) → GoesOn (beside up).questions (tried up)
tried_first (Comes u p rest) = (record { event = u.count + 1; question = BeyondLimit p.time } ∷ [], refl)
tried_first (Nothing u) = ([], append-nil u.questions)

-- so it is of all that was tried
upcoming_same : (m n : Answers) (w : World) → Agrees m n w.records (tried (upcoming m w)) → upcoming m w ≡ upcoming n w
upcoming_same m n w h =
    let t = tried_first (upcoming m w) in
    let one = upcoming_more m w (length n.injections) in
    let other = upcoming_more n w (length m.injections) in
    let sum : length n.injections + length m.injections ≡ length m.injections + length n.injections = omega arith in
    one
    ∙ coming_same (suc (length m.injections + length n.injections)) m n w.pending w
    (subst (λ (up : Upcoming). Agrees m n w.records (beside up).questions) one (Agrees-front m n w.records (beside (upcoming m w)).questions t.0 (subst (Agrees m n w.records) (sym t.1) h)))
    ∙ ap (λ (k : ℕ). upcoming_in (suc k) n w.pending w) (sym sum) ∙ sym other

-- an event that begins has asked all that was tried
begun_agreed : (b : Behaviour) (m n : Answers) (p : Pending) (rest : List Pending) (u : World) → Fits u → AgreesAt m n (settled (event b m p rest u)) → AgreesIn m n (begun p rest u)
begun_agreed b m n p rest u f h =
    let fits = (begun_grows p rest u f).fits in
    Agrees-before m n (begun p rest u) (in_flow (event b m p rest u)) fits (happens_grows b m p p.what (begun p rest u) fits)
    (subst (AgreesIn m n) (settled_world (event b m p rest u)) (AgreesAt-noted m n (settled (event b m p rest u)) h))

-- by whether the event is after the limit
tried_by : (m n : Answers) (w : World) (up : Upcoming) (c : Bool) (s : Stage) → up ≡ upcoming m w → (AgreesAt m n s → Agrees m n w.records (tried up)) → AgreesAt m n (if c then Over w TimeLimit else s) → Agrees m n w.records (tried up)
tried_by m n w up true s e k h = subst (λ x. Agrees m n w.records (tried x)) (sym e) h
tried_by m n w up false s e k h = k h

-- models that agree on all that was asked up to the next event agree on all that was tried
tried_agreed : (b : Behaviour) (m n : Answers) (w : World) (up : Upcoming) → up ≡ upcoming m w → HasLooked w (beside up) → Fits w → AgreesAt m n (went b m w up) → Agrees m n w.records (tried up)
tried_agreed b m n w (Nothing u) e looked f h = subst (λ x. Agrees m n w.records (tried x)) (sym e) h
tried_agreed b m n w (Comes u p rest) e looked f h =
    tried_by m n w (Comes u p rest) (is_after_limit m u.records p) (settled (event b m p rest u)) e
    (λ a. subst (λ rs. Agrees m n rs (tried (Comes u p rest))) (looked_records w u looked) (begun_agreed b m n p rest u (fits_looked w u looked f) a))
    h

-- by whether the event is after the limit: in the first model and in the second
went_by : (m n : Answers) (w : World) (c d : Bool) (s t : Stage) → c ≡ d → (AgreesAt m n s → s ≡ t) → AgreesAt m n (if c then Over w TimeLimit else s) → (if c then Over w TimeLimit else s) ≡ (if d then Over w TimeLimit else t)
went_by m n w true d s t e same h = ap (λ (x : Bool). if x then Over w TimeLimit else t) e
went_by m n w false d s t e same h = same h ∙ ap (λ (x : Bool). if x then Over w TimeLimit else t) e

-- the next event is the same
went_same : (b : Behaviour) → IsLawful b → (m n : Answers) (w : World) (up : Upcoming) → HasLooked w (beside up) → Fits w → Agrees m n w.records (tried up) → AgreesAt m n (went b m w up) → went b m w up ≡ went b n w up
went_same b law m n w (Nothing u) looked f a h = refl
went_same b law m n w (Comes u p rest) looked f a h =
    let fits = (begun_grows p rest u (fits_looked w u looked f)).fits in
    let limit : answer_of m u.records (BeyondLimit p.time) ≡ answer_of n u.records (BeyondLimit p.time) =
    Agrees-last m n u.records u.questions (record { event = u.count + 1; question = BeyondLimit p.time }) (subst (λ rs. Agrees m n rs (tried (Comes u p rest))) (sym (looked_records w u looked)) a) in
    went_by m n w (is_after_limit m u.records p) (is_after_limit n u.records p) (settled (event b m p rest u)) (settled (event b n p rest u)) (ap says_beyond limit)
    (λ k. ap settled ((happens_same b law m n p p.what (begun p rest u) fits).same (subst (AgreesIn m n) (settled_world (event b m p rest u)) (AgreesAt-noted m n (settled (event b m p rest u)) k))))
    h

-- where the run is over it is so in both
either_same : (m n : Answers) (c : Bool) (w : World) (outcome : Outcome) (s t : Stage) → (AgreesAt m n s → s ≡ t) → AgreesAt m n (if c then Over w outcome else s) → (if c then Over w outcome else s) ≡ (if c then Over w outcome else t)
either_same m n true w outcome s t k h = refl
either_same m n false w outcome s t k h = k h

-- one turn is the same
next_same : (b : Behaviour) → IsLawful b → (m n : Answers) (s : Stage) → Fits (world_at s) → AgreesAt m n (next_stage b m s) → next_stage b m s ≡ next_stage b n s
next_same b law m n (Running w) f h =
    either_same m n w.ended w Ended (went b m w (upcoming m w)) (went b n w (upcoming n w)) (λ a.
    let all : Agrees m n w.records (tried (upcoming m w)) = tried_agreed b m n w (upcoming m w) refl (upcoming_looks m w) f a in
    went_same b law m n w (upcoming m w) (upcoming_looks m w) f all a ∙ ap (went b n w) (upcoming_same m n w all)) h
next_same b law m n (Over w outcome) f h = refl

-- models that agree on all that was asked up to the next turn agree on all that was asked before
AgreesAt-before : (b : Behaviour) (m n : Answers) (k : ℕ) (s : Stage) → RunsOn k s → Fits (world_at s) → AgreesAt m n (next_stage b m s) → AgreesAt m n s
AgreesAt-before b m n k (Running w) at f h =
    let g = next_later b m k (Running w) at f in
    let t : Stage = next_stage b m (Running w) in
    Agrees-grown m n w g.rest g.more (world_at t).records (world_at t).questions f g.joined g.records (AgreesAt-noted m n t h)
AgreesAt-before b m n k (Over w outcome) at f h = h

-- ---- runs

-- from each world of a run to the next
pub after_later : (b : Behaviour) (m : Answers) (n : ℕ) → IsLater (suc n) (world_at (after b m n)) (world_at (after b m (suc n)))
after_later b m n = next_later b m n (after b m n) (runs_on b m n) (fits_after b m n)

-- models that agree on all that was asked in the run of the first up to an event have the same run
-- up to there
pub after_same : (b : Behaviour) → IsLawful b → (m n : Answers) (v : ℕ) → AgreesAt m n (after b m v) → after b m v ≡ after b n v
after_same b law m n zero h = start_same b law m n h
after_same b law m n (suc v) h =
    next_same b law m n (after b m v) (fits_after b m v) h
    ∙ ap (next_stage b n) (after_same b law m n v (AgreesAt-before b m n v (after b m v) (runs_on b m v) (fits_after b m v) h))

-- ---- the first events of a longer run

-- all are of events up to that one
abbrev AllUpTo : ℕ → List AskedQuestion → Type 0
AllUpTo v [] = Unit {0}
AllUpTo v (a ∷ rest) = (a.event ≤ v) × AllUpTo v rest

-- two lists of such questions
AllUpTo-append : (v : ℕ) (xs ys : List AskedQuestion) → AllUpTo v xs → AllUpTo v ys → AllUpTo v (xs ++ ys)
AllUpTo-append v [] ys f g = g
AllUpTo-append v (x ∷ xs) ys f g = (f.0, AllUpTo-append v xs ys f.1 g)

-- a later event bounds them too
AllUpTo-more : (u v : ℕ) (xs : List AskedQuestion) → u ≤ v → AllUpTo u xs → AllUpTo v xs
AllUpTo-more u v [] h f = tt
AllUpTo-more u v (x ∷ xs) h f = (omega (arith, f.0), AllUpTo-more u v xs h f.1)

-- questions of one event that is not later
AllUpTo-of : (v event : ℕ) (xs : List AskedQuestion) → event ≤ v → AllOfEvent event xs → AllUpTo v xs
AllUpTo-of v event [] h f = tt
AllUpTo-of v event (x ∷ xs) h f = (omega (arith, f.0), AllUpTo-of v event xs h f.1)

-- from a world that goes on to the stage after the next turn, questions of that event were asked
record HasAsked (m : Answers) (event : ℕ) (w : World) (s : Stage) : Type 0 where
  rest : List AskedQuestion
  joined : w.questions ++ rest ≡ questions_of m s
  of_event : AllOfEvent event rest

-- nothing more was asked at the end of an event
settled_questions : (m : Answers) (fl : Flow) → questions_of m (settled fl) ≡ (in_flow fl).questions
settled_questions m (On w) = refl
settled_questions m (Stopped w) = refl
settled_questions m (Broken w path f) = refl

-- the next event that did not begin is of the next number
over_asked : (m : Answers) (w : World) (s : Stage) → tried (upcoming m w) ≡ questions_of m s → HasAsked m (w.count + 1) w s
over_asked m w s e = let t = upcoming_tried m w in record { rest = t.rest; joined = t.joined ∙ e; of_event = t.of_next }

-- by whether the event is after the limit
either_asked : (m : Answers) (c : Bool) (w : World) (s : Stage) → HasAsked m (w.count + 1) w s → HasAsked m (w.count + 1) w (if c then Over w TimeLimit else s)
either_asked m true w s h = over_asked m w (Over w TimeLimit) refl
either_asked m false w s h = h

-- one event
event_asked : (b : Behaviour) (m : Answers) (p : Pending) (rest : List Pending) (w u : World) → HasLooked w u → Fits w → HasAsked m (w.count + 1) w (settled (event b m p rest u))
event_asked b m p rest w u looked f =
    let g = later_looked w u (world_at (settled (event b m p rest u))) looked (event_later b m p rest u (fits_looked w u looked f)) in
    record { rest = g.rest; joined = g.joined ∙ (ap (λ (v : World). v.questions) (settled_world (event b m p rest u)) ∙ sym (settled_questions m (event b m p rest u))); of_event = g.later }

-- the next event, where there is one
went_asked : (b : Behaviour) (m : Answers) (w : World) (up : Upcoming) → HasLooked w (beside up) → Fits w → HasAsked m (w.count + 1) w (went b m w up)
went_asked b m w (Nothing u) looked f = over_asked m w (Over w NoMoreEvents) refl
went_asked b m w (Comes u p rest) looked f = either_asked m (is_after_limit m u.records p) w (settled (event b m p rest u)) (event_asked b m p rest w u looked f)

-- unless the end was asked for
ended_asked : (m : Answers) (c : Bool) (event : ℕ) (w : World) (s : Stage) → HasAsked m event w s → HasAsked m event w (if c then Over w Ended else s)
ended_asked m true event w s h = record { rest = []; joined = append-nil w.questions; of_event = tt }
ended_asked m false event w s h = h

-- one turn asks questions of the next event alone
next_up_to : (b : Behaviour) (m : Answers) (v : ℕ) (s : Stage) → RunsOn v s → Fits (world_at s) → AllUpTo v (questions_of m s) → AllUpTo (suc v) (questions_of m (next_stage b m s))
next_up_to b m v (Running w) at f h =
    let g = ended_asked m w.ended (w.count + 1) w (went b m w (upcoming m w)) (went_asked b m w (upcoming m w) (upcoming_looks m w) f) in
    let count = at w refl in
    subst (AllUpTo (suc v)) g.joined (AllUpTo-append (suc v) w.questions g.rest (AllUpTo-more v (suc v) w.questions (omega arith) h) (AllUpTo-of (suc v) (w.count + 1) g.rest (omega (arith, count)) g.of_event))
next_up_to b m v (Over w outcome) at f h = AllUpTo-more v (suc v) (questions_of m (Over w outcome)) (omega arith) h

-- all that was asked in a run up to an event is of the events up to it
up_to_after : (b : Behaviour) (m : Answers) (v : ℕ) → AllUpTo v (questions_of m (after b m v))
up_to_after b m zero =
    let g = begins_grows b m in
    subst (AllUpTo 0) (sym (settled_questions m (begins b m))) (subst (AllUpTo 0) g.joined (AllUpTo-of 0 0 g.rest (omega arith) g.present))
up_to_after b m (suc v) = next_up_to b m v (after b m v) (runs_on b m v) (fits_after b m v) (up_to_after b m v)

-- the first of such questions
AllUpTo-front : (v : ℕ) (xs ys : List AskedQuestion) → AllUpTo v (xs ++ ys) → AllUpTo v xs
AllUpTo-front v [] ys h = tt
AllUpTo-front v (x ∷ xs) ys h = (h.0, AllUpTo-front v xs ys h.1)

-- the last of such questions
AllUpTo-back : (v : ℕ) (xs ys : List AskedQuestion) → AllUpTo v (xs ++ ys) → AllUpTo v ys
AllUpTo-back v [] ys h = h
AllUpTo-back v (x ∷ xs) ys h = AllUpTo-back v xs ys h.1

-- where all questions are of the events up to v, the models agree on all
Agrees-up_to : (v : ℕ) (m n : Answers) (rs : List Record) (xs : List AskedQuestion) → AllUpTo v xs → AgreesUpTo v m n rs xs → Agrees m n rs xs
Agrees-up_to v m n rs [] f a = tt
Agrees-up_to v m n rs (x ∷ xs) f a = (a.0 f.0, Agrees-up_to v m n rs xs f.1 a.1)

-- on the first questions of a list
pub AgreesUpTo-front : (v : ℕ) (m n : Answers) (rs : List Record) (xs ys : List AskedQuestion) → AgreesUpTo v m n rs (xs ++ ys) → AgreesUpTo v m n rs xs
AgreesUpTo-front v m n rs [] ys h = tt
AgreesUpTo-front v m n rs (x ∷ xs) ys h = (h.0, AgreesUpTo-front v m n rs xs ys h.1)

-- the second world is of the same run as the first, and no earlier
pub record IsPast (old new : World) : Type 0 where
  pub rest : List AskedQuestion
  pub joined : old.questions ++ rest ≡ new.questions
  pub more : List Record
  pub records : old.records ++ more ≡ new.records

-- a world is no earlier than itself
past_same : (w : World) → IsPast w w
past_same w = record { rest = []; joined = append-nil w.questions; more = []; records = append-nil w.records }

-- one event more
past_later : (event : ℕ) (u v w : World) → IsPast u v → IsLater event v w → IsPast u w
past_later event u v w f g = record {
  rest = f.rest ++ g.rest;
  joined = sym (append_assoc u.questions f.rest g.rest) ∙ (ap (λ ys. ys ++ g.rest) f.joined ∙ g.joined);
  more = f.more ++ g.more;
  records = sym (append_assoc u.records f.more g.more) ∙ (ap (λ ys. ys ++ g.more) f.records ∙ g.records);
}

-- a run of more events is no earlier
past_after : (b : Behaviour) (m : Answers) (v k : ℕ) → v ≤ k → IsPast (world_at (after b m v)) (world_at (after b m k))
past_after b m v zero h = let e : v ≡ zero = omega arith in subst (λ n. IsPast (world_at (after b m v)) (world_at (after b m n))) e (past_same (world_at (after b m v)))
past_after b m v (suc k) h =
    ⊎_elim
    (λ (e : v ≡ suc k). subst (λ n. IsPast (world_at (after b m v)) (world_at (after b m n))) e (past_same (world_at (after b m v))))
    (λ (lt : v < suc k). past_later (suc k) (world_at (after b m v)) (world_at (after b m k)) (world_at (after b m (suc k))) (past_after b m v k (omega (arith, lt))) (after_later b m k))
    (eq-or-lt_of_le h)

-- more modules change no answer about those that were there
pub noted_stay : (m : Answers) (rs more : List Record) → AreNested 0 rs → (qs : List AskedQuestion) → AllAbout (length rs) qs → Each (λ a. answer_of m (rs ++ more) a.question ≡ answer_of m rs a.question) qs
noted_stay m rs more h [] f = tt
noted_stay m rs more h (a ∷ qs) f = (answer_more m rs more h a.question f.0, noted_stay m rs more h qs f.1)

-- all that was asked is about modules that are there
tried_about : (m : Answers) (w : World) → Fits w → AllAbout (length w.records) (tried (upcoming m w))
tried_about m w f =
    let t = upcoming_tried m w in
    subst (AllAbout (length w.records)) t.joined (AllAbout-append (length w.records) w.questions t.rest f.questions (AllAbout-more 0 (length w.records) t.rest (omega arith) t.of_none))

-- the same, in a run up to that stage
asked_about : (m : Answers) (s : Stage) → Fits (world_at s) → AllAbout (length (world_at s).records) (questions_of m s)
asked_about m (Running w) f = f.questions
asked_about m (Over w Ended) f = f.questions
asked_about m (Over w EventLimit) f = f.questions
asked_about m (Over w NoMoreEvents) f = tried_about m w f
asked_about m (Over w TimeLimit) f = tried_about m w f
asked_about m (Over w (Fault event path fault)) f = f.questions

-- what was asked has the same answers with the modules of a later world
pub noted_after : (b : Behaviour) (m other : Answers) (n k : ℕ) → n ≤ k → Each (λ a. answer_of other (world_at (after b m k)).records a.question ≡ answer_of other (world_at (after b m n)).records a.question) (questions_of m (after b m n))
noted_after b m other n k h =
    let u : World = world_at (after b m n) in
    let p = past_after b m n k h in
    let f = fits_after b m n in
    let qs : List AskedQuestion = questions_of m (after b m n) in
    subst (λ rs. Each (λ (a : AskedQuestion). answer_of other rs a.question ≡ answer_of other u.records a.question) qs) p.records (noted_stay other u.records p.more f.nested qs (asked_about m (after b m n) f))

-- by the first events of a longer run the models agree on what is noted
noted_same : (b : Behaviour) (m n : Answers) (v k : ℕ) → v ≤ k → AgreesUpTo v m n (world_at (after b m k)).records (world_at (after b m k)).questions → AgreesIn m n (world_at (after b m v))
noted_same b m n v k h a =
    let u : World = world_at (after b m v) in
    let w : World = world_at (after b m k) in
    let p = past_after b m v k h in
    let own : AgreesUpTo v m n w.records u.questions = AgreesUpTo-front v m n w.records u.questions p.rest (subst (AgreesUpTo v m n w.records) (sym p.joined) a) in
    let up_to : AllUpTo v u.questions = noted_first (AllUpTo v) (AllUpTo-front v) m (after b m v) (up_to_after b m v) in
    let all : Agrees m n w.records u.questions = Agrees-up_to v m n w.records u.questions up_to own in
    let f = fits_after b m v in
    Agrees-fewer m n u.records p.more f.nested u.questions f.questions (subst (λ rs. Agrees m n rs u.questions) (sym p.records) all)

-- and on all that was asked, where the longer run is over the same way
all_same : (v : ℕ) (m n : Answers) (s t : Stage) → AllUpTo v (questions_of m s) → ((w : World) (outcome : Outcome) → s ≡ Over w outcome → t ≡ Over w outcome) → AgreesUpTo v m n (world_at t).records (questions_of m t) → AgreesIn m n (world_at s) → AgreesAt m n s
all_same v m n (Running w) t up_to over a h = h
all_same v m n (Over w outcome) t up_to over a h =
    let own : AgreesUpTo v m n w.records (questions_of m (Over w outcome)) = subst (λ x. AgreesUpTo v m n (world_at x).records (questions_of m x)) (over w outcome refl) a in
    Agrees-up_to v m n w.records (questions_of m (Over w outcome)) up_to own

-- the same, by the questions of the first events of a longer run
pub after_same_up_to : (b : Behaviour) → IsLawful b → (m n : Answers) (v k : ℕ) → v ≤ k → AgreesUpTo v m n (world_at (after b m k)).records (questions_of m (after b m k)) → after b m v ≡ after b n v
after_same_up_to b law m n v k h a =
    let noted : AgreesUpTo v m n (world_at (after b m k)).records (world_at (after b m k)).questions = noted_first (AgreesUpTo v m n (world_at (after b m k)).records) (AgreesUpTo-front v m n (world_at (after b m k)).records) m (after b m k) a in
    after_same b law m n v (all_same v m n (after b m v) (after b m k) (up_to_after b m v) (λ w outcome e. over_stays b m w outcome v k h e) a (noted_same b m n v k h noted))

-- ---- runs that got as far

-- a run that got as far did not end before
none_stopped : (v : ℕ) (m : Answers) (w : World) → w.count ≡ v → AllUpTo v (tried (upcoming m w)) → ⊥
none_stopped v m w e h =
    let up : Upcoming = upcoming m w in
    let t = tried_first up in
    let asks = upcoming_asks m w in
    let noted : AllUpTo v (beside up).questions = AllUpTo-front v (beside up).questions t.0 (subst (AllUpTo v) (sym t.1) h) in
    let first : AllUpTo v (w.questions ++ first_asked w ∷ []) = AllUpTo-front v (w.questions ++ first_asked w ∷ []) asks.0 (subst (AllUpTo v) (sym asks.1) noted) in
    let l = (AllUpTo-back v w.questions (first_asked w ∷ []) first).0 in
    absurd (omega (arith, e, l))

-- so all that it asked is noted
all_noted : (v : ℕ) (m : Answers) (s : Stage) → IsReached s v → AllUpTo v (questions_of m s) → questions_of m s ≡ (world_at s).questions
all_noted v m (Running w) e h = refl
all_noted v m (Over w Ended) e h = refl
all_noted v m (Over w EventLimit) e h = refl
all_noted v m (Over w NoMoreEvents) e h = absurd (none_stopped v m w e h)
all_noted v m (Over w TimeLimit) e h = absurd (none_stopped v m w e h)
all_noted v m (Over w (Fault event path f)) e h = refl

-- in a run that got as far the questions that are noted decide
pub reached_same : (b : Behaviour) → IsLawful b → (m n : Answers) (v : ℕ) → IsReached (after b m v) v → AgreesIn m n (world_at (after b m v)) → after b m v ≡ after b n v
reached_same b law m n v e h = after_same b law m n v (subst (Agrees m n (world_at (after b m v)).records) (sym (all_noted v m (after b m v) e (up_to_after b m v))) h)

-- and those of a longer run
pub reached_same_up_to : (b : Behaviour) → IsLawful b → (m n : Answers) (v k : ℕ) → v ≤ k → IsReached (after b m v) v → AgreesUpTo v m n (world_at (after b m k)).records (world_at (after b m k)).questions → after b m v ≡ after b n v
reached_same_up_to b law m n v k h e a = reached_same b law m n v e (noted_same b m n v k h a)
