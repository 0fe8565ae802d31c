-- What comes next in a run, step by step.
use Rattle.std.proofs.Common.{◌≡◌, ℕ, suc, zero, ◌+◌, ◌<◌, true, false, Bool, List, [], ◌∷◌, Option, Some, None, length, refl, ap, subst, ◌∙◌, sym, arith, append-nil, if◌then◌else◌}
use Rattle.model_injections.specs.declared.injection.Injection.{Injection}
use Rattle.model_questions.specs.Answers.{Answers, is_beyond}
use Rattle.module_api.specs.Behaviour.{Behaviour}
use Rattle.run_semantics.specs.declared.outcome.Outcome.TheVariants.{Ended, NoMoreEvents, TimeLimit}
use Rattle.event_set.specs.declared.pending.Pending.{Pending}
use Rattle.run_semantics.specs.declared.traces.Instance.{Instance}
use Rattle.run_semantics.specs.World.{World}
use Rattle.run_semantics.specs.Event.{event}
use Rattle.model_questions.specs.declared.answer.AskedQuestion.{AskedQuestion}
use Rattle.run_semantics.specs.Upcoming.{Upcoming, Comes, Nothing, first_of, upcoming, upcoming_in}
use Rattle.run_semantics.proofs.Looking.{beside}
use Rattle.run_semantics.specs.Run.{Stage, Running, Over, settled, is_after_limit, next_stage, went}
use Rattle.kernel_actions.specs.declared.looks.Look.{Look}
use Rattle.kernel_actions.specs.declared.looks.Next.{Next}
use Rattle.kernel_actions.specs.declared.looks.Next.TheVariants as next
use Rattle.kernel_actions.specs.Upcoming.{looked, upcoming_of, BeginsWith, HasNone, IsTooLate}
use Rattle.kernel.specs.Looks.{LooksOn}
use Rattle.kernel.proofs.Apart.{with_modules}

-- where a test fails, what stands after it
unless : (c : Bool) (s t : Stage) → c ≡ false → (if c then s else t) ≡ t
unless c s t e = ap (λ (x : Bool). if x then s else t) e

-- where it is met, what stands before it
where_met : (c : Bool) (s t : Stage) → c ≡ true → (if c then s else t) ≡ s
where_met c s t e = ap (λ (x : Bool). if x then s else t) e

-- an event begins: it makes the next stage
pub next_begins : (b : Behaviour) (m : Answers) (limit : Option ℕ) (w after : World) (p : Pending) → limit ≡ m.time_limit → w.ended ≡ false → (h : BeginsWith limit (upcoming m w) p after)
    → next_stage b m (Running w) ≡ settled (event b m p h.rest h.world)
next_begins b m limit w after p of_model going h =
    unless w.ended (Over w Ended) (went b m w (upcoming m w)) going
    ∙ ap (went b m w) h.comes ∙ unless (is_after_limit m h.world.records p) (Over w TimeLimit) (settled (event b m p h.rest h.world)) (ap (λ (l : Option ℕ). is_beyond l p.time) (sym of_model) ∙ h.in_time)

-- nothing comes
pub next_none : (b : Behaviour) (m : Answers) (w after : World) → w.ended ≡ false → HasNone (upcoming m w) w after → next_stage b m (Running w) ≡ Over after NoMoreEvents
next_none b m w after going h =
    unless w.ended (Over w Ended) (went b m w (upcoming m w)) going ∙ ap (went b m w) h.none ∙ ap (λ (u : World). Over u NoMoreEvents) (sym h.same)

-- what comes is too late
pub next_too_late : (b : Behaviour) (m : Answers) (limit : Option ℕ) (w after : World) → limit ≡ m.time_limit → w.ended ≡ false → IsTooLate limit (upcoming m w) w after
    → next_stage b m (Running w) ≡ Over after TimeLimit
next_too_late b m limit w after of_model going h =
    unless w.ended (Over w Ended) (went b m w (upcoming m w)) going
    ∙ ap (went b m w) h.comes ∙ where_met (is_after_limit m h.world.records h.event) (Over w TimeLimit) (settled (event b m h.event h.rest h.world)) (ap (λ (l : Option ℕ). is_beyond l h.event.time) (sym of_model) ∙ h.late)
    ∙ ap (λ (u : World). Over u TimeLimit) (sym h.same)

-- ---- looks

-- as many looks as the model has injections, and one
pub looks_enough : (m : Answers) (is : List Injection) → is ≡ m.injections → suc (length m.injections) ≡ length is + 1
looks_enough m is e = subst (λ (xs : List Injection). suc (length xs) ≡ length is + 1) e (omega arith)

-- before the first look
pub first_look : (m : Answers) (w : World) (look : Look) → look ≡ record { delivered = w.delivered; asked = [] } → upcoming_in (suc (length m.injections)) m w.pending (looked w look) ≡ upcoming m w
unfolding upcoming
first_look m w look e =
    ap (λ (l : Look). upcoming_in (suc (length m.injections)) m w.pending (looked w l)) e
    ∙ ap (λ (qs : List AskedQuestion). upcoming_in (suc (length m.injections)) m w.pending (record w { questions = qs })) (append-nil w.questions)

-- an injection was discarded
pub next_look : (m : Answers) (w : World) (before after : Look) (n : Option Next) (most counter left : ℕ) → counter < most → left + counter ≡ most
    → upcoming_in left m w.pending (looked w before) ≡ upcoming m w → n ≡ None → LooksOn m (looked w before) n (looked w after)
    → (x : ℕ) × (x + (counter + 1) ≡ most) × (upcoming_in x m w.pending (looked w after) ≡ upcoming m w)
next_look m w before after (Some x) most counter left few sum inv none looks = absurd cc
next_look m w before after None most counter zero few sum inv none looks = absurd (omega (arith, few, sum))
next_look m w before after None most counter (suc left) few sum inv none looks = (left, omega (arith, sum), sym (looks left) ∙ inv)

-- ---- an event that begins

first_beside : (w : World) (ps : List Pending) → beside (first_of w ps) ≡ w
first_beside w [] = refl
first_beside w (p ∷ rest) = refl

pub next_beside : (n : Next) (w : World) → beside (upcoming_of n w) ≡ w
next_beside next.First w = first_beside w w.pending
next_beside (next.Arrival p) w = refl
next_beside next.Nothing w = refl

-- it is counted, and nothing is inserted
pub begins_counted : (limit : Option ℕ) (n : Next) (w after : World) (look : Look) (p : Pending) → BeginsWith limit (upcoming_of n (looked w look)) p after
    → (after.next ≡ w.next) × (after.count ≡ w.count + 1)
begins_counted limit n w after look p h =
    let same : h.world ≡ looked w look = sym (ap beside h.comes) ∙ next_beside n (looked w look) in
    (ap (λ (u : World). u.next) h.begins ∙ ap (λ (u : World). u.next) same, ap (λ (u : World). u.count) h.begins ∙ ap (λ (u : World). u.count + 1) same)

-- what comes, with these modules
abbrev pub upcoming_with : List Instance → Upcoming → Upcoming
upcoming_with ms (Comes w p rest) = Comes (with_modules ms w) p rest
upcoming_with ms (Nothing w) = Nothing (with_modules ms w)

first_with : (ms : List Instance) (w : World) (ps : List Pending) → first_of (with_modules ms w) ps ≡ upcoming_with ms (first_of w ps)
first_with ms w [] = refl
first_with ms w (p ∷ rest) = refl

pub next_with : (ms : List Instance) (n : Next) (w : World) → upcoming_of n (with_modules ms w) ≡ upcoming_with ms (upcoming_of n w)
next_with ms next.First w = first_with ms w w.pending
next_with ms (next.Arrival p) w = refl
next_with ms next.Nothing w = refl

-- AN EVENT BEGINS whatever the boxes of the modules are
pub begins_boxed : (m : Answers) (limit : Option ℕ) (ms : List Instance) (n : Next) (core after : World) (look : Look) (p : Pending) → upcoming m (with_modules ms core) ≡ upcoming_of n (looked (with_modules ms core) look)
    → BeginsWith limit (upcoming_of n (looked core look)) p after → BeginsWith limit (upcoming m (with_modules ms core)) p (with_modules ms after)
begins_boxed m limit ms n core after look p is h = record {
  world = with_modules ms h.world;
  rest = h.rest;
  comes = is ∙ next_with ms n (looked core look) ∙ ap (upcoming_with ms) h.comes;
  in_time = h.in_time;
  begins = ap (with_modules ms) h.begins;
}
