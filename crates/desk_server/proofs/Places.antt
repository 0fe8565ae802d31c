-- Where a run waits.
use Rattle.std.proofs.Common.{◌≡◌, ◌≤◌, ◌<◌, ℕ, zero, suc, ◌+◌, ◌-◌, nat_le, Bool, true, false, cond, List, [], Option, Some, None, option_map, arith, refl, subst}
use Rattle.std.proofs.lemmas.Bool.{le-leb, leb-true}
use Rattle.module_api.specs.Behaviour.{Behaviour}
use Rattle.model_questions.specs.Answers.{Answers}
use Rattle.run_semantics.specs.Run.{Over, Part, Running, Stage, after}
use Rattle.run_semantics.specs.World.{World}
use Rattle.kernel.specs.declared.request.Request.{Request}
use Rattle.checkpoint_runs.specs.declared.phases.AtSetup.{AtSetup}
use Rattle.checkpoint_runs.specs.declared.phases.AtSetup.TheVariants.{Anew, Filling, Refused}
use Rattle.checkpoint_runs.specs.declared.phases.Phase.{Phase}
use Rattle.checkpoint_runs.specs.declared.phases.Phase.TheVariants.{Idle, Waiting, Declined}
use Rattle.checkpoint_runs.specs.declared.phases.Point.{Point}
use Rattle.checkpoint_runs.specs.declared.phases.Point.TheVariants as point
use Rattle.checkpoint_runs.specs.declared.phases.Resumed.{Resumed}
use Rattle.checkpoint_runs.specs.declared.phases.Wait.{Wait}
use Rattle.checkpoint_runs.specs.Positions.{start_of, starts_within, CanGoOn}
use Rattle.checkpoint_runs.specs.Running.{first_wait, kept_at_setup, kept_back, needed_back, resumed, resumed_if, wait_anew, wait_before, wait_first, wait_of, wait_onwards, wait_or, wanted_at_setup, wanted_next}
use Rattle.checkpoint_runs.proofs.Counting.{start_within}

some_is : {A : Type 0} (x y : A) → Some x ≡ Some y → x ≡ y
some_is x y e = cc

-- ---- the first event that needs a box

-- what is wanted before an event is wanted where the run goes on to it
can_go_on : (m : Answers) (stage : Stage) (supplied : List Part) (request : Request) → wanted_next m stage supplied ≡ Some request → (w : World) × (Running w ≡ stage)
can_go_on m (Running w) supplied request e = (w, refl)
can_go_on m (Over w outcome) supplied request e = cc

-- before this event, one of so many after that one, the run goes on
record IsFound (b : Behaviour) (m : Answers) (n more k : ℕ) : Type 0 where
  pub going : CanGoOn b m k
  pub grew : n ≤ k
  pub less : k < n + more

found_by : (b : Behaviour) (m : Answers) (n more : ℕ) (supplied : List Part) (w : ℕ × Request) (o : Option Request) → wanted_next m (after b m n) supplied ≡ o → wait_or n o (first_wait b m (suc n) more []) ≡ Some w
    → (first_wait b m (suc n) more [] ≡ Some w → IsFound b m (suc n) more w.0) → IsFound b m n (suc more) w.0
found_by b m n more supplied w (Some request) is here later = subst (λ (v : ℕ × Request). IsFound b m n (suc more) v.0) (some_is (n, request) w here)
    (record { going = can_go_on m (after b m n) supplied request is; grew = omega arith; less = omega arith })
found_by b m n more supplied w None is e later =
    let h = later e in
    let grew = h.grew in
    let less = h.less in
    record { going = h.going; grew = omega (arith, grew); less = omega (arith, less) }

found : (b : Behaviour) (m : Answers) (n more : ℕ) (supplied : List Part) (w : ℕ × Request) → first_wait b m n more supplied ≡ Some w → IsFound b m n more w.0
found b m n zero supplied w e = cc
found b m n (suc more) supplied w e = found_by b m n more supplied w (wanted_next m (after b m n) supplied) refl e (λ f. found b m (suc n) more [] w f)

-- ---- where it waits

-- a run to the limit goes on before that event
pub record IsBefore (b : Behaviour) (m : Answers) (limit k : ℕ) : Type 0 where
  pub going : CanGoOn b m k
  pub less : k < limit
  pub limited : k ≤ limit
  pub least : nat_le k limit ≡ true

before_limit : (b : Behaviour) (m : Answers) (limit k : ℕ) → CanGoOn b m k → k < limit → IsBefore b m limit k
before_limit b m limit k going less =
    let within : k ≤ limit = omega (arith, less) in
    record { going = going; less = less; limited = within; least = le-leb k limit within }

-- whether no box was declined where it is set up
abbrev pub IsAsking : AtSetup → Type 0
IsAsking Anew = Unit {0}
IsAsking Filling = Unit {0}
IsAsking Refused = ⊥

-- a run waits there that begins at that position, or with setup, or that goes on
abbrev pub IsThere : Behaviour → Answers → ℕ → AtSetup → Option Resumed → Option ℕ → Option ℕ → Point → Type 0
IsThere b m limit at None start from point.Setup = (start ≡ None) × IsAsking at
IsThere b m limit at (Some r) start from point.Setup = ⊥
IsThere b m limit at None start from point.Position = (event : ℕ) × (start ≡ Some event) × (from ≡ Some event)
IsThere b m limit at (Some r) start from point.Position = ⊥
IsThere b m limit at None start from (point.Start k id) = (from ≡ start) × IsBefore b m limit k × starts_within start k
IsThere b m limit at (Some r) start from (point.Start k id) = (from ≡ r.from) × IsBefore b m limit k × (r.declined ≡ false) × (r.count ≤ k)

asking : (at : AtSetup) (m : Answers) (supplied : List Part) (request : Request) → wanted_at_setup at m supplied ≡ Some request → IsAsking at
asking Anew m supplied request e = tt
asking Filling m supplied request e = tt
asking Refused m supplied request e = cc

at_event : (from : Option ℕ) (o : Option (ℕ × Request)) (wait : Wait) → option_map (wait_before from) o ≡ Some wait → (w : ℕ × Request) × (o ≡ Some w) × (wait_before from w ≡ wait)
at_event from None wait e = cc
at_event from (Some w) wait e = (w, refl, some_is (wait_before from w) wait e)

-- one that begins with setup
anew_setup : (b : Behaviour) (m : Answers) (limit : ℕ) (at : AtSetup) (o : Option Request) (supplied : List Part) (wait : Wait) → wanted_at_setup at m supplied ≡ o → wait_first None point.Setup o (first_wait b m 0 limit []) ≡ Some wait
    → IsThere b m limit at None None wait.from wait.at
anew_setup b m limit at (Some request) supplied wait is e =
    subst (λ (w : Wait). IsThere b m limit at None None w.from w.at) (some_is _ wait e) (refl, asking at m supplied request is)
anew_setup b m limit at None supplied wait is e =
    let w = at_event None (first_wait b m 0 limit []) wait e in
    let h = found b m 0 limit [] w.0 w.1 in
    let less = h.less in
    subst (λ (v : Wait). IsThere b m limit at None None v.from v.at) w.2 (refl, before_limit b m limit w.0.0 h.going (omega (arith, less)), tt)

-- one that begins at a position
anew_back : (b : Behaviour) (m : Answers) (limit event : ℕ) (at : AtSetup) (o : Option Request) (wait : Wait) → event ≤ limit → wait_first (Some event) point.Position o (first_wait b m event (limit - event) []) ≡ Some wait
    → IsThere b m limit at None (Some event) wait.from wait.at
anew_back b m limit event at (Some request) wait within e =
    subst (λ (w : Wait). IsThere b m limit at None (Some event) w.from w.at) (some_is _ wait e) (event, refl, refl)
anew_back b m limit event at None wait within e =
    let w = at_event (Some event) (first_wait b m event (limit - event) []) wait e in
    let h = found b m event (limit - event) [] w.0 w.1 in
    let less = h.less in
    subst (λ (v : Wait). IsThere b m limit at None (Some event) v.from v.at) w.2 (refl, before_limit b m limit w.0.0 h.going (omega (arith, less, within)), h.grew)

anew : (b : Behaviour) (m : Answers) (limit : ℕ) (at : AtSetup) (start : Option ℕ) (boxes supplied : List Part) (wait : Wait) → ((event : ℕ) → start ≡ Some event → event ≤ limit) → wait_anew b m limit at start boxes supplied ≡ Some wait
    → IsThere b m limit at None start wait.from wait.at
anew b m limit at None boxes supplied wait within e = anew_setup b m limit at (wanted_at_setup at m (kept_at_setup at supplied)) (kept_at_setup at supplied) wait refl e
anew b m limit at (Some event) boxes supplied wait within e = anew_back b m limit event at (needed_back b m event (kept_back b m event boxes)) wait (within event refl) e

-- one that goes on
onwards : (b : Behaviour) (m : Answers) (limit : ℕ) (at : AtSetup) (r : Resumed) (start : Option ℕ) (supplied : List Part) (wait : Wait) → r.count ≤ limit → wait_onwards b m limit r supplied ≡ Some wait
    → IsThere b m limit at (Some r) start wait.from wait.at
onwards b m limit at r start supplied wait within e = by r.declined refl e
  where
    by : (t : Bool) → r.declined ≡ t → cond t None (option_map (wait_before r.from) (first_wait b m r.count (limit - r.count) supplied)) ≡ Some wait → IsThere b m limit at (Some r) start wait.from wait.at
    by true is e = cc
    by false is e =
        let w = at_event r.from (first_wait b m r.count (limit - r.count) supplied) wait e in
        let h = found b m r.count (limit - r.count) supplied w.0 w.1 in
        let less = h.less in
        subst (λ (v : Wait). IsThere b m limit at (Some r) start v.from v.at) w.2 (refl, before_limit b m limit w.0.0 h.going (omega (arith, less, within)), is, h.grew)

-- it goes on from an event that is not after the limit
abbrev pub IsLimited : ℕ → Option Resumed → Type 0
IsLimited limit None = Unit {0}
IsLimited limit (Some r) = r.count ≤ limit

pub is_there : (b : Behaviour) (m : Answers) (limit : ℕ) (at : AtSetup) (r : Option Resumed) (stored : List ℕ) (boxes supplied : List Part) (wait : Wait) → IsLimited limit r → wait_of b m limit at r stored boxes supplied ≡ Some wait
    → IsThere b m limit at r (start_of limit stored) wait.from wait.at
is_there b m limit at None stored boxes supplied wait within e = anew b m limit at (start_of limit stored) boxes supplied wait (λ event is. start_within limit stored event is) e
is_there b m limit at (Some r) stored boxes supplied wait within e = onwards b m limit at r (start_of limit stored) supplied wait within e

-- ---- a run that waits there

-- it goes on, where that is before an event
abbrev pub resumed_there : ℕ → Option ℕ → Point → Bool → Option Resumed
resumed_there limit from point.Setup declined = None
resumed_there limit from point.Position declined = None
resumed_there limit from (point.Start k id) declined = resumed_if (nat_le k limit) (record { from = from; count = k; declined = declined })

pub resumed_waiting : (limit : ℕ) (from : Option ℕ) (at : Point) → resumed limit (Waiting from at) ≡ resumed_there limit from at false
resumed_waiting limit from point.Setup = refl
resumed_waiting limit from point.Position = refl
resumed_waiting limit from (point.Start k id) = refl

pub resumed_declined : (limit : ℕ) (from : Option ℕ) (at : Point) → resumed limit (Declined from at) ≡ resumed_there limit from at true
resumed_declined limit from point.Setup = refl
resumed_declined limit from point.Position = refl
resumed_declined limit from (point.Start k id) = refl

limited_if : (limit : ℕ) (r : Resumed) (t : Bool) → nat_le r.count limit ≡ t → IsLimited limit (resumed_if t r)
limited_if limit r true e = leb-true r.count limit e
limited_if limit r false e = tt

pub limited_resumed : (limit : ℕ) (phase : Phase) → IsLimited limit (resumed limit phase)
limited_resumed limit (Waiting from point.Setup) = tt
limited_resumed limit (Waiting from point.Position) = tt
limited_resumed limit (Waiting from (point.Start k id)) = limited_if limit (record { from = from; count = k; declined = false }) (nat_le k limit) refl
limited_resumed limit (Declined from point.Setup) = tt
limited_resumed limit (Declined from point.Position) = tt
limited_resumed limit (Declined from (point.Start k id)) = limited_if limit (record { from = from; count = k; declined = true }) (nat_le k limit) refl
limited_resumed limit Idle = tt

-- a start that is within so many events is within more
pub is_within : (from : Option ℕ) (j k : ℕ) → j ≤ k → starts_within from j → starts_within from k
is_within None j k grew within = tt
is_within (Some event) j k grew within = omega (arith, grew, within)
