-- Gates that are joined and freed while a run goes on, and a run that a module ends, worked by hand.
use Rattle.std.specs.Prelude.{◌≡◌, ℕ, zero, suc, ◌*◌, pos, bytes_eq, codes, true}
use Rattle.std.specs.Prelude.{List, [], ◌∷◌, Option, Some, None, if◌then◌else◌}
use Rattle.module_api.specs.Behaviour.{Behaviour, Replied}
use Rattle.module_api.specs.declared.call.CallReason.{CallReason}
use Rattle.module_api.specs.declared.call.CallReason.TheVariants.{Initialize, Message, Finish}
use Rattle.module_api.specs.declared.call.Direction.TheVariants.{Input, Output}
use Rattle.module_api.specs.declared.call.Gate.{Gate}
use Rattle.module_api.specs.declared.message.Outgoing.{Outgoing}
use Rattle.module_api.specs.declared.reply.Action.{Action}
use Rattle.module_api.specs.declared.reply.Action.TheVariants.{Emit, Send, SendDirect, ScheduleAfter}
use Rattle.module_api.specs.declared.reply.Action.TheVariants.{Connect, Disconnect, End}
use Rattle.module_api.specs.declared.reply.GatePlace.{GatePlace}
use Rattle.model_questions.specs.declared.answer.Answer.{Answer}
use Rattle.model_questions.specs.declared.answer.Answer.TheVariants as answer
use Rattle.model_questions.specs.declared.answer.Built.{Built}
use Rattle.model_questions.specs.Answers.{Answers}
use Rattle.model_questions.specs.Records.{path_along}
use Rattle.run_semantics.specs.declared.outcome.Outcome.TheVariants.{Fault}
use Rattle.run_semantics.specs.declared.outcome.RunFault.TheVariants as fault
use Rattle.run_semantics.specs.Example.{made}
use Rattle.run_semantics.specs.Run.{after, run_to, world_at}
use Rattle.run_semantics.specs.World.{World, empty}
use Rattle.run_semantics.specs.Perform.{Flow, On, Stopped, Broken, for_each, perform}
use Rattle.run_semantics.specs.declared.outcome.RunFault.{RunFault}
use Rattle.run_semantics.specs.declared.traces.Instance.{Instance}

-- ---- what modules do

abbrev pub ms : ℕ
ms = 1000000000

abbrev pub timer_after : ℕ → Action
timer_after delay =
    ScheduleAfter (record { timer = 0; delay = delay; priority = pos 0; kind = pos 0 })

abbrev pub does : List Action → List ℕ → Replied
does actions state = record { reply = record { reads = []; actions = actions }; state = state }

abbrev pub eight_bits : Outgoing
eight_bits = record { kind = pos 0; priority = pos 0; bits = 8; payload = [] }

abbrev pub place : List ℕ → List ℕ → GatePlace
place path name = record { path = path; name = name; index = 0 }

abbrev pub hears : List ℕ → CallReason → Replied
hears state (Initialize stage) = does [] state
hears state (Message message) = does (Emit (codes "rx") (pos message.bits) ∷ []) state
hears state Finish = does [] state

-- one that sends after 2 s, and after 3 s
abbrev pub sends : List ℕ → CallReason → Replied
sends state (Initialize stage) = does (timer_after (2000 * ms) ∷ []) state
sends state (Message message) = does (
    Send (record { name = codes "out"; index = 0 }) eight_bits ∷ timer_after (1000 * ms) ∷ []
    ) state
sends state Finish = does [] state

-- one that joins two gates after 1 s, and frees the first 1.5 s later
abbrev pub wires : List ℕ → CallReason → Replied
wires state (Initialize stage) = does (timer_after (1000 * ms) ∷ []) state
wires (zero ∷ rest) (Message message) = does (
    Connect (place (codes "N.s") (codes "out")) (place (codes "N.k") (codes "in"))
    (Some (record { delay = ms; datarate = 0 }))
    ∷ timer_after (1500 * ms) ∷ []
    ) (1 ∷ [])
wires (suc n ∷ rest) (Message message) =
    does (Disconnect (place (codes "N.s") (codes "out")) ∷ []) (2 ∷ [])
wires [] (Message message) = does [] []
wires state Finish = does [] state

abbrev pub acts : List ℕ → List ℕ → CallReason → Replied
acts kind state reason =
    if bytes_eq kind (codes "Source") then sends state reason
    else (if bytes_eq kind (codes "Wire") then wires state reason else hears state reason)

abbrev pub kinds : Behaviour
kinds = record {
  known = λ kind. true;
  naming = λ kind. record {
    stages = 1;
    is_state = λ state. true;
    initial = 0 ∷ [];
    reply = λ state call. acts kind state call.prompt;
  };
}

-- ---- what the models answer

abbrev pub simple_one : List ℕ → List ℕ → Built
simple_one name class = record { name = name; index = None; class = Some class }

abbrev pub gates_there : List ℕ → List Gate
gates_there path =
    if bytes_eq path (codes "N.s") then record {
      name = codes "out";
      direction = Output;
      size = 1;
    } ∷ [] else record { name = codes "in"; direction = Input; size = 1 } ∷ []

abbrev pub inside_network : List Built → List ℕ → Answer
inside_network bs path = if bytes_eq path (codes "N") then answer.Inside bs else answer.Absent

-- a network of these modules, with no connection; what is created in it is a Sink
abbrev pub network_of : List Built → Answers
network_of bs = record {
  root = answer.Root (codes "N");
  class_there = λ p. answer.Class (Some (codes "Sink"));
  inside = λ p. inside_network bs (path_along p);
  names = λ p. [];
  value = λ p name. answer.Absent;
  gates = λ p. gates_there (path_along p);
  hop = λ p name index. answer.Next None;
  hop_back = λ p name index. answer.Next None;
  time_limit = None;
  injections = [];
}

abbrev pub wiring : Answers
wiring = network_of (simple_one (codes "s") (codes "Source")
    ∷ simple_one (codes "k") (codes "Sink") ∷ simple_one (codes "c") (codes "Wire") ∷ [])

-- ---- what happens

-- Two gates are joined after 1 s, with a delay of 1 ms, and the first is freed before the second
-- message is sent.
pub record ExampleWires : Type 0 where
  pub outcome : (run_to kinds wiring 6).outcome ≡ Fault 5 (codes "N.s") fault.NotConnected
  pub heard : (world_at (after kinds wiring 6)).emissions ≡ record {
    id = 3;
    signal = codes "rx";
    event = 3;
    time = 2001 * ms;
    value = pos 8;
  } ∷ []

-- ---- single actions

abbrev pub sink_at : ℕ → Instance
sink_at id = record { id = id; kind = codes "Sink"; state = [] }

-- N has s and c, and c has k; all of them were started
abbrev pub living : World
living = record empty {
  clock = 5;
  count = 1;
  records = made 0 (codes "N") None ∷ made 1 (codes "s") (Some (codes "Sink"))
      ∷ made 1 (codes "c") None ∷ made 3 (codes "k") (Some (codes "Sink")) ∷ [];
  modules = sink_at 2 ∷ sink_at 4 ∷ [];
  started = 1 ∷ 2 ∷ 3 ∷ 4 ∷ [];
  next = 7;
}

abbrev pub acts_in : ℕ → List Action → World → Flow
acts_in id actions w = for_each (perform kinds (network_of []) id) actions w

abbrev pub faults_in : Flow → Option RunFault
faults_in (On w) = None
faults_in (Stopped w) = None
faults_in (Broken w path f) = Some f

abbrev pub join : Action
join = Connect (place (codes "N.s") (codes "out")) (place (codes "N.c.k") (codes "in")) None

abbrev pub free : Action
free = Disconnect (place (codes "N.s") (codes "out"))

-- A gate is joined that is free, to one that is free, and freed where it is joined; each other
-- action of these is a fault.
pub record ExampleJoins : Type 0 where
  pub joined_twice : faults_in (acts_in 2 (join ∷ join ∷ []) living) ≡ Some fault.AlreadyConnected
  pub joined_again : faults_in (acts_in 2 (join ∷ free ∷ join ∷ []) living) ≡ None
  pub freed_twice : faults_in (acts_in 2 (join ∷ free ∷ free ∷ []) living)
      ≡ Some fault.NotConnected
  pub freed_first : faults_in (acts_in 2 (free ∷ []) living) ≡ Some fault.NotConnected
  pub direct : faults_in (acts_in 2 (
      join ∷ SendDirect (place (codes "N.c.k") (codes "in")) eight_bits
      (record { delay = 0; duration = 0 }) ∷ []
      ) living) ≡ Some fault.AlreadyConnected
  pub no_gate : faults_in (acts_in 2 (
      Connect (place (codes "N.c.k") (codes "in")) (place (codes "N.c.k") (codes "in")) None ∷ []
      ) living) ≡ Some fault.NoGate
  pub from_nobody : faults_in (acts_in 2 (
      Connect (place (codes "N.z") (codes "out")) (place (codes "N.c.k") (codes "in")) None ∷ []
      ) living) ≡ Some fault.NoModule
  pub to_nobody : faults_in (acts_in 2 (
      Connect (place (codes "N.s") (codes "out")) (place (codes "N.z") (codes "in")) None ∷ []
      ) living) ≡ Some fault.NoModule
  -- the rest of the event is discarded
  pub ended : acts_in 2 (End ∷ End ∷ []) living ≡ Stopped (record living { ended = true })
