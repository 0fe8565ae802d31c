-- Messages that are sent, worked by hand.
use Rattle.std.specs.Prelude.{◌≡◌, ℕ, zero, pos, bytes_eq, codes, Bool, true, false, List, [], ◌∷◌}
use Rattle.std.specs.Prelude.{Option, Some, None, if◌then◌else◌}
use Rattle.event_set.specs.declared.pending.Happening.TheVariants.{Delivery}
use Rattle.module_api.specs.declared.call.Direction.TheVariants.{Input, Output}
use Rattle.module_api.specs.declared.call.Gate.{Gate}
use Rattle.module_api.specs.declared.message.Outgoing.{Outgoing}
use Rattle.module_api.specs.declared.reply.Action.{Action}
use Rattle.module_api.specs.declared.reply.Action.TheVariants.{Send, SendDelayed, SendDirect}
use Rattle.module_api.specs.Behaviour.{Behaviour}
use Rattle.model_questions.specs.declared.answer.Answer.{Answer}
use Rattle.model_questions.specs.declared.answer.Answer.TheVariants as answer
use Rattle.model_questions.specs.declared.answer.AskedQuestion.{AskedQuestion}
use Rattle.model_questions.specs.declared.answer.Channel.{Channel}
use Rattle.model_questions.specs.declared.answer.ChannelKind.TheVariants.{Ideal, Delay, Datarate}
use Rattle.model_questions.specs.declared.answer.Neighbour.TheVariants.{Around, Beside}
use Rattle.model_questions.specs.declared.answer.Neighbour.TheVariants.{Inside}
use Rattle.model_questions.specs.declared.answer.Question.{Question}
use Rattle.model_questions.specs.declared.answer.Question.TheVariants.{GateSize, Hop, HopBack}
use Rattle.model_questions.specs.declared.record.Record.{Record}
use Rattle.model_questions.specs.Answers.{Answers}
use Rattle.model_questions.specs.Records.{path_along}
use Rattle.run_semantics.specs.declared.occasions.Occasion.TheVariants as occasion
use Rattle.run_semantics.specs.declared.outcome.RunFault.{RunFault}
use Rattle.run_semantics.specs.declared.outcome.RunFault.TheVariants as fault
use Rattle.run_semantics.specs.declared.routes.Transmission.{Transmission}
use Rattle.run_semantics.specs.Perform.{Flow, On, Broken, act, chain, perform}
use Rattle.run_semantics.specs.Example.{made}
use Rattle.run_semantics.specs.World.{World, empty}

-- ---- a network: N has s and c; c has k; s.out leads to c.in over a channel, and that to k.in over
-- none

abbrev pub sending_records : List Record
sending_records = made 0 (codes "N") None ∷ made 1 (codes "s") (Some (codes "S"))
    ∷ made 1 (codes "c") None ∷ made 3 (codes "k") (Some (codes "S")) ∷ []

abbrev pub ideal : Channel
ideal = record { kind = Ideal; delay = 0; datarate = 0; disabled = false }

abbrev pub lossy : Channel
lossy = record { kind = Delay; delay = 0; datarate = 0; disabled = true }

abbrev pub at_rate : ℕ → ℕ → Channel
at_rate delay rate = record { kind = Datarate; delay = delay; datarate = rate; disabled = false }

abbrev pub hop_at : Option Channel → List ℕ → Answer
hop_at None path = answer.Next None
hop_at (Some channel) path =
    if bytes_eq path (codes "N.s") then answer.Next (Some (record {
      neighbour =
          Beside (codes "c") None;
      gate = codes "in";
      index = 0;
      channel = channel;
    }))
    else (if bytes_eq path (codes "N.c")
    then answer.Next (Some (record {
      neighbour = Inside (codes "k") None;
      gate = codes "in";
      index = 0;
      channel = ideal;
    })) else answer.Next None)

abbrev pub gates_at : List ℕ → List Gate
gates_at path = if bytes_eq path (codes "N.s") then record {
  name = codes "out";
  direction = Output;
  size = 1;
} ∷ [] else record { name = codes "in"; direction = Input; size = 1 } ∷ []

abbrev pub back_at : Bool → Answer
back_at true = answer.Next (Some (record {
  neighbour = Around;
  gate = codes "in";
  index = 0;
  channel = ideal;
}))
back_at false = answer.Next None

-- what such a model answers: the channel after s.out, if it is connected, and whether something is
-- connected to other gates
abbrev pub linked : Option Channel → Bool → Answers
linked channel taken = record {
  root = answer.Root (codes "N");
  class_there = λ p. answer.Absent;
  inside = λ p. answer.Absent;
  names = λ p. [];
  value = λ p name. answer.Absent;
  gates = λ p. gates_at (path_along p);
  hop = λ p name index. hop_at channel (path_along p);
  hop_back = λ p name index. back_at taken;
  time_limit = None;
  injections = [];
}

-- ---- worlds: event 1, at a time, where these transmissions were the last ones

abbrev pub at_event : ℕ → List Transmission → World
at_event clock ts = record empty {
  clock = clock;
  count = 1;
  records = sending_records;
  next = 7;
  transmissions = ts;
}

abbrev pub through : List Question → List AskedQuestion
through [] = []
through (q ∷ qs) = record { event = 1; question = q } ∷ through qs

abbrev pub asked_about : List Question → World → World
asked_about qs w = record w { questions = through qs }

-- the questions of a message that takes both hops
abbrev pub both_hops : List Question
both_hops = GateSize 2 (codes "out") ∷ Hop 2 (codes "out") 0 ∷ Hop 3 (codes "in") 0 ∷ []

abbrev pub until : ℕ → List Transmission
until end = record { gate = record { id = 2; name = codes "out"; index = 0 }; end = end } ∷ []

-- what then comes: an arrival at k.in
abbrev pub arrives : ℕ → ℕ → World → World
arrives time bits w = record w {
  pending = record {
    time = time;
    priority = pos 3;
    number = 7;
    id = 4;
    what = Delivery (record {
      kind = pos 5;
      bits = bits;
      payload = codes "p";
      gate = codes "in";
      index = 0;
    });
  } ∷ [];
  next = 8;
}

abbrev pub with_bits : ℕ → Outgoing
with_bits bits = record { kind = pos 5; priority = pos 3; bits = bits; payload = codes "p" }

abbrev pub send : ℕ → ℕ → Action
send index bits = Send (record { name = codes "out"; index = index }) (with_bits bits)

abbrev pub direct : List ℕ → ℕ → ℕ → Action
direct path delay duration = SendDirect (record { path = path; name = codes "in"; index = 0 })
    (with_bits 8) (record { delay = delay; duration = duration })

abbrev pub told : RunFault → World → Flow
told f w = Broken w (codes "N.s") f

-- ---- what becomes of it

module _ (b : Behaviour) where
  abbrev does : Answers → Action → World → Flow
  does m action w = perform b m 2 action w

  pub record ExampleSends : Type 0 where
    -- 1,000 bits at 1 Mbps take 1 ms, and the channel 1 ms more
    pub datarate : does (linked (Some (at_rate 1000000000 1000000)) false) (send 0 1000)
        (at_event 0 [])
        ≡ On (arrives 2000000000 1000 (asked_about both_hops (at_event 0 (until 1000000000))))
    -- 1 bit at 3 bps: rounded up
    pub rounded : does (linked (Some (at_rate 0 3)) false) (send 0 1) (at_event 0 [])
        ≡ On (arrives 333333333334 1 (asked_about both_hops (at_event 0 (until 333333333334))))
    -- 2 ms later
    pub delayed : does (linked (Some ideal) false) (SendDelayed
        (record { name = codes "out"; index = 0 }) (with_bits 8) 2000000000) (at_event 5 [])
        ≡ On (arrives 2000000005 8 (asked_about both_hops (at_event 5 [])))
    -- an earlier transmission goes on for 1 ps more; one that ends now is over
    pub busy : does (linked (Some (at_rate 0 1000000)) false) (send 0 1) (at_event 9 (until 10))
        ≡ told fault.Busy (asked_about both_hops (at_event 9 (until 10)))
    pub over : does (linked (Some (at_rate 0 1000000)) false) (send 0 1) (at_event 10 (until 10))
        ≡ On (arrives 1000010 1 (asked_about both_hops (at_event 10 (until 1000010))))
    -- a disabled channel loses it, and nothing more is done
    pub lost : does (linked (Some lossy) false) (send 0 8) (at_event 5 [])
        ≡ On (asked_about both_hops (at_event 5 []))
    -- nothing is connected
    pub unconnected : does (linked None false) (send 0 8) (at_event 5 []) ≡ told fault.NotConnected
        (asked_about (GateSize 2 (codes "out") ∷ Hop 2 (codes "out") 0 ∷ []) (at_event 5 []))
    -- there is no out[1]
    pub no_gate : does (linked (Some ideal) false) (send 1 8) (at_event 5 [])
        ≡ told fault.NoGate (asked_about (GateSize 2 (codes "out") ∷ []) (at_event 5 []))
    -- where no hop more is allowed: one more is too many, none is no connection
    pub too_many : chain (linked (Some ideal) false) 2 (λ hops end w. On w)
        zero (record { id = 2; name = codes "out"; index = 0 }) [] (at_event 5 [])
        ≡ told fault.TooManyHops (asked_about (Hop 2 (codes "out") 0 ∷ []) (at_event 5 []))
    pub none_more : chain (linked None false) 2 (λ hops end w. On w)
        zero (record { id = 2; name = codes "out"; index = 0 }) [] (at_event 5 [])
        ≡ told fault.NotConnected (asked_about (Hop 2 (codes "out") 0 ∷ []) (at_event 5 []))
    -- directly to a simple module
    pub to_simple : does (linked (Some ideal) false) (direct (codes "N.c.k") 10 20) (at_event 5 [])
        ≡ On (arrives 35 8 (asked_about (GateSize 4 (codes "in") ∷ HopBack 4 (codes "in") 0 ∷ [])
        (at_event 5 [])))
    -- and to a compound one: it goes on inside
    pub to_compound : does (linked (Some ideal) false) (direct (codes "N.c") 10 20) (at_event 5 [])
        ≡ On (arrives 35 8 (asked_about (GateSize 3 (codes "in") ∷ HopBack 3 (codes "in") 0
        ∷ Hop 3 (codes "in") 0 ∷ []) (at_event 5 [])))
    pub to_nobody : does (linked (Some ideal) false) (direct (codes "N.x") 10 20) (at_event 5 [])
        ≡ told fault.NoModule (at_event 5 [])
    pub to_connected : does (linked (Some ideal) true) (direct (codes "N.c.k") 10 20)
        (at_event 5 [])
        ≡ told fault.AlreadyConnected
        (asked_about (GateSize 4 (codes "in") ∷ HopBack 4 (codes "in") 0 ∷ []) (at_event 5 []))
    pub too_late : does (linked (Some ideal) false) (direct (codes "N.c.k") 9223372036854775807 1)
        (at_event 5 [])
        ≡ told fault.TimeOverflow
        (asked_about (GateSize 4 (codes "in") ∷ HopBack 4 (codes "in") 0 ∷ []) (at_event 5 []))
    -- in a reply to the end no message is sent, whatever its gate
    pub at_end : act (perform b (linked None false) 2) occasion.End 2 (send 0 8) (at_event 5 [])
        ≡ told fault.NotInFinish (at_event 5 [])
