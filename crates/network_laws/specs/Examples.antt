-- Lists of calls, to work the laws by hand.
use Rattle.std.specs.Prelude.{ℕ, ◌*◌, pos, false, List, [], ◌∷◌, None, codes}
use Rattle.sim_values.specs.declared.value.Dimension.TheVariants.{Rate, Time}
use Rattle.sim_values.specs.declared.value.Value.{Value}
use Rattle.sim_values.specs.declared.value.Value.TheVariants.{Quantity, Text, Truth, Whole}
use Rattle.module_api.specs.declared.call.Call.{Call}
use Rattle.module_api.specs.declared.call.CallReason.{CallReason}
use Rattle.module_api.specs.declared.call.CallReason.TheVariants as prompt
use Rattle.module_api.specs.declared.call.Parameter.{Parameter}
use Rattle.module_api.specs.declared.message.Origin.{Origin}
use Rattle.module_api.specs.declared.message.Origin.TheVariants.{Gate, Timer}
use Rattle.module_network.specs.Frames.{frame_bytes, framed}

abbrev pub parameter : List ℕ → Value → Parameter
parameter name value = record { name = name; value = value }

abbrev pub call_at : List Parameter → ℕ → CallReason → Call
call_at parameters time p = record {
  time = time;
  event = 0;
  id = 1;
  path = codes "Net.m";
  index = None;
  parameters = parameters;
  gates = [];
  prompt = p;
}

-- a message of that kind, of 8 bits
abbrev pub brought : Origin → ℕ → List ℕ → CallReason
brought origin kind payload = prompt.Message (record {
  kind = pos kind;
  priority = pos 0;
  bits = 8;
  payload = payload;
  origin = origin;
})

-- a frame of that kind and number, which comes by the gate `in`
abbrev pub frame_brought : ℕ → ℕ → CallReason
frame_brought kind number =
    brought (Gate (codes "in") 0) kind (frame_bytes (framed 1 2 0 number))

-- the module's timer
abbrev pub timer_brought : CallReason
timer_brought = brought (Timer 0) 0 []

-- to a Receiver: a frame that was there before, and one too early
abbrev pub to_receiver : CallReason → Call
to_receiver p = call_at (parameter (codes "ackBits") (Whole (pos 64)) ∷ []) 5 p

abbrev pub receiver_calls : List Call
receiver_calls = to_receiver (prompt.Initialize 0)
    ∷ to_receiver (frame_brought 0 0) ∷ to_receiver (frame_brought 0 1)
    ∷ to_receiver (frame_brought 0 1) ∷ to_receiver (frame_brought 0 3)
    ∷ to_receiver (frame_brought 0 2) ∷ to_receiver prompt.Finish ∷ []

-- to a Dropper: three messages
abbrev pub dropped_pattern : List ℕ
dropped_pattern = codes "-x"

abbrev pub to_dropper : CallReason → Call
to_dropper p = call_at (parameter (codes "pattern") (Text dropped_pattern)
    ∷ parameter (codes "repeat") (Truth false) ∷ []) 5 p

abbrev pub dropper_calls : List Call
dropper_calls = to_dropper (brought (Gate (codes "in") 0) 7 [])
    ∷ to_dropper (brought (Gate (codes "in") 0) 8 [])
    ∷ to_dropper (brought (Gate (codes "in") 0) 9 []) ∷ []

-- to a Sender: its timer, an acknowledgement of the first frame, and its timer again
abbrev pub to_sender : ℕ → CallReason → Call
to_sender time p = call_at (parameter (codes "count") (Whole (pos 9))
    ∷ parameter (codes "bits") (Whole (pos 8)) ∷ parameter (codes "window") (Whole (pos 2))
    ∷ parameter (codes "timeout") (Quantity Time (pos 100))
    ∷ parameter (codes "start") (Quantity Time (pos 0))
    ∷ parameter (codes "address") (Whole (pos 1))
    ∷ parameter (codes "destAddress") (Whole (pos 2)) ∷ []) time p

abbrev pub sender_calls : List Call
sender_calls = to_sender 0 (prompt.Initialize 0) ∷ to_sender 0 timer_brought
    ∷ to_sender 9 (frame_brought 1 1) ∷ to_sender 109 timer_brought ∷ []

-- to an L2Queue of 8 bits per second: two messages at once, and its timer as each is transmitted
abbrev pub second : ℕ
second = 1000000000000

abbrev pub to_l2_queue : ℕ → CallReason → Call
to_l2_queue time p = call_at (parameter (codes "capacity") (Whole (pos 10))
    ∷ parameter (codes "datarate") (Quantity Rate (pos 8)) ∷ []) time p

abbrev pub l2_queue_calls : List Call
l2_queue_calls = to_l2_queue 0 (frame_brought 0 0) ∷ to_l2_queue 0 (frame_brought 0 1)
    ∷ to_l2_queue second timer_brought ∷ to_l2_queue (2 * second) timer_brought ∷ []
