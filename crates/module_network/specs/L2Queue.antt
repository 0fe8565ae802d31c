-- What an L2Queue is. It holds the message that is on its line and those that wait for it, and sends
-- the next one as soon as the line is free.
use Rattle.std.specs.Prelude.{ℕ, ◌+◌, ◌-◌, ◌*◌, ◌/◌, ◌==◌, min, pos, int_le, Bool, true, false, List}
use Rattle.std.specs.Prelude.{[], ◌∷◌, ◌++◌, length, codes, if◌then◌else◌}
use Rattle.std.specs.Option.{option_map}
use Rattle.sim_time.specs.Time.{greatest}
use Rattle.module_api.specs.declared.call.CallReason.{CallReason}
use Rattle.module_api.specs.declared.call.CallReason.TheVariants as prompt
use Rattle.module_api.specs.declared.message.Message.{Message}
use Rattle.module_api.specs.declared.message.Outgoing.{Outgoing}
use Rattle.module_api.specs.declared.reply.Action.{Action}
use Rattle.module_api.specs.declared.reply.Action.TheVariants.{Emit}
use Rattle.module_parts.specs.Asking.{Asking}
use Rattle.module_parts.specs.Cues.{is_from, is_timer}
use Rattle.module_parts.specs.Looking.{Looking, reading, whole, does, acts, simply, quiet, rate}
use Rattle.module_parts.specs.Replies.{timer_set, sent}
use Rattle.module_parts.specs.Scripts.{Script}
use Rattle.module_stock.specs.Held.{kept, can_be_held, bytes_of, read_held}
use Rattle.module_network.specs.declared.l2_queue.L2Queue.{L2Queue}

-- how long so many bits are on a line of so many bits per second, in ps, rounded up; none at the
-- rate 0; and no more than the greatest time
abbrev pub line_time : ℕ → ℕ → ℕ
line_time bits datarate = if datarate == 0 then 0
    else min ((bits * 1000000000000 + (datarate - 1)) / datarate) greatest

-- a message goes, and the timer is set for when it is off the line
abbrev pub departed : ℕ → Outgoing → List Action
departed datarate m =
    sent (codes "out") 0 m ∷ timer_set (line_time m.bits datarate) (pos 0) ∷ []

-- how many wait, where that many are held
abbrev pub length_emitted : ℕ → Action
length_emitted n = Emit (codes "length") (pos n)

abbrev pub holding : List Outgoing → L2Queue
holding held = record { held = held }

-- one more waits, or it is dropped
abbrev pub admitted : Bool → List Outgoing → Outgoing → Looking L2Queue
admitted true held m =
    does (holding held) (length_emitted (length held) ∷ []) (holding (held ++ m ∷ []))
admitted false held m = acts (holding held) (Emit (codes "dropped") (pos 1) ∷ [])

-- a message comes: where the line is free, it goes; else it waits, if fewer than the capacity wait
abbrev pub joined : List Outgoing → Outgoing → Asking L2Queue
joined [] m =
    reading (whole (codes "capacity") (λ capacity. rate (codes "datarate") (λ datarate.
    does (holding []) (Emit (codes "busy") (pos 1) ∷ departed datarate m) (holding (m ∷ [])))))
joined (front ∷ rest) m =
    reading (whole (codes "capacity") (λ capacity.
    admitted (int_le (pos (length (front ∷ rest))) capacity) (front ∷ rest) m))

-- the next one goes
abbrev pub second_sent : ℕ → List Outgoing → List Action
second_sent datarate [] = []
second_sent datarate (front ∷ []) = []
second_sent datarate (front ∷ next ∷ rest) =
    departed datarate next ++ length_emitted (length rest) ∷ []

-- the line is free: the next one goes
abbrev pub freed : List Outgoing → Asking L2Queue
freed [] = quiet (holding [])
freed (front ∷ []) = simply (Emit (codes "busy") (pos 0) ∷ []) (holding [])
freed (front ∷ next ∷ rest) =
    reading (rate (codes "datarate") (λ datarate.
    does (holding (front ∷ next ∷ rest)) (second_sent datarate (front ∷ next ∷ rest))
    (holding (next ∷ rest))))

-- a message that the bytes of a state can't tell is none that a run has
abbrev pub joined_if : Bool → List Outgoing → Outgoing → Asking L2Queue
joined_if true held m = joined held m
joined_if false held m = quiet (holding held)

abbrev pub freed_if : Bool → List Outgoing → Asking L2Queue
freed_if true held = freed held
freed_if false held = quiet (holding held)

-- it hears messages of its gate `in` and those from outside, and its timer
abbrev pub heard : Bool → List Outgoing → Message → Asking L2Queue
heard true held m = joined_if (can_be_held m) held (kept m)
heard false held m = freed_if (is_timer m.origin) held

abbrev pub told_by : CallReason → List Outgoing → Asking L2Queue
told_by (prompt.Initialize stage) held = quiet (holding held)
told_by (prompt.Message m) held = heard (is_from (codes "in") m.origin) held m
told_by prompt.Finish held = quiet (holding held)

unfoldable pub l2_queue_script : Script L2Queue
l2_queue_script = record {
  code = λ q. bytes_of q.held;
  read = λ state. option_map holding (read_held state);
  initial = holding [];
  asks = λ q call. told_by call.prompt q.held;
}
