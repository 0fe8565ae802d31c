-- What a Queue is. It holds the messages that come while one is served, up to its capacity.
use Rattle.std.specs.Prelude.{pos, int_le, Bool, true, false, List, [], ◌∷◌, ◌++◌, length, codes}
use Rattle.module_api.specs.declared.call.CallReason.{CallReason}
use Rattle.module_api.specs.declared.call.CallReason.TheVariants as prompt
use Rattle.module_api.specs.declared.message.Message.{Message}
use Rattle.module_api.specs.declared.message.Outgoing.{Outgoing}
use Rattle.module_api.specs.declared.reply.Action.{Action}
use Rattle.module_api.specs.declared.reply.Action.TheVariants.{Emit}
use Rattle.module_parts.specs.Asking.{Asking}
use Rattle.module_parts.specs.Cues.{is_from, is_timer}
use Rattle.module_parts.specs.Looking.{Looking, reading, whole, time, does, acts, simply, quiet}
use Rattle.module_parts.specs.Replies.{timer_set, sent}
use Rattle.module_parts.specs.Scripts.{Script}
use Rattle.module_stock.specs.Held.{kept, can_be_held, bytes_of, read_held}

-- how many are held
abbrev pub length_emitted : List Outgoing → Action
length_emitted held = Emit (codes "length") (pos (length held))

-- one more is held, or it is dropped
abbrev pub admitted : Bool → List Outgoing → Outgoing → Looking (List Outgoing)
admitted true held m = does held (length_emitted (held ++ m ∷ []) ∷ []) (held ++ m ∷ [])
admitted false held m = acts held (Emit (codes "dropped") (pos 1) ∷ [])

-- a message comes: where none is held, its service begins; else it is held if at most as many as
-- the capacity are held
abbrev pub joined : List Outgoing → Outgoing → Asking (List Outgoing)
joined [] m =
    reading (whole (codes "capacity") (λ capacity. time (codes "service") (λ service.
    does [] (length_emitted (m ∷ []) ∷ timer_set service (pos 0) ∷ []) (m ∷ []))))
joined (front ∷ rest) m =
    reading (whole (codes "capacity") (λ capacity.
    admitted (int_le (pos (length (front ∷ rest))) capacity) (front ∷ rest) m))

-- the front is sent on
abbrev pub front_sent : List Outgoing → List Action
front_sent [] = []
front_sent (front ∷ rest) = sent (codes "out") 0 front ∷ length_emitted rest ∷ []

-- the service of the front ends: it is sent on, and the service of the next one begins
abbrev pub served : List Outgoing → Asking (List Outgoing)
served [] = quiet []
served (front ∷ []) = simply (front_sent (front ∷ [])) []
served (front ∷ next ∷ rest) =
    reading (time (codes "service") (λ service.
    does (front ∷ next ∷ rest) (front_sent (front ∷ next ∷ rest) ++ timer_set service (pos 0) ∷ [])
    (next ∷ rest)))

-- a message that the bytes of a state can't tell is none that a run has
abbrev pub joined_if : Bool → List Outgoing → Outgoing → Asking (List Outgoing)
joined_if true held m = joined held m
joined_if false held m = quiet held

abbrev pub served_if : Bool → List Outgoing → Asking (List Outgoing)
served_if true held = served held
served_if false held = quiet held

-- it hears messages of its gate `in` and those from outside, and its timer
abbrev pub heard : Bool → List Outgoing → Message → Asking (List Outgoing)
heard true held m = joined_if (can_be_held m) held (kept m)
heard false held m = served_if (is_timer m.origin) held

abbrev pub told_by : CallReason → List Outgoing → Asking (List Outgoing)
told_by (prompt.Initialize stage) held = quiet held
told_by (prompt.Message m) held = heard (is_from (codes "in") m.origin) held m
told_by prompt.Finish held = quiet held

unfoldable pub queue_script : Script (List Outgoing)
queue_script = record {
  code = bytes_of;
  read = read_held;
  initial = [];
  asks = λ held call. told_by call.prompt held;
}
