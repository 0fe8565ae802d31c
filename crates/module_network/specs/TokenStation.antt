-- What a TokenStation is. It holds frames until the token comes, sends one of them and the token on,
-- and takes off the ring what is for its address.
use Rattle.std.specs.Prelude.{ℕ, ◌==◌, pos, int_lt, Bool, true, false, List, [], ◌∷◌, ◌++◌, length}
use Rattle.std.specs.Prelude.{Option, Some, None, codes, if◌then◌else◌}
use Rattle.std.specs.Option.{option_map}
use Rattle.std.specs.Ordering.{int_eq}
use Rattle.module_api.specs.declared.call.CallReason.{CallReason}
use Rattle.module_api.specs.declared.call.CallReason.TheVariants as prompt
use Rattle.module_api.specs.declared.message.Message.{Message}
use Rattle.module_api.specs.declared.message.Outgoing.{Outgoing}
use Rattle.module_api.specs.declared.reply.Action.{Action}
use Rattle.module_api.specs.declared.reply.Action.TheVariants.{Emit}
use Rattle.module_parts.specs.Asking.{Asking}
use Rattle.module_parts.specs.Cues.{is_from}
use Rattle.module_parts.specs.Looking.{Looking, reading, whole, bits, truth, does, acts, quiet}
use Rattle.module_parts.specs.Looking.{short_number}
use Rattle.module_parts.specs.Replies.{sent}
use Rattle.module_parts.specs.Scripts.{Script}
use Rattle.module_stock.specs.Held.{kept, can_be_held, bytes_of, read_held}
use Rattle.module_network.specs.declared.frame.Frame.{Frame}
use Rattle.module_network.specs.declared.token_station.TokenStation.{TokenStation}
use Rattle.module_network.specs.Frames.{frame_in}

abbrev pub token : ℕ → Outgoing
token length = record { kind = pos 2; priority = pos 0; bits = length; payload = [] }

abbrev pub token_sent : ℕ → Action
token_sent length = sent (codes "ringOut") 0 (token length)

abbrev pub first_token : Bool → ℕ → List Action
first_token true length = token_sent length ∷ []
first_token false length = []

-- to initialization: the first token, where it is this station's
abbrev pub begun : TokenStation → Asking TokenStation
begun t = reading (truth (codes "first") (λ first. bits (codes "tokenBits") (λ length.
    acts t (first_token first length))))

abbrev pub holding : List Outgoing → TokenStation
holding held = record { held = held }

abbrev pub length_emitted : List Outgoing → Action
length_emitted held = Emit (codes "length") (pos (length held))

-- one more waits for the token, or it is dropped
abbrev pub admitted : Bool → List Outgoing → Outgoing → Looking TokenStation
admitted true held m =
    does (holding held) (length_emitted (held ++ m ∷ []) ∷ []) (holding (held ++ m ∷ []))
admitted false held m = acts (holding held) (Emit (codes "dropped") (pos 1) ∷ [])

abbrev pub joined : List Outgoing → Outgoing → Asking TokenStation
joined held m =
    reading (whole (codes "capacity") (λ capacity.
    admitted (int_lt (pos (length held)) capacity) held m))

abbrev pub joined_if : Bool → List Outgoing → Outgoing → Asking TokenStation
joined_if true held m = joined held m
joined_if false held m = quiet (holding held)

abbrev pub front_sent : List Outgoing → List Action
front_sent [] = []
front_sent (front ∷ rest) = sent (codes "ringOut") 0 front ∷ length_emitted rest ∷ []

-- the token comes: the front goes before it
abbrev pub token_taken : List Outgoing → Asking TokenStation
token_taken [] =
    reading (bits (codes "tokenBits") (λ length. acts (holding []) (token_sent length ∷ [])))
token_taken (front ∷ rest) =
    reading (bits (codes "tokenBits") (λ length. does (holding (front ∷ rest))
    (front_sent (front ∷ rest) ++ token_sent length ∷ []) (holding rest)))

-- what becomes of a message of the ring at the station of that address
abbrev pub delivered_by : Option Frame → ℕ → Outgoing → List Action
delivered_by None address m = Emit (codes "dropped") (pos 1) ∷ []
delivered_by (Some f) address m = if f.destination == address then sent (codes "out") 0 m ∷ []
    else if f.source == address then Emit (codes "returned") (pos 1) ∷ []
    else sent (codes "ringOut") 0 m ∷ []

abbrev pub delivered : ℕ → Message → List Action
delivered address m = delivered_by (frame_in m.payload) address (kept m)

abbrev pub passed_on : TokenStation → Message → Asking TokenStation
passed_on t m =
    reading (short_number (codes "address") (λ address. acts t (delivered address m)))

-- a message of the ring: the token is of kind 2
abbrev pub ring_heard : Bool → TokenStation → Message → Asking TokenStation
ring_heard true t m = token_taken t.held
ring_heard false t m = passed_on t m

abbrev pub ring_heard_if : Bool → TokenStation → Message → Asking TokenStation
ring_heard_if true t m = ring_heard (int_eq m.kind (pos 2)) t m
ring_heard_if false t m = quiet t

-- messages of the gate `in` and those from outside are to be sent, those of `ringIn` come along
abbrev pub heard : Bool → TokenStation → Message → Asking TokenStation
heard true t m = joined_if (can_be_held m) t.held (kept m)
heard false t m = ring_heard_if (is_from (codes "ringIn") m.origin) t m

abbrev pub told_by : CallReason → TokenStation → Asking TokenStation
told_by (prompt.Initialize stage) t = begun t
told_by (prompt.Message m) t = heard (is_from (codes "in") m.origin) t m
told_by prompt.Finish t = quiet t

unfoldable pub token_station_script : Script TokenStation
token_station_script = record {
  code = λ t. bytes_of t.held;
  read = λ state. option_map holding (read_held state);
  initial = holding [];
  asks = λ t call. told_by call.prompt t;
}
