-- Which messages a Dropper sends on.
use Rattle.std.specs.Prelude.{◌≡◌, ℕ, ℤ, pos, ◌+◌, Bool, List, [], ◌∷◌, Some, codes, flat_map}
use Rattle.std.specs.Prelude.{if◌then◌else◌}
use Rattle.sim_values.specs.declared.value.Value.TheVariants.{Truth, Text}
use Rattle.module_api.specs.declared.call.Call.{Call}
use Rattle.module_api.specs.declared.call.CallReason.{CallReason}
use Rattle.module_api.specs.declared.call.CallReason.TheVariants as prompt
use Rattle.module_api.specs.declared.message.Outgoing.{Outgoing}
use Rattle.module_api.specs.Values.{value_of}
use Rattle.module_parts.specs.Cues.{is_from}
use Rattle.module_stock.specs.Held.{kept}

-- the messages that come through the gate `in` or from outside, in order
abbrev pub message_heard : CallReason → List Outgoing
message_heard (prompt.Initialize stage) = []
message_heard (prompt.Message m) = if is_from (codes "in") m.origin then kept m ∷ [] else []
message_heard prompt.Finish = []

abbrev pub messages_heard : List Call → List Outgoing
messages_heard calls = flat_map (λ (call : Call). message_heard call.prompt) calls

-- these messages without those that are lost, by their places in the list, the first of which is i
abbrev pub kept_from : (ℕ → Bool) → ℕ → List Outgoing → List Outgoing
kept_from is_lost i [] = []
kept_from is_lost i (m ∷ ms) =
    if is_lost i then kept_from is_lost (i + 1) ms else m ∷ kept_from is_lost (i + 1) ms

-- which of them are lost: their places in the list, counted from 1
abbrev pub lost_from : (ℕ → Bool) → ℕ → List Outgoing → List ℤ
lost_from is_lost i [] = []
lost_from is_lost i (m ∷ ms) =
    if is_lost i then pos (i + 1) ∷ lost_from is_lost (i + 1) ms
    else lost_from is_lost (i + 1) ms

-- a call whose parameters `pattern` and `repeat` are these
abbrev pub HasPattern : List ℕ → Bool → Call → Type 0
HasPattern pattern repeat call = (value_of (codes "pattern") call.parameters ≡ Some (Text pattern))
    × (value_of (codes "repeat") call.parameters ≡ Some (Truth repeat))
