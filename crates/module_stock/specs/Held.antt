-- HELD MESSAGES as bytes: from the front, each as kind (2 bytes), priority (2), bits (8), length of
-- the payload (2) and payload.
use Rattle.std.specs.Prelude.{ℕ, zero, suc, ◌<◌, ◌^◌, nat_le, nat_lt, ℤ, pos, negsuc, int_le, Bool}
use Rattle.std.specs.Prelude.{◌&&◌, List, [], ◌∷◌, ◌++◌, length, take, drop, Option, Some, None}
use Rattle.std.specs.Prelude.{if◌then◌else◌}
use Rattle.std.specs.Int.{w16}
use Rattle.std.specs.Int.RustNames.{FitsSigned}
use Rattle.std.specs.List.{flat_map}
use Rattle.std.specs.Option.{option_and_then, option_map}
use Rattle.module_api.specs.declared.message.Message.{Message}
use Rattle.module_api.specs.declared.message.Outgoing.{Outgoing}
use Rattle.module_api.specs.Behaviour.{State}
use Rattle.module_stock.specs.declared.held.Header.{Header}
use Rattle.module_parts.specs.Bytes.{word, long, take_word, take_long, without_sign, with_sign}

-- a message that these bytes can tell: its numbers have those sizes, and its payload at most 65,535
-- bytes
pub record Fits (m : Outgoing) : Type 0 where
  pub kind : FitsSigned w16 m.kind
  pub priority : FitsSigned w16 m.priority
  pub bits : m.bits < 2 ^ 64
  pub payload : length m.payload < 2 ^ 16

-- whether a message, as a module is handed it, is one that these bytes can tell; those of a run
-- are, since their numbers have these sizes, and their payloads at most 4,096 bytes
abbrev pub has_sign : ℤ → Bool
has_sign z = int_le (negsuc 32767) z && int_le z (pos 32767)

abbrev pub can_be_held : Message → Bool
can_be_held m = (has_sign m.kind && has_sign m.priority)
    && (nat_lt m.bits (2 ^ 64) && nat_lt (length m.payload) (2 ^ 16))

-- a message as it is held
abbrev pub kept : Message → Outgoing
kept m = record { kind = m.kind; priority = m.priority; bits = m.bits; payload = m.payload }

abbrev pub AllFit : List Outgoing → Type 0
AllFit [] = Unit {0}
AllFit (m ∷ ms) = Fits m × AllFit ms

-- what stands before the payload
abbrev pub header_of : Outgoing → Header
header_of m = record {
  kind = without_sign m.kind;
  priority = without_sign m.priority;
  bits = m.bits;
  size = length m.payload;
}

unfoldable pub header_bytes : Header → List ℕ
header_bytes h = word h.kind ++ (word h.priority ++ (long h.bits ++ word h.size))

unfoldable pub message_bytes : Outgoing → List ℕ
message_bytes m = header_bytes (header_of m) ++ m.payload

unfoldable pub bytes_of : List Outgoing → State
bytes_of ms = flat_map message_bytes ms

-- the header at the front of these bytes, and what is after it
abbrev pub headed : ℕ → ℕ → ℕ → ℕ × List ℕ → Header × List ℕ
headed kind priority length_in_bits size =
    (record { kind = kind; priority = priority; bits = length_in_bits; size = size.0 }, size.1)

unfoldable pub header_in : State → Option (Header × List ℕ)
header_in state =
    option_and_then
    (λ kind. option_and_then
    (λ priority. option_and_then
    (λ length_in_bits. option_map
    (λ size. headed kind.0 priority.0 length_in_bits.0 size)
    (take_word length_in_bits.1))
    (take_long priority.1))
    (take_word kind.1))
    (take_word state)

-- a message with such a header, and as many of these bytes as it says
abbrev pub with_payload : Header × List ℕ → Option (Outgoing × List ℕ)
with_payload p =
    if nat_le p.0.size (length p.1) then
    Some (
      record {
        kind = with_sign p.0.kind;
        priority = with_sign p.0.priority;
        bits = p.0.bits;
        payload = take p.0.size p.1;
      },
      drop p.0.size p.1,
    )
    else None

-- the message at the front of these bytes, and what is after it
unfoldable pub front_of : State → Option (Outgoing × List ℕ)
front_of state = option_and_then with_payload (header_in state)

-- the messages that these bytes are, of which there are at most so many; none where the bytes are
-- not just some messages
abbrev pub behind_front : (State → Option (List Outgoing)) → Option (Outgoing × List ℕ)
    → Option (List Outgoing)
behind_front messages None = None
behind_front messages (Some p) = option_map (λ ms. p.0 ∷ ms) (messages p.1)

abbrev pub messages_by : (State → Option (List Outgoing)) → State → Option (List Outgoing)
messages_by messages [] = Some []
messages_by messages (b ∷ bs) = behind_front messages (front_of (b ∷ bs))

abbrev pub messages_in : ℕ → State → Option (List Outgoing)
messages_in zero state = messages_by (λ rest. None) state
messages_in (suc most) state = messages_by (messages_in most) state

-- each message has a byte at least
unfoldable pub read_held : State → Option (List Outgoing)
read_held state = messages_in (length state) state
