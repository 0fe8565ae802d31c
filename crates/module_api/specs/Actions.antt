-- What may be sent.
use Rattle.std.specs.Prelude.{nat_lt, Bool, false, length}
use Rattle.module_api.specs.declared.message.Outgoing.{Outgoing}
use Rattle.module_api.specs.declared.reply.Action.{Action}
use Rattle.module_api.specs.declared.reply.Action.TheVariants.{Send, SendDelayed, SendDirect}

abbrev pub is_large : Outgoing → Bool
is_large message = nat_lt 4096 (length message.payload)

-- whether an action sends a message with a payload of more than 4,096 bytes
abbrev pub has_large_payload : Action → Bool
has_large_payload (Send gate message) = is_large message
has_large_payload (SendDelayed gate message delay) = is_large message
has_large_payload (SendDirect place message flight) = is_large message
has_large_payload _ = false
