use Rattle.payload_bounds.proofs.Short.{next_is_short, pending_short}
use Rattle.payload_bounds.proofs.laws.messages_are_short.Goals as goal

pub returns : goal.returns
returns c = record { pending = pending_short; next = next_is_short }
