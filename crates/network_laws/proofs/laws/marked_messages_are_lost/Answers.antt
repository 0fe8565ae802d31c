use Rattle.network_laws.proofs.Losing.{lost_by_pattern, numbers_by_pattern}
use Rattle.network_laws.proofs.laws.marked_messages_are_lost.Goals as goal

pub returns : goal.returns
returns c = record { sent = lost_by_pattern; lost = numbers_by_pattern }
