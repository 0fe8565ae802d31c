use Rattle.start_order.proofs.Firsts.{catalogue_first, event_first, replies_first}
use Rattle.start_order.proofs.laws.starts_come_first.Goals as goal

pub returns : goal.returns
returns c = record { event = event_first; catalogue = catalogue_first; replies = replies_first }
