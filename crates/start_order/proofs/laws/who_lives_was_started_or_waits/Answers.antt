use Rattle.start_order.proofs.Firsts.{all_wait}
use Rattle.start_order.proofs.laws.who_lives_was_started_or_waits.Goals as goal

pub returns : goal.returns
returns c = all_wait
