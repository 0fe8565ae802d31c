use Rattle.network_laws.proofs.Taking.{taken_in_order, own_are_taken}
use Rattle.network_laws.proofs.laws.frames_are_taken_in_order.Goals as goal

pub returns : goal.returns
returns c = record { order = taken_in_order; own = own_are_taken }
