use Rattle.network_laws.proofs.Linked.{receiver_plays, sender_plays, dropper_plays, l2_queue_plays}
use Rattle.network_laws.proofs.laws.kinds_go_by_their_scripts.Goals as goal

pub returns : goal.returns
returns c = record { receiver = receiver_plays; sender = sender_plays; dropper = dropper_plays; l2_queue = l2_queue_plays }
