use Rattle.std.proofs.Common.{refl, lit≤}
use Rattle.module_parts.specs.Bytes.{word, long, take_word, take_long}
use Rattle.module_network.specs.Frames.{frame_bytes, frame_in}
use Rattle.module_network.specs.Sender.{sender_script}
use Rattle.network_laws.proofs.examples.a_sender_keeps_two_out.Goals as goal

pub returns : goal.returns
unfolding word long take_word take_long frame_bytes frame_in sender_script
returns c = record { told = (lit≤ tt, (lit≤ tt, (lit≤ tt, (lit≤ tt, tt)))); sent = refl; resent = refl; acked = refl }
