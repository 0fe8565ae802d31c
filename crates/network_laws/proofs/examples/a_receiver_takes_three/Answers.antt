use Rattle.std.proofs.Common.{refl}
use Rattle.module_parts.specs.Bytes.{word, long, take_word, take_long}
use Rattle.module_network.specs.Frames.{frame_bytes, frame_in}
use Rattle.module_network.specs.Receiver.{receiver_script}
use Rattle.network_laws.proofs.examples.a_receiver_takes_three.Goals as goal

pub returns : goal.returns
unfolding word long take_word take_long frame_bytes frame_in receiver_script
returns c = record { taken = refl; others = refl; waits_for = refl }
