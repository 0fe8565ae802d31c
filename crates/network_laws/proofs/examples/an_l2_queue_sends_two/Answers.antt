use Rattle.std.proofs.Common.{refl, sym, lit≤, true≢false}
use Rattle.module_parts.specs.Bytes.{word, long, take_word, take_long}
use Rattle.module_network.specs.Frames.{frame_bytes, frame_in}
use Rattle.module_network.specs.L2Queue.{l2_queue_script}
use Rattle.network_laws.proofs.examples.an_l2_queue_sends_two.Goals as goal

pub returns : goal.returns
unfolding word long take_word take_long frame_bytes frame_in l2_queue_script
returns c = record {
  told = (refl, (refl, (refl, (refl, tt))));
  in_time = (
    record { later = lit≤ tt; on_time = λ e. absurd (true≢false (sym e)); transmitted = tt },
    (
      record { later = lit≤ tt; on_time = λ e. absurd (true≢false (sym e)); transmitted = lit≤ tt },
      (
        record { later = lit≤ tt; on_time = λ e. refl; transmitted = lit≤ tt },
        (record { later = lit≤ tt; on_time = λ e. refl; transmitted = lit≤ tt }, tt),
      ),
    ),
  );
  busy = refl;
  line = refl;
}
