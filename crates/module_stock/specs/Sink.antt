-- What a Sink is. It emits how long the messages are that reach it, and remembers nothing.
use Rattle.std.specs.Prelude.{ℕ, Bool, true, false, [], codes}
use Rattle.module_api.specs.declared.call.CallReason.{CallReason}
use Rattle.module_api.specs.declared.call.CallReason.TheVariants.{Initialize, Message, Finish}
use Rattle.module_parts.specs.Asking.{Asking}
use Rattle.module_parts.specs.Cues.{is_from}
use Rattle.module_parts.specs.Looking.{simply, quiet}
use Rattle.module_parts.specs.Scripts.{Script, read_nothing}
use Rattle.module_stock.specs.declared.sink.Sink.{Sink}
use Rattle.module_stock.specs.Arrivals.{received}

-- whether it hears a message, and how long that is
abbrev pub heard : Bool → ℕ → Sink → Asking Sink
heard true length s = simply (received length) s
heard false length s = quiet s

-- it hears those of its gate `in` and those from outside
abbrev pub told_by : CallReason → Sink → Asking Sink
told_by (Initialize stage) s = quiet s
told_by (Message message) s = heard (is_from (codes "in") message.origin) message.bits s
told_by Finish s = quiet s

unfoldable pub sink_script : Script Sink
sink_script = record {
  code = λ s. [];
  read = read_nothing (record {});
  initial = record {};
  asks = λ s call. told_by call.prompt s;
}
