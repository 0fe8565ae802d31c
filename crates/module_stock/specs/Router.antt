-- What a Router is. It sends each message on through the port that the first byte of the payload
-- names, without that byte, and remembers nothing.
use Rattle.std.specs.Prelude.{ℕ, nat_lt, Bool, true, false, List, [], ◌∷◌, codes, if◌then◌else◌}
use Rattle.module_api.specs.declared.call.CallReason.{CallReason}
use Rattle.module_api.specs.declared.call.CallReason.TheVariants as prompt
use Rattle.module_api.specs.declared.message.Message.{Message}
use Rattle.module_api.specs.declared.message.Outgoing.{Outgoing}
use Rattle.module_api.specs.declared.reply.Action.{Action}
use Rattle.module_api.specs.declared.reply.Action.TheVariants.{Fail}
use Rattle.module_parts.specs.Asking.{Asking}
use Rattle.module_parts.specs.Cues.{is_timer}
use Rattle.module_parts.specs.Looking.{reading, ports, acts, simply, quiet}
use Rattle.module_parts.specs.Replies.{sent}
use Rattle.module_parts.specs.Scripts.{Script, read_nothing}
use Rattle.module_stock.specs.declared.router.Router.{Router}
use Rattle.module_stock.specs.Arrivals.{received}

-- the same message, with the rest of its payload
abbrev pub stripped : Message → List ℕ → Outgoing
stripped m rest = record { kind = m.kind; priority = m.priority; bits = m.bits; payload = rest }

-- through port k, where there is one
abbrev pub passed : ℕ → ℕ → Outgoing → List Action
passed size k message = if nat_lt k size then sent (codes "port$o") k message ∷ []
    else Fail (codes "route") ∷ []

-- a message with an empty payload ends here
abbrev pub routed : Router → Message → List ℕ → Asking Router
routed r m [] = simply (received m.bits) r
routed r m (k ∷ rest) =
    reading (ports (codes "port") (λ size. acts r (passed size k (stripped m rest))))

-- a timer is no message to route
abbrev pub routed_unless : Bool → Router → Message → Asking Router
routed_unless true r m = quiet r
routed_unless false r m = routed r m m.payload

abbrev pub told_by : CallReason → Router → Asking Router
told_by (prompt.Initialize stage) r = quiet r
told_by (prompt.Message message) r = routed_unless (is_timer message.origin) r message
told_by prompt.Finish r = quiet r

unfoldable pub router_script : Script Router
router_script = record {
  code = λ r. [];
  read = read_nothing (record {});
  initial = record {};
  asks = λ r call. told_by call.prompt r;
}
