-- What a Switch is. It sends each frame on through the port that its table has for the destination,
-- and remembers nothing.
use Rattle.std.specs.Prelude.{ℕ, nat_lt, ◌&&◌, pos, Bool, true, false, List, [], ◌∷◌, length, get_or}
use Rattle.std.specs.Prelude.{Option, Some, None, codes, if◌then◌else◌}
use Rattle.module_api.specs.declared.call.CallReason.{CallReason}
use Rattle.module_api.specs.declared.call.CallReason.TheVariants as prompt
use Rattle.module_api.specs.declared.message.Message.{Message}
use Rattle.module_api.specs.declared.message.Outgoing.{Outgoing}
use Rattle.module_api.specs.declared.reply.Action.{Action}
use Rattle.module_api.specs.declared.reply.Action.TheVariants.{Emit}
use Rattle.module_parts.specs.Asking.{Asking}
use Rattle.module_parts.specs.Cues.{is_timer}
use Rattle.module_parts.specs.Looking.{reading, ports, acts, simply, quiet, text}
use Rattle.module_parts.specs.Replies.{sent}
use Rattle.module_parts.specs.Scripts.{Script, read_nothing}
use Rattle.module_stock.specs.Held.{kept}
use Rattle.module_network.specs.declared.frame.Frame.{Frame}
use Rattle.module_network.specs.declared.switch.Switch.{Switch}
use Rattle.module_network.specs.Frames.{frame_in, port_of}

-- the port that a table has for an address, 255 where it has none
abbrev pub port_for : List ℕ → ℕ → ℕ
port_for table address = if nat_lt address (length table) then port_of (get_or table address 0)
    else 255

-- what is done with a message that goes nowhere
abbrev pub dropped : List Action
dropped = Emit (codes "dropped") (pos 1) ∷ []

-- through port k, where there is one; 255 is none
abbrev pub forwarded : ℕ → ℕ → Outgoing → List Action
forwarded size k m = if nat_lt k size && nat_lt k 255
    then Emit (codes "forwarded") (pos k) ∷ sent (codes "port$o") k m ∷ [] else dropped

abbrev pub switched_by : Option Frame → Switch → Message → Asking Switch
switched_by None s m = simply dropped s
switched_by (Some f) s m =
    reading (text (codes "table") (λ table. ports (codes "port") (λ size.
    acts s (forwarded size (port_for table f.destination) (kept m)))))

abbrev pub switched : Switch → Message → Asking Switch
switched s m = switched_by (frame_in m.payload) s m

abbrev pub switched_unless : Bool → Switch → Message → Asking Switch
switched_unless true s m = quiet s
switched_unless false s m = switched s m

abbrev pub told_by : CallReason → Switch → Asking Switch
told_by (prompt.Initialize stage) s = quiet s
told_by (prompt.Message m) s = switched_unless (is_timer m.origin) s m
told_by prompt.Finish s = quiet s

unfoldable pub switch_script : Script Switch
switch_script = record {
  code = λ s. [];
  read = read_nothing (record {});
  initial = record {};
  asks = λ s call. told_by call.prompt s;
}
