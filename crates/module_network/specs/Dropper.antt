-- What a Dropper is. It counts the messages that come, and loses those that its pattern marks.
use Rattle.std.specs.Prelude.{ℕ, ◌%◌, nat_lt, nat_eq, pos, Bool, true, false, ◌&&◌, List, [], ◌∷◌}
use Rattle.std.specs.Prelude.{length, get_or, codes, if◌then◌else◌}
use Rattle.std.specs.Option.{option_map}
use Rattle.module_api.specs.declared.call.CallReason.{CallReason}
use Rattle.module_api.specs.declared.call.CallReason.TheVariants as prompt
use Rattle.module_api.specs.declared.message.Message.{Message}
use Rattle.module_api.specs.declared.message.Outgoing.{Outgoing}
use Rattle.module_api.specs.declared.reply.Action.{Action}
use Rattle.module_api.specs.declared.reply.Action.TheVariants.{Emit}
use Rattle.module_parts.specs.Asking.{Asking}
use Rattle.module_parts.specs.Cues.{is_from}
use Rattle.module_parts.specs.Looking.{reading, truth, does, quiet, text}
use Rattle.module_parts.specs.Numbers.{next_number, state_of, read_number}
use Rattle.module_parts.specs.Replies.{sent}
use Rattle.module_parts.specs.Scripts.{Script}
use Rattle.module_stock.specs.Held.{kept}
use Rattle.module_network.specs.declared.dropper.Dropper.{Dropper}

-- whether the n-th character of a pattern, from 0 on, is an x
abbrev pub is_marked : List ℕ → ℕ → Bool
is_marked pattern n = nat_eq (get_or pattern n 0) 120

-- whether message n, from 0 on, is lost. Behind its end a pattern marks none, or begins anew
abbrev pub is_lost : List ℕ → Bool → ℕ → Bool
is_lost pattern repeat n =
    if nat_lt n (length pattern) then is_marked pattern n
    else if repeat && nat_lt 0 (length pattern) then is_marked pattern (n % length pattern)
    else false

abbrev pub passed : Bool → ℕ → Outgoing → List Action
passed true n m = Emit (codes "dropped") (pos n) ∷ []
passed false n m = sent (codes "out") 0 m ∷ []

abbrev pub heard : Dropper → Message → Asking Dropper
heard d m =
    reading (text (codes "pattern") (λ pattern. truth (codes "repeat") (λ repeat.
    does d (passed (is_lost pattern repeat d.n) (next_number d.n) (kept m))
    (record { n = next_number d.n }))))

abbrev pub heard_if : Bool → Dropper → Message → Asking Dropper
heard_if true d m = heard d m
heard_if false d m = quiet d

abbrev pub told_by : CallReason → Dropper → Asking Dropper
told_by (prompt.Initialize stage) d = quiet d
told_by (prompt.Message m) d = heard_if (is_from (codes "in") m.origin) d m
told_by prompt.Finish d = quiet d

unfoldable pub dropper_script : Script Dropper
dropper_script = record {
  code = λ d. state_of d.n;
  read = λ state. option_map (λ n. record { n = n }) (read_number state);
  initial = record { n = 0 };
  asks = λ d call. told_by call.prompt d;
}
