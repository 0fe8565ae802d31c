-- What a Source is. It counts its messages in a number n, and stops at `count`.
use Rattle.std.specs.Prelude.{ℕ, ℤ, pos, int_lt, List, [], ◌∷◌, codes, if◌then◌else◌}
use Rattle.std.specs.Option.{option_map}
use Rattle.module_api.specs.declared.message.Outgoing.{Outgoing}
use Rattle.module_api.specs.declared.reply.Action.{Action}
use Rattle.module_parts.specs.declared.cues.Cue.{Cue}
use Rattle.module_parts.specs.declared.cues.Cue.TheVariants as cue
use Rattle.module_parts.specs.Asking.{Asking}
use Rattle.module_parts.specs.Cues.{cue_of}
use Rattle.module_parts.specs.Looking.{reading, whole, bits, time, does, acts, quiet}
use Rattle.module_parts.specs.Numbers.{next_number, state_of, read_number}
use Rattle.module_parts.specs.Replies.{timer_set, sent}
use Rattle.module_parts.specs.Scripts.{Script}
use Rattle.module_stock.specs.declared.source.Source.{Source}

-- a timer after a time, while n is below the count
abbrev pub next_timer : ℕ → ℤ → ℕ → List Action
next_timer n count wait = if int_lt (pos n) count then timer_set wait (pos 0) ∷ [] else []

-- to initialization: the first timer
abbrev pub begun : Source → Asking Source
begun s = reading (whole (codes "count")
    (λ count. time (codes "start") (λ start. acts s (next_timer 0 count start))))

abbrev pub message : ℕ → Outgoing
message length = record { kind = pos 0; priority = pos 0; bits = length; payload = [] }

-- to timer n: a message, then the next timer
abbrev pub emitted : Source → ℕ → Asking Source
emitted s n =
    reading (whole (codes "count")
    (λ count. bits (codes "bits") (λ length. time (codes "gap") (λ gap.
    does s (sent (codes "out") 0 (message length) ∷ next_timer n count gap) (record { n = n })))))

abbrev pub told_by : Cue → Source → Asking Source
told_by cue.Start s = begun s
told_by cue.Timer s = emitted s (next_number s.n)
told_by cue.Other s = quiet s

unfoldable pub source_script : Script Source
source_script = record {
  code = λ s. state_of s.n;
  read = λ state. option_map (λ n. record { n = n }) (read_number state);
  initial = record { n = 0 };
  asks = λ s call. told_by (cue_of call.prompt) s;
}
