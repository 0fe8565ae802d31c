-- What a Pulse is. At the time `wait` it emits `pulse`, once, and is quiet from then on.
use Rattle.std.specs.Prelude.{pos, Bool, true, false, [], ◌∷◌, codes, Option, Some, None}
use Rattle.std.specs.Prelude.{if◌then◌else◌}
use Rattle.std.specs.Str.{bytes_eq}
use Rattle.module_api.specs.declared.reply.Action.TheVariants.{Emit}
use Rattle.module_api.specs.Behaviour.{State}
use Rattle.module_parts.specs.declared.cues.Cue.{Cue}
use Rattle.module_parts.specs.declared.cues.Cue.TheVariants as cue
use Rattle.module_parts.specs.Asking.{Asking}
use Rattle.module_parts.specs.Cues.{cue_of}
use Rattle.module_parts.specs.Looking.{reading, time, acts, simply, quiet}
use Rattle.module_parts.specs.Replies.{timer_set}
use Rattle.module_parts.specs.Scripts.{Script}
use Rattle.module_examples.specs.declared.pulse.Pulse.{Pulse}

-- to initialization: its timer
abbrev pub begun : Pulse → Asking Pulse
begun p = reading (time (codes "wait") (λ wait. acts p (timer_set wait (pos 0) ∷ [])))

-- to a timer: it emits, if it has not
abbrev pub pulsed : Bool → Pulse → Asking Pulse
pulsed true p = quiet p
pulsed false p = simply (Emit (codes "pulse") (pos 1) ∷ []) (record { has_pulsed = true })

abbrev pub told_by : Cue → Pulse → Asking Pulse
told_by cue.Start p = begun p
told_by cue.Timer p = pulsed p.has_pulsed p
told_by cue.Other p = quiet p

-- one byte: whether it has
abbrev pub byte_of : Bool → State
byte_of false = 0 ∷ []
byte_of true = 1 ∷ []

abbrev pub read_byte : State → Option Pulse
read_byte state =
    if bytes_eq state (0 ∷ []) then Some (record { has_pulsed = false })
    else if bytes_eq state (1 ∷ []) then Some (record { has_pulsed = true })
    else None

unfoldable pub pulse_script : Script Pulse
pulse_script = record {
  code = λ p. byte_of p.has_pulsed;
  read = read_byte;
  initial = record { has_pulsed = false };
  asks = λ p call. told_by (cue_of call.prompt) p;
}
