-- What a Generator is. It counts its frames in a number n, and stops at `count`.
use Rattle.std.specs.Prelude.{ℕ, ℤ, pos, min, ◌-◌, int_lt, List, [], ◌∷◌, ◌++◌, map, codes}
use Rattle.std.specs.Prelude.{if◌then◌else◌}
use Rattle.std.specs.Option.{option_map}
use Rattle.module_api.specs.declared.message.Outgoing.{Outgoing}
use Rattle.module_api.specs.declared.reply.Action.{Action}
use Rattle.module_api.specs.declared.reply.Action.TheVariants.{Emit}
use Rattle.module_parts.specs.declared.cues.Cue.{Cue}
use Rattle.module_parts.specs.declared.cues.Cue.TheVariants as cue
use Rattle.module_parts.specs.Asking.{Asking}
use Rattle.module_parts.specs.Cues.{cue_of}
use Rattle.module_parts.specs.Looking.{reading, whole, bits, time, does, acts, quiet, short_number}
use Rattle.module_parts.specs.Looking.{text}
use Rattle.module_parts.specs.Numbers.{limit, next_number, state_of, read_number}
use Rattle.module_parts.specs.Replies.{timer_set, sent}
use Rattle.module_parts.specs.Scripts.{Script}
use Rattle.module_network.specs.declared.frame.Frame.{Frame}
use Rattle.module_network.specs.declared.generator.Generator.{Generator}
use Rattle.module_network.specs.Frames.{frame_bytes, framed, port_of}

-- a timer after a time, while n is below the count
abbrev pub next_timer : ℕ → ℤ → ℕ → List Action
next_timer n count wait = if int_lt (pos n) count then timer_set wait (pos 0) ∷ [] else []

-- to initialization: the first timer
abbrev pub begun : Generator → Asking Generator
begun g = reading (whole (codes "count")
    (λ count. time (codes "start") (λ start. acts g (next_timer 0 count start))))

-- the ports of a route
abbrev pub steps : List ℕ → List ℕ
steps route = map port_of route

-- the ports of a route, and then the frame
abbrev pub frame_payload : List ℕ → Frame → List ℕ
frame_payload route f = steps route ++ frame_bytes f

abbrev pub message : ℕ → List ℕ → Outgoing
message length payload = record { kind = pos 0; priority = pos 0; bits = length; payload = payload }

abbrev pub frame_sent : ℕ → List ℕ → Frame → List Action
frame_sent length route f =
    Emit (codes "sent") (pos (min f.number (limit - 1)))
    ∷ sent (codes "out") 0 (message length (frame_payload route f)) ∷ []

-- to a timer: frame n, then the next timer
abbrev pub emitted : Generator → ℕ → Asking Generator
emitted g now =
    reading (whole (codes "count") (λ count. bits (codes "bits") (λ length.
    time (codes "gap") (λ gap. short_number (codes "address") (λ source.
    short_number (codes "destAddress") (λ destination. text (codes "route") (λ route.
    does g (frame_sent length route (framed destination source now g.n)
    ++ next_timer (next_number g.n) count gap) (record { n = next_number g.n }))))))))

abbrev pub told_by : Cue → Generator → ℕ → Asking Generator
told_by cue.Start g now = begun g
told_by cue.Timer g now = emitted g now
told_by cue.Other g now = quiet g

unfoldable pub generator_script : Script Generator
generator_script = record {
  code = λ g. state_of g.n;
  read = λ state. option_map (λ n. record { n = n }) (read_number state);
  initial = record { n = 0 };
  asks = λ g call. told_by (cue_of call.prompt) g call.time;
}
