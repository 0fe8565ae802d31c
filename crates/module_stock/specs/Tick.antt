-- What a Tick is. It counts its timers in a number n, and stops at `count`.
use Rattle.std.specs.Prelude.{ℕ, ℤ, pos, Bool, true, false, int_lt, List, [], ◌∷◌, ◌++◌, codes}
use Rattle.std.specs.Prelude.{Option, Some, None, if◌then◌else◌}
use Rattle.std.specs.Option.{option_map}
use Rattle.std.specs.Ordering.{int_eq}
use Rattle.module_api.specs.declared.reply.Action.{Action}
use Rattle.module_api.specs.declared.reply.Action.TheVariants.{Emit}
use Rattle.module_parts.specs.declared.cues.Cue.{Cue}
use Rattle.module_parts.specs.declared.cues.Cue.TheVariants as cue
use Rattle.module_parts.specs.Asking.{Asking}
use Rattle.module_parts.specs.Cues.{cue_of}
use Rattle.module_parts.specs.Looking.{Looking, reading, whole, time, priority, does, acts, quiet}
use Rattle.module_parts.specs.Numbers.{next_number, state_of, read_number}
use Rattle.module_parts.specs.Replies.{timer_set}
use Rattle.module_parts.specs.Scripts.{Script}
use Rattle.module_stock.specs.declared.tick.Tick.{Tick}

-- a timer after a gap, while n is below the count
abbrev pub scheduled : ℕ → ℤ → ℕ → ℤ → List Action
scheduled n count gap p = if int_lt (pos n) count then timer_set gap p ∷ [] else []

-- to initialization: the first timer
abbrev pub started : Tick → Asking Tick
started t =
    reading (whole (codes "count")
    (λ count. time (codes "gap") (λ gap. priority (codes "priority") (λ p.
    acts t (scheduled 0 count gap p)))))

-- the timer that is the late one reads `extra` too, whose value is emitted
abbrev pub with_extra : Bool → (Option ℤ → Looking Tick) → Looking Tick
with_extra false follows = follows None
with_extra true follows = whole (codes "extra") (λ extra. follows (Some extra))

abbrev pub extra_emitted : Option ℤ → List Action
extra_emitted None = []
extra_emitted (Some extra) = Emit (codes "extra") extra ∷ []

-- n, then the extra value where it was read, then the next timer
abbrev pub firing : ℕ → Option ℤ → ℤ → ℕ → ℤ → List Action
firing n extra count gap p =
    Emit (codes "fired") (pos n) ∷ (extra_emitted extra ++ scheduled n count gap p)

-- to timer n
abbrev pub fired : Tick → ℕ → Asking Tick
fired t n =
    reading (whole (codes "count")
    (λ count. time (codes "gap") (λ gap. priority (codes "priority") (λ p.
    whole (codes "late") (λ late. with_extra (int_eq late (pos n)) (λ extra.
    does t (firing n extra count gap p) (record { n = n })))))))

abbrev pub told_by : Cue → Tick → Asking Tick
told_by cue.Start t = started t
told_by cue.Timer t = fired t (next_number t.n)
told_by cue.Other t = quiet t

unfoldable pub tick_script : Script Tick
tick_script = record {
  code = λ t. state_of t.n;
  read = λ state. option_map (λ n. record { n = n }) (read_number state);
  initial = record { n = 0 };
  asks = λ t call. told_by (cue_of call.prompt) t;
}
