-- Words for what holds of travels.
use Rattle.std.specs.Prelude.{◌≡◌, ◌⊎◌, ℕ, ◌+◌, List, [], ◌∷◌, true, false, if◌then◌else◌}
use Rattle.model_questions.specs.declared.answer.Channel.{Channel}
use Rattle.channels.specs.Travel.{is_transmission, duration_of}

-- all delays together
abbrev pub delays : List Channel → ℕ
delays [] = 0
delays (c ∷ cs) = c.delay + delays cs

-- how long the transmissions on these channels take together
abbrev pub durations : ℕ → List Channel → ℕ
durations bits [] = 0
durations bits (c ∷ cs) =
    (if is_transmission c then duration_of bits c.datarate else 0) + durations bits cs

-- none of them is disabled
abbrev pub AllEnabled : List Channel → Type 0
AllEnabled [] = Unit {0}
AllEnabled (c ∷ cs) = (c.disabled ≡ false) × AllEnabled cs

-- one of them is disabled
abbrev pub AnyDisabled : List Channel → Type 0
AnyDisabled [] = ⊥
AnyDisabled (c ∷ cs) = (c.disabled ≡ true) ⊎ AnyDisabled cs
