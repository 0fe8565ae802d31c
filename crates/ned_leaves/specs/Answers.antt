-- What a reader answers where a text has a meaning.
use Rattle.std.specs.Prelude.{◌≡◌, Result, Ok, Err}
use Rattle.ned_leaves.specs.declared.error.NedError.{NedError}
use Rattle.ned_leaves.specs.declared.error.NedError.TheVariants as errors

-- this value, or lack of memory
abbrev pub Answers : {X : Type 0} → X → Result X NedError → Type 0
Answers x (Ok found) = found ≡ x
Answers x (Err (errors.NoMemory _)) = Unit {0}
Answers x (Err errors.TooLarge) = ⊥
Answers x (Err (errors.NedSyntax line)) = ⊥
