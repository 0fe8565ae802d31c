-- What a device took.
use Rattle.std.specs.Prelude.{ℕ, List, []}

-- what a device took: its bytes, and how many of its writes failed, or took none of some bytes
pub record Taken : Type 0 where
  pub bytes : List ℕ
  pub failures : ℕ

-- a device that took nothing yet, and never failed
abbrev pub untouched : Taken
untouched = record { bytes = []; failures = 0 }
