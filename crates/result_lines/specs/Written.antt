-- What of a text was written.
use Rattle.std.specs.Prelude.{◌≡◌, ℕ, ◌+◌, ◌<◌, List, ◌++◌, Result, Ok, Err, length, take}
use Rattle.result_lines.specs.declared.writer.Device.{Device}
use Rattle.result_lines.specs.declared.progress.WriteProgress.{WriteProgress}
use Rattle.result_lines.specs.declared.progress.WriteProgress.TheVariants.{Whole, Short}
use Rattle.sim_values.specs.Counts.{next_count}
use Rattle.result_lines.specs.Taken.{Taken}

-- What a call that writes a text may answer, by what the device had taken before it and has taken
-- after it: all of the text was written, and the device did not fail; or the device failed once,
-- and took as many of the text's first bytes as the answer says, and not all of them.
abbrev pub IsWritten : Taken → Taken → List ℕ → Result Unit Device → Type 0
IsWritten before after text (Ok _) =
    (after.bytes ≡ before.bytes ++ text) × (after.failures ≡ before.failures)
IsWritten before after text (Err device) =
    (device.written < length text) × (after.bytes ≡ before.bytes ++ take device.written text)
    × (after.failures ≡ next_count before.failures)

-- what a call answers that has written a text so far
abbrev pub answer_of : WriteProgress → Result Unit Device
answer_of (Whole n) = Ok tt
answer_of (Short n) = Err (record { written = n })

abbrev pub written_in : WriteProgress → ℕ
written_in (Whole n) = n
written_in (Short n) = n

-- A piece of a text is written: all of it, or the device failed once and took some of its first
-- bytes, and not all. After a failure no more is written.
abbrev pub IsPiece : WriteProgress → Taken → WriteProgress → Taken → List ℕ → Type 0
IsPiece (Whole n) before (Whole m) after piece =
    (m ≡ n + length piece) × (after.bytes ≡ before.bytes ++ piece)
    × (after.failures ≡ before.failures)
IsPiece (Whole n) before (Short m) after piece =
    (k : ℕ) × (k < length piece) × (m ≡ n + k) × (after.bytes ≡ before.bytes ++ take k piece)
    × (after.failures ≡ next_count before.failures)
IsPiece (Short n) before (Whole m) after piece = ⊥
IsPiece (Short n) before (Short m) after piece =
    (m ≡ n) × (after.bytes ≡ before.bytes) × (after.failures ≡ before.failures)

pub record Adds (progress : WriteProgress) (before : Taken) (further : WriteProgress)
    (after : Taken) (piece : List ℕ) : Type 0 where
  pub adds : IsPiece progress before further after piece
