-- A file of the system as a device.
use Rattle.std.specs.Prelude.{ℕ, List}
use Rattle.std.specs.Io.Buffered.{writer_buffer}
use Rattle.result_lines.specs.Taken.{Taken}
use Rattle.nedrun_files.specs.declared.devices.FileOut.{FileOut}

-- what it took
abbrev pub taken_by : {A B C : Type 0} → FileOut A B C → Taken
taken_by out = record { bytes = out.content.bytes; failures = out.failures }

-- what was taken and is not written yet
abbrev pub unwritten : {A B C : Type 0} → FileOut A B C → List ℕ
unwritten out = writer_buffer out.writer
