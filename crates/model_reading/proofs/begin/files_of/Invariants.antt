use Rattle.std.proofs.Common.{take}
use Rattle.model_reading.specs.Models.{AreNedFiles}
use Rattle.model_reading.proofs.begin.files_of.Given as goal

abbrev pub invariant-loop-number : goal.invariant-loop-number
invariant-loop-number l = AreNedFiles (take l.number l.text-items) l.files
