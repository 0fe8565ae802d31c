use Rattle.std.proofs.Common.{◌≡◌, ◌++◌, length}
use Rattle.result_lines.specs.Header.{config_lines}
use Rattle.result_lines.specs.Sections.{entries_in}
use Rattle.result_lines.proofs.header.push_listed.Given as goal

abbrev pub invariant-loop-rest : goal.invariant-loop-rest
invariant-loop-rest l = l.header ++ config_lines (entries_in l.rest) ≡ l.fn.header ++ config_lines (entries_in l.entries)

abbrev pub decreases-loop-rest : goal.decreases-loop-rest
decreases-loop-rest l = length l.rest
