use Rattle.std.proofs.Common.{◌≡◌, ◌++◌, drop}
use Rattle.std.specs.List.{flat_map}
use Rattle.result_lines.specs.Header.{escaped}
use Rattle.result_lines.proofs.header.push_all_escaped.Given as goal

abbrev pub invariant-loop-byte : goal.invariant-loop-byte
invariant-loop-byte l = l.header ++ flat_map escaped (drop l.byte-index l.value) ≡ l.fn.header ++ flat_map escaped l.value
