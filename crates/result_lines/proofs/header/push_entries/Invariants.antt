use Rattle.std.proofs.Common.{◌≡◌, ◌++◌, drop}
use Rattle.ini_trees.specs.Sections.{entries_along}
use Rattle.result_lines.specs.Header.{config_lines}
use Rattle.result_lines.proofs.header.push_entries.Given as goal

abbrev pub invariant-loop-name : goal.invariant-loop-name
invariant-loop-name l =
    l.header ++ config_lines (entries_along (drop l.name-index l.chain) l.lines)
    ≡ l.fn.header ++ config_lines (entries_along l.chain l.lines)
