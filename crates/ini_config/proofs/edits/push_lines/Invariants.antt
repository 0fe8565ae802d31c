use Rattle.std.proofs.Common.{◌≡◌, ◌++◌, drop}
use Rattle.ini_config.specs.Edits.{bytes_of, texts_of}
use Rattle.ini_config.proofs.edits.push_lines.Given as goal

abbrev pub invariant-loop-line : goal.invariant-loop-line
invariant-loop-line l = l.bytes.items ++ bytes_of (texts_of (drop l.line-index l.lines)) ≡ l.initial.bytes.items ++ bytes_of (texts_of l.lines)
