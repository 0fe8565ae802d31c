use Rattle.ini_trees.proofs.NumberedLaws.{sections_of}
use Rattle.ini_index.proofs.along.Sections.new.Goals as goal

pub add_lines-requires-clause-apart : goal.add_lines-requires-clause-apart
add_lines-requires-clause-apart c = (sections_of c.args.lines.now c.in_ok-names.names c.in_ok-names.ensures).apart
