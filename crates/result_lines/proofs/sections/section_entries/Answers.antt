use Rattle.ini_trees.proofs.NumberedLaws.{sections_of}
use Rattle.result_lines.proofs.sections.section_entries.Goals as goal

pub add_entries-requires-clause-apart : goal.add_entries-requires-clause-apart
add_entries-requires-clause-apart c = (sections_of c.args.lines.now c.args.names.now c.requires).apart
