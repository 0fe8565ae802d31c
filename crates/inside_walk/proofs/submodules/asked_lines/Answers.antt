use Rattle.inside_walk.proofs.OfSubmodules.{section_some}
use Rattle.inside_walk.proofs.submodules.asked_lines.Goals as goal

pub returns-else-is_whole-clause-weight : goal.returns-else-is_whole-clause-weight
returns-else-is_whole-clause-weight c = section_some c.args.declared.now.lines
