use Rattle.ini_trees.specs.Sections.{entries_along}
use Rattle.ini_trees.proofs.TextLaws.{value_of_text, no_value_of}
use Rattle.ini_trees.proofs.entries.value_for.Goals as goal

pub returns-in-Ok : goal.returns-in-Ok
returns-in-Ok c = value_of_text c.in-Ok.text.now c.args.path.now (entries_along c.args.chain.now c.args.lines.now) _ c.matched_value.ensures c.in-Ok.ensures.cases.0 c.in-Ok.ensures.cases.1

pub returns-in-Err : goal.returns-in-Err
returns-in-Err c = no_value_of c.args.path.now (entries_along c.args.chain.now c.args.lines.now) c.in-Err.ensures.cases.0
