use Rattle.ini_trees.proofs.TextLaws.{value_of_text, no_value_of}
use Rattle.ini_index.proofs.index.IndexedEntries.value_for.Goals as goal

pub returns-in-Ok : goal.returns-in-Ok
returns-in-Ok c = value_of_text c.in-Ok.text.now c.args.path.now c.args.self.now _ c.matched_value.ensures c.in-Ok.ensures.cases.0 c.in-Ok.ensures.cases.1

pub returns-in-Err : goal.returns-in-Err
returns-in-Err c = no_value_of c.args.path.now c.args.self.now c.in-Err.ensures.cases.0
