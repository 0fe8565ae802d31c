use Rattle.std.proofs.Common.{◌∙◌, ap}
use Rattle.ini_trees.proofs.MergeLaws.{tail_of_drop}
use Rattle.ini_trees.specs.Merge.{tail}
use Rattle.ini_trees.proofs.merge.Rest.advance.Goals as goal

pub returns-then-self-len : goal.returns-then-self-len
returns-then-self-len c = tail_of_drop c.self.inside.numbers c.self.inside.taken ∙ ap tail c.self.view_is
