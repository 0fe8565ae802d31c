use Rattle.run_semantics.proofs.Grown.{lived_before}
use Rattle.run_semantics.proofs.laws.nobody_lives_again.Goals as goal

pub returns : goal.returns
returns c = lived_before
