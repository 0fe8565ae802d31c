use Rattle.run_semantics.proofs.Fitting.{fits_after}
use Rattle.run_semantics.proofs.laws.what_stands_lives.Goals as goal

pub returns : goal.returns
returns c = λ b m n. (fits_after b m n).modules
