use Rattle.run_semantics.proofs.Agreeing.{shorter_agrees, longer_agrees}
use Rattle.run_semantics.proofs.laws.longer_runs_agree_alike.Goals as goal

pub returns : goal.returns
returns c = λ b m p q u v k l h. (shorter_agrees b m p q u v k l h, longer_agrees b m p q u v k l h)
