use Rattle.model_agreement.proofs.Sameness.{lengths_differ}
use Rattle.model_agreement.proofs.same.same_inside.Goals as goal

pub returns-then-one-other : goal.returns-then-one-other
returns-then-one-other c = lengths_differ c.args.one.now c.args.other.now (λ e. c.if-one-other.true e)
