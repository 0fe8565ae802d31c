use Rattle.std.proofs.lemmas.Bool.Decides.{Decides-at}
use Rattle.model_agreement.specs.Same.{same_answer}
use Rattle.model_agreement.proofs.Sameness.{answers_decided}
use Rattle.model_agreement.proofs.same.same_answer.Goals as goal

pub returns : goal.returns
returns c = Decides-at c.compared.result (same_answer c.args.one.now c.args.other.now) c.compared.ensures (answers_decided c.args.one.now c.args.other.now)
