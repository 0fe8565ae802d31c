use Rattle.std.proofs.Common.{sym, ◌∙◌}
use Rattle.model_agreement.proofs.Sameness.{injections_are}
use Rattle.model_agreement.proofs.same.same_injections.Goals as goal

pub returns : goal.returns
returns c = λ e. injections_are c.args.one.now c.args.other.now (sym c.same_listed.ensures ∙ e)
