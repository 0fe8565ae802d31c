use Rattle.std.proofs.Common.{sym, ◌∙◌}
use Rattle.model_agreement.proofs.Sameness.{names_are}
use Rattle.model_agreement.proofs.same.same_names.Goals as goal

pub returns : goal.returns
returns c = λ e. names_are c.args.one.now c.args.other.now (sym c.same_names_listed.ensures ∙ e)
