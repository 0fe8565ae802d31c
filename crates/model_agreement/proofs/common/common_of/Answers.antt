use Rattle.model_agreement.proofs.Modules.{same_answers}
use Rattle.model_agreement.proofs.common.common_of.Goals as goal

pub returns : goal.returns
returns c = record {
  modules_are = λ e rs q is. same_answers c.args.one.now c.args.other.now (c.requires e) rs q is;
  limit_is = c.common_times-times.ensures.limit_is;
  injections_are = c.common_times-times.ensures.injections_are;
}
