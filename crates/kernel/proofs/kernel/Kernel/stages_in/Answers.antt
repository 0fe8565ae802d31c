use Rattle.std.proofs.Common.{ap, ◌∙◌, unwrap_or}
use Rattle.kernel.specs.Kernels.{boxes_in}
use Rattle.kernel.proofs.Starting.{stages_told}
use Rattle.kernel.proofs.kernel.Kernel.stages_in.Goals as goal

pub returns : goal.returns
returns g c = c.unwrap_or.ensures ∙ (ap (λ o. unwrap_or o 0) c.stages_at.ensures ∙ stages_told g.C.Catalogue.behaviour c.args.id (boxes_in (λ b. (g.dyn-1.0.entry b.vtable).1) c.args.self.now) c.requires)
