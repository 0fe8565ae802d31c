use Rattle.std.proofs.Common.{sym, ap, ◌∙◌}
use Rattle.kernel_actions.specs.Lookups.{was_told}
use Rattle.kernel.proofs.Lookups.{told_has_none}
use Rattle.kernel.proofs.from_model.fault_at.Goals as goal

pub returns-then-was_told : goal.returns-then-was_told
returns-then-was_told g c =
    sym (told_has_none g.A.Answers.answers c.args.core.now.records c.args.call.now.id c.args.read.now (ap (λ ps. was_told ps c.args.read.now) (sym c.requires ∙ sym c.as_slice.ensures) ∙ sym c.was_told.ensures ∙ c.if-was_told.true))
