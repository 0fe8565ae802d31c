use Rattle.std.proofs.Common.{refl, sym, ◌∙◌}
use Rattle.model_agreement.proofs.Sure.{sure_alike}
use Rattle.model_agreement.proofs.agreement.agrees.Goals as goal

-- what is known needs no asking
pub returns-then-branch : goal.returns-then-branch
returns-then-branch c = (
  (λ t. sure_alike c.args.one.now c.args.other.now c.args.known c.args.records.now c.args.question.now c.requires (sym c.in_ok-is_sure.ensures ∙ c.if-branch.true)),
  (λ e. refl),
)
