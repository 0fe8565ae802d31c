use Rattle.std.proofs.Common.{sym, ap, ◌∙◌}
use Rattle.std.specs.Option.{is_some, option_copied}
use Rattle.model_answers.proofs.Names.{declared_named}
use Rattle.model_answers.proofs.keyed.is_declared.Goals as goal

pub returns-in-Some : goal.returns-in-Some
returns-in-Some c = sym (ap (λ o. is_some (option_copied o)) c.in-Some.is) ∙ ap is_some c.declaration_named.ensures ∙ declared_named c.args.name.now c.args.lines.now

pub returns-in-None : goal.returns-in-None
returns-in-None c = sym (ap (λ o. is_some (option_copied o)) c.in-None.is) ∙ ap is_some c.declaration_named.ensures ∙ declared_named c.args.name.now c.args.lines.now
