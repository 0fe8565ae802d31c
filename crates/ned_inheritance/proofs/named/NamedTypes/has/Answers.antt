use Rattle.std.proofs.Common.{ap, ◌∙◌}
use Rattle.std.specs.Prelude.{is_some}
use Rattle.ned_inheritance.proofs.NamedLaws.{some_of, is_found}
use Rattle.ned_inheritance.proofs.named.NamedTypes.has.Goals as goal

pub returns : goal.returns
returns c = c.is_some.ensures ∙ some_of c.find.result ∙ ap is_some c.find.ensures ∙ is_found c.args.name.now c.args.self.now
