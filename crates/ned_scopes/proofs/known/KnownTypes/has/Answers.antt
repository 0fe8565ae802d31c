use Rattle.std.proofs.Common.{ap, ◌∙◌}
use Rattle.std.specs.Prelude.{is_some}
use Rattle.ned_scopes.specs.Known.{is_known}
use Rattle.ned_scopes.proofs.KnownLaws.{is_there, some_of}
use Rattle.ned_scopes.proofs.known.KnownTypes.has.Goals as goal

pub returns : goal.returns
returns c =
    c.is_some.ensures
    ∙ some_of c.get.result
    ∙ ap is_some c.get.ensures.value
    ∙ is_there c.args.name.now c.self.inside.bases.entries
    ∙ ap (λ ks. is_known ks c.args.name.now) c.self.view_is
