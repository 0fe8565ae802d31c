use Rattle.std.proofs.Common.{ap, sym, ◌∙◌}
use Rattle.std.specs.Option.{option_copied}
use Rattle.ned_scopes.specs.Known.{base_named}
use Rattle.ned_scopes.proofs.KnownLaws.{base_there, none_there}
use Rattle.ned_scopes.proofs.known.KnownTypes.base_named.Goals as goal

pub returns-in-Some : goal.returns-in-Some
returns-in-Some c =
    c.as_ref.ensures.value
    ∙ sym (base_there c.args.name.now c.self.inside.bases.entries c.in-Some.base.now (sym c.get.ensures.value ∙ ap option_copied c.in-Some.is))
    ∙ ap (λ ks. base_named ks c.args.name.now) c.self.view_is

pub returns-in-None : goal.returns-in-None
returns-in-None c =
    sym (none_there c.args.name.now c.self.inside.bases.entries (sym c.get.ensures.value ∙ ap option_copied c.in-None.is))
    ∙ ap (λ ks. base_named ks c.args.name.now) c.self.view_is
