use Rattle.std.proofs.Common.{ap, ◌∙◌}
use Rattle.std.specs.Option.{option_copied}
use Rattle.ned_types.specs.Types.{type_named}
use Rattle.ned_inheritance.proofs.NamedLaws.{found}
use Rattle.ned_inheritance.proofs.named.NamedTypes.find.Goals as goal

pub returns : goal.returns
returns c =
    ap option_copied c.copied.ensures
    ∙ ap option_copied c.get.ensures.value
    ∙ found c.args.name.now c.self.inside.types.entries c.self.invariant
    ∙ ap (type_named c.args.name.now) c.self.view_is
