use Rattle.std.proofs.Common.{ap, ◌∙◌}
use Rattle.ned_inheritance.specs.Order.{number_named}
use Rattle.ned_inheritance.proofs.RoundLaws.{number_told}
use Rattle.ned_inheritance.proofs.named.NamedTypes.number_of.Goals as goal

pub returns : goal.returns
returns c =
    c.get_index_of.ensures.index
    ∙ number_told c.args.name.now c.self.inside.types.entries c.self.invariant
    ∙ ap (λ ts. number_named ts c.args.name.now) c.self.view_is
