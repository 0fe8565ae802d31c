use Rattle.std.proofs.Common.{List, Bor, sym, subst, ap, ◌∙◌}
use Rattle.std.specs.Option.{option_copied}
use Rattle.ned_trees.specs.declared.declarations.TypeDeclaration.{TypeDeclaration}
use Rattle.ned_inheritance.specs.Inheritance.{types_in}
use Rattle.ned_inheritance.specs.Order.{AreAmong}
use Rattle.ned_inheritance.proofs.ReadyLaws.{among_more}
use Rattle.ned_inheritance.proofs.order.add_at.Goals as goal

pub returns-in_ok-push-in-Some : goal.returns-in_ok-push-in-Some
returns-in_ok-push-in-Some c =
    subst (λ (rs : List (Bor TypeDeclaration)). AreAmong (types_in rs) c.args.types.now) (sym c.in_ok-push-in-Some.ensures.items)
    (among_more c.args.refs.now.items c.in-Some.declared c.args.types.now c.args.number c.requires (sym c.at.ensures ∙ ap option_copied c.in-Some.is))
