use Rattle.std.proofs.Common.{[], sym, subst}
use Rattle.ned_inheritance.specs.Inheritance.{types_in}
use Rattle.ned_inheritance.specs.Order.{IsUnderWay}
use Rattle.ned_inheritance.proofs.ReadyLaws.{way_begun}
use Rattle.ned_inheritance.proofs.order.candidates.Goals as goal

pub returns : goal.returns
returns c =
    subst (IsUnderWay c.args.types.now []) (sym c.in_ok-add_references.ensures)
    (way_begun c.args.types.now (types_in c.add_numbered.new.refs.items) c.in_ok-add_numbered.ensures)
