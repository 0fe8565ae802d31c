use Rattle.std.proofs.Common.{List, subst}
use Rattle.ned_trees.specs.declared.declarations.TypeDeclaration.{TypeDeclaration}
use Rattle.ned_inheritance.specs.Inheritance.{types_in}
use Rattle.ned_inheritance.specs.Flats.{changed_at, FlatsAlong}
use Rattle.ned_inheritance.proofs.FlatLaws.{all_changed, ok_changed}
use Rattle.ned_inheritance.proofs.flats.changed_types.Goals as goal

pub returns : goal.returns
returns c =
    ok_changed c.all_taken.result c.args.types.now (changed_at c.in_ok-flats.flats.entries c.args.types.now)
    (all_changed c.args.lines.now.entries c.in_ok-flats.flats.entries (types_in c.args.order.now) c.args.types.now
    (subst (λ (ts : List TypeDeclaration). FlatsAlong c.args.lines.now.entries c.in_ok-flats.flats.entries ts (types_in c.args.order.now)) c.requires.names c.in_ok-flats.ensures)
    c.requires.order c.requires.apart c.requires.fit c.requires.lines)
    c.all_taken.ensures
