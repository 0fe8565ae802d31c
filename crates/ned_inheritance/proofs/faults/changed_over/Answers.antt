use Rattle.std.proofs.Common.{List, Bor, subst}
use Rattle.ned_trees.specs.declared.declarations.TypeDeclaration.{TypeDeclaration}
use Rattle.ned_inheritance.specs.Inheritance.{types_in}
use Rattle.ned_inheritance.specs.Named.{LinesAlong}
use Rattle.ned_inheritance.proofs.FlatLaws.{no_other}
use Rattle.ned_inheritance.proofs.LineLaws.{lines_fit}
use Rattle.ned_inheritance.proofs.faults.changed_over.Goals as goal

pub changed_types-requires-clause-lines : goal.changed_types-requires-clause-lines
changed_types-requires-clause-lines c =
    lines_fit c.in_ok-lines.lines.entries (types_in c.args.order.items) c.args.types.now
    (subst (λ (rs : List (Bor TypeDeclaration)). LinesAlong c.in_ok-lines.lines.entries (types_in rs)) c.deref.ensures.value c.in_ok-lines.ensures)
    c.requires.order
    c.requires.apart

pub changed_types-requires-clause-fit : goal.changed_types-requires-clause-fit
changed_types-requires-clause-fit c = no_other c.args.types.now c.requires.fit
