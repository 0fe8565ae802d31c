use Rattle.std.proofs.Common.{List, Bor, [], ◌∷◌, ◌++◌, append-nil, refl, sym, subst, ap, ◌∙◌}
use Rattle.ned_trees.specs.declared.declarations.TypeDeclaration.{TypeDeclaration}
use Rattle.ned_inheritance.specs.Inheritance.{types_in}
use Rattle.ned_inheritance.specs.Named.{LinesAlong}
use Rattle.ned_inheritance.proofs.LineLaws.{along_interface, along_none, along_other, done_moved}
use Rattle.ned_inheritance.proofs.OrderLaws.{no_rest}
use Rattle.ned_inheritance.proofs.lines.add_interfaces.Goals as goal

pub loop-rest-init : goal.loop-rest-init
loop-rest-init c = ([], along_none _ c.requires, refl)

pub loop-rest-preserved-in_ok-add_interface : goal.loop-rest-preserved-in_ok-add_interface
loop-rest-preserved-in_ok-add_interface c =
    let done = c.loop-rest.invariant.0 in (
      done ++ c.declared-item.result.now ∷ [],
      along_interface c.loop-rest.lines.entries _ done c.declared-item.result.now c.loop-rest.invariant.1 (sym c.is_interface_kind.ensures ∙ c.if-is_interface_kind.true) c.in_ok-add_interface.ensures,
      done_moved c.loop-rest.rest.now c.declared-item.result _ done _ c.in-len1-up.len_at_least c.declared-item.is c.loop-rest.invariant.2,
    )

pub loop-rest-preserved : goal.loop-rest-preserved
loop-rest-preserved c =
    let done = c.loop-rest.invariant.0 in (
      done ++ c.declared-item.result.now ∷ [],
      along_other c.loop-rest.lines.entries done c.declared-item.result.now c.loop-rest.invariant.1 (sym c.is_interface_kind.ensures ∙ c.if-is_interface_kind.false),
      done_moved c.loop-rest.rest.now c.declared-item.result _ done _ c.in-len1-up.len_at_least c.declared-item.is c.loop-rest.invariant.2,
    )

pub returns : goal.returns
returns c =
    let done = c.loop-rest.invariant.0 in
    subst (LinesAlong c.loop-rest.lines.entries)
    (sym (append-nil done) ∙ sym (ap (λ (rs : List (Bor TypeDeclaration)). done ++ types_in rs) (no_rest c.loop-rest.rest.now c.in_default.len_below)) ∙ c.loop-rest.invariant.2)
    c.loop-rest.invariant.1
