use Rattle.std.proofs.Common.{List, Bor, [], ◌∷◌, ◌++◌, append-nil, refl, sym, subst, ap, ◌∙◌}
use Rattle.ned_trees.specs.declared.declarations.TypeDeclaration.{TypeDeclaration}
use Rattle.ned_inheritance.specs.Flats.{FlatsAlong}
use Rattle.ned_inheritance.specs.Inheritance.{types_in}
use Rattle.ned_inheritance.proofs.FlatLaws.{flats_more, flats_none}
use Rattle.ned_inheritance.proofs.LineLaws.{done_moved}
use Rattle.ned_inheritance.proofs.OrderLaws.{no_rest}
use Rattle.ned_inheritance.proofs.flats.add_flats.Goals as goal

pub loop-rest-init : goal.loop-rest-init
loop-rest-init c = ([], flats_none _ _ _ c.requires, refl)

pub loop-rest-preserved : goal.loop-rest-preserved
loop-rest-preserved c =
    let done = c.loop-rest.invariant.0 in (
      done ++ c.declared-item.result.now ∷ [],
      flats_more c.args.lines.now.entries c.loop-rest.flats.entries _ c.args.named.now done c.declared-item.result.now c.loop-rest.invariant.1 c.in_ok-add_flat.ensures,
      done_moved c.loop-rest.rest.now c.declared-item.result _ done _ c.in-len1-up.len_at_least c.declared-item.is c.loop-rest.invariant.2,
    )

pub returns : goal.returns
returns c =
    let done = c.loop-rest.invariant.0 in
    subst (FlatsAlong c.args.lines.now.entries c.loop-rest.flats.entries c.args.named.now)
    (sym (append-nil done) ∙ sym (ap (λ (rs : List (Bor TypeDeclaration)). done ++ types_in rs) (no_rest c.loop-rest.rest.now c.in_default.len_below)) ∙ c.loop-rest.invariant.2)
    c.loop-rest.invariant.1
