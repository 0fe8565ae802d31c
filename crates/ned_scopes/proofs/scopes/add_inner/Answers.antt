use Rattle.std.proofs.Common.{◌≡◌, ◌+◌, List, ◌∷◌, sym, ap, ◌∙◌, drop}
use Rattle.ned_trees.specs.declared.declarations.NestedType.{NestedType, out-NestedType}
use Rattle.ned_scopes.specs.declared.known.Known.{Known}
use Rattle.ned_scopes.specs.Known.{all_behind}
use Rattle.ned_scopes.specs.Scopes.{inner_types, known_within}
use Rattle.ned_scopes.proofs.KnownLaws.{behind_both, next_one}
use Rattle.ned_scopes.proofs.scopes.add_inner.Goals as goal

pub loop-nested-preserved : goal.loop-nested-preserved
loop-nested-preserved c =
    let own = out-NestedType c.nested-item.result in
    let behind = drop (c.loop-nested.nested-index + 1) c.args.types.now in
    let first : drop c.loop-nested.nested-index c.args.types.now ≡ c.nested-item.result ∷ behind =
    next_one c.args.types.now c.loop-nested.nested-index c.nested-item.result c.loop-nested-test.true c.nested-item.is in
    ap (λ (ks : List Known). all_behind ks (inner_types behind)) (c.in_ok-add_within.ensures ∙ ap (λ ts. all_behind c.loop-nested.known (known_within own.declared.name ts)) c.as_slice.ensures)
    ∙ sym (behind_both c.loop-nested.known (known_within own.declared.name own.types) (inner_types behind))
    ∙ ap (λ (ts : List NestedType). all_behind c.loop-nested.known (inner_types ts)) (sym first)
    ∙ c.loop-nested.invariant
