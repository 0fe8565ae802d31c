use Rattle.std.proofs.Common.{◌≡◌, ◌+◌, List, ◌∷◌, sym, ap, ◌∙◌, drop}
use Rattle.ned_trees.specs.declared.declarations.NestedType.{NestedType}
use Rattle.ned_scopes.specs.declared.known.Known.{Known}
use Rattle.ned_scopes.specs.Known.{all_behind}
use Rattle.ned_scopes.specs.Scopes.{known_from, known_within}
use Rattle.ned_scopes.proofs.KnownLaws.{behind_both, next_one}
use Rattle.ned_scopes.proofs.scopes.+known.Goals as goal

pub add_within-loop-nested-preserved : goal.add_within-loop-nested-preserved
add_within-loop-nested-preserved t c =
    let outer = c.args.outer.now in
    let behind = drop (c.loop-nested.nested-index + 1) c.args.types.now in
    let first : drop c.loop-nested.nested-index c.args.types.now ≡ c.nested-item.result ∷ behind =
    next_one c.args.types.now c.loop-nested.nested-index c.nested-item.result c.loop-nested-test.true c.nested-item.is in
    ap (λ (ks : List Known). all_behind ks (known_within outer behind)) c.in_ok-add_from.ensures
    ∙ sym (behind_both c.loop-nested.known (known_from c.nested-item.result outer) (known_within outer behind))
    ∙ ap (λ (ts : List NestedType). all_behind c.loop-nested.known (known_within outer ts)) (sym first)
    ∙ c.loop-nested.invariant
