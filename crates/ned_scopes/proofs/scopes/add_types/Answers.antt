use Rattle.std.proofs.Common.{◌≡◌, ◌+◌, List, ◌∷◌, sym, ap, ◌∙◌, drop}
use Rattle.ned_trees.specs.declared.declarations.NestedType.{NestedType, out-NestedType}
use Rattle.ned_scopes.specs.declared.known.Known.{Known}
use Rattle.ned_scopes.specs.Known.{all_behind, once_behind}
use Rattle.ned_scopes.specs.Scopes.{all_types, known_as, known_within}
use Rattle.ned_scopes.proofs.KnownLaws.{behind_both, next_one}
use Rattle.ned_scopes.proofs.scopes.add_types.Goals as goal

pub loop-nested-preserved : goal.loop-nested-preserved
loop-nested-preserved c =
    let own = out-NestedType c.nested-item.result in
    let behind = drop (c.loop-nested.nested-index + 1) c.args.types.now in
    let first : drop c.loop-nested.nested-index c.args.types.now ≡ c.nested-item.result ∷ behind =
    next_one c.args.types.now c.loop-nested.nested-index c.nested-item.result c.loop-nested-test.true c.nested-item.is in
    let one = once_behind c.loop-nested.known (known_as own.declared.name own.declared) in
    let added = c.in_ok-add.ensures ∙ ap (once_behind c.loop-nested.known) c.in_ok-known_as.ensures in
    ap (λ (ks : List Known). all_behind ks (all_types behind))
    (c.in_ok-add_within.ensures ∙ ap (λ ts. all_behind c.add.new.self (known_within own.declared.name ts)) c.as_slice.ensures ∙ ap (λ ks. all_behind ks (known_within own.declared.name own.types)) added)
    ∙ sym (behind_both one (known_within own.declared.name own.types) (all_types behind))
    ∙ ap (λ (ts : List NestedType). all_behind c.loop-nested.known (all_types ts)) (sym first)
    ∙ c.loop-nested.invariant
