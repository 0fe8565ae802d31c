use Rattle.std.proofs.Common.{◌≡◌, ◌≤◌, ◌<◌, ◌+◌, ◌++◌, ◌∙◌, min, suc, drop, length, ap, arith}
use Rattle.run_semantics.specs.Subtree.{ids_from}
use Rattle.run_semantics.specs.World.{World}
use Rattle.kernel_actions.proofs.Unstarted.{found_all, found_with, found_without, left_begins, left_of}
use Rattle.kernel_actions.proofs.core_part.Core.starting.Goals as goal
use Rattle.kernel_actions.proofs.core_part.Core.starting.Goals.{then-is_unstarted+in_ok-push, else-is_unstarted}

pub loop-index-init : goal.loop-index-init
loop-index-init c =
    let w = c.args.self.now in
    let k = c.saturating_sub-index.result in
    ap (λ xs. xs ++ left_of c.args.first c.args.last w.dead w.started (ids_from (suc k) (drop k w.records))) c.new-found.ensures
    ∙ left_begins c.args.first c.args.last w.dead w.started k w.records c.saturating_sub-index.ensures

pub loop-index-preserved : goal.loop-index-preserved
loop-index-preserved c =
    let w = c.args.self.now in
    let i = c.loop-index.index in
    let many : length c.self.inside.modules.records ≡ length w.records = ap (λ (v : World). length v.records) c.self.view_is in
    let less : i < length w.records = omega (arith, many, c.len.ensures, c.min-end.ensures, c.loop-index-test.true) in
    let low : c.args.first ≤ i + 1 = omega (arith, c.saturating_sub-index.ensures, c.loop-index.auto.index) in
    let high : i + 1 ≤ c.args.last = omega (arith, c.min-end.ensures, c.loop-index-test.true) in
    elim c.if-is_unstarted.branch [
      | then-is_unstarted+in_ok-push w' ↦ found_with c.args.first c.args.last w.dead w.started i w.records c.is_unstarted.result c.loop-index.found c.if-is_unstarted.found _ less low high c.is_unstarted.ensures w'.if-is_unstarted.true (w'.found-is ∙ w'.in_ok-push.ensures.ok) c.loop-index.invariant
      | else-is_unstarted w' ↦ found_without c.args.first c.args.last w.dead w.started i w.records c.is_unstarted.result c.loop-index.found c.if-is_unstarted.found _ less c.is_unstarted.ensures w'.if-is_unstarted.false w'.found-is c.loop-index.invariant
    ]

pub returns : goal.returns
returns c =
    let w = c.args.self.now in
    let i = c.loop-index.index in
    let many : length c.self.inside.modules.records ≡ length w.records = ap (λ (v : World). length v.records) c.self.view_is in
    let past : min (length w.records) c.args.last ≤ i = omega (arith, many, c.len.ensures, c.min-end.ensures, c.loop-index-test.false) in
    found_all c.args.first c.args.last w.dead w.started i w.records c.loop-index.found _ past c.loop-index.invariant
