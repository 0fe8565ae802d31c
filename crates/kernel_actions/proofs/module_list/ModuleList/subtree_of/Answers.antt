use Rattle.std.proofs.Common.{◌≡◌, ◌≤◌, ◌<◌, ◌+◌, ◌++◌, ◌∙◌, not, min, ap, arith, length, subst, sym}
use Rattle.run_semantics.specs.Subtree.{among, ids_from, stands_in}
use Rattle.kernel_actions.specs.Modules.{AroundFirst, Modules, those_around}
use Rattle.kernel_actions.proofs.Below.{lives_in, none_after, none_before}
use Rattle.kernel_actions.proofs.Ranges.{filter_both, passing, passing_begins, passing_ends, passing_with, passing_without}
use Rattle.kernel_actions.proofs.module_list.ModuleList.subtree_of.Goals as goal
use Rattle.kernel_actions.proofs.module_list.ModuleList.subtree_of.Goals.{then-lives_in+in_ok-push, else-lives_in}

pub loop-index-init : goal.loop-index-init
loop-index-init c =
    let m = c.args.self.now in
    let id = c.args.id in
    let k = c.saturating_sub-index.result in
    let nested : AroundFirst 0 m.records = subst (λ (n : Modules). AroundFirst 0 n.records) c.self.view_is c.self.invariant.nested in
    ap (λ xs. xs ++ passing (lives_in m.records m.dead id) k m.records) c.new-found.ensures
    ∙ (passing_begins (lives_in m.records m.dead id) k m.records (λ n some l. none_before m.records m.dead id n nested (omega (arith, some, l, c.saturating_sub-index.ensures)))
    ∙ sym (filter_both (λ n. not (among n m.dead)) (λ n. stands_in m.records id n) (ids_from 1 m.records)))

pub loop-index-preserved : goal.loop-index-preserved
loop-index-preserved c =
    let m = c.args.self.now in
    let id = c.args.id in
    let i = c.loop-index.index in
    let many : length c.self.inside.records ≡ length m.records = ap (λ (n : Modules). length n.records) c.self.view_is in
    let less : i < length m.records = omega (arith, many, c.len.ensures, c.min-end.ensures, c.loop-index-test.true) in
    elim c.if-lives_in.branch [
      | then-lives_in+in_ok-push w ↦ passing_with (lives_in m.records m.dead id) i m.records c.loop-index.found c.if-lives_in.found _ less (sym c.lives_in.ensures ∙ w.if-lives_in.true) (w.found-is ∙ w.in_ok-push.ensures.ok) c.loop-index.invariant
      | else-lives_in w ↦ passing_without (lives_in m.records m.dead id) i m.records c.loop-index.found c.if-lives_in.found _ less (sym c.lives_in.ensures ∙ w.if-lives_in.false) w.found-is c.loop-index.invariant
    ]

pub returns : goal.returns
returns c =
    let m = c.args.self.now in
    let id = c.args.id in
    let i = c.loop-index.index in
    let many : length c.self.inside.records ≡ length m.records = ap (λ (n : Modules). length n.records) c.self.view_is in
    let around : c.self.inside.children ≡ those_around m.records = c.self.invariant.around_are ∙ ap (λ (n : Modules). those_around n.records) c.self.view_is in
    let past : min (length m.records) c.last_in-last.result ≤ i = omega (arith, many, c.len.ensures, c.min-end.ensures, c.loop-index-test.false) in
    passing_ends (lives_in m.records m.dead id) i m.records c.loop-index.found _
    (λ n l within. none_after m.records m.dead c.self.inside.children id n around (omega (arith, l, within, past, c.last_in-last.ensures)))
    c.loop-index.invariant
