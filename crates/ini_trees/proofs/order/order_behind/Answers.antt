use Rattle.std.proofs.Common.{◌≡◌, ◌++◌, ◌∷◌, [], Bool, Ok, length, refl, sym, ◌∙◌, subst}
use Rattle.std.specs.declared.alloc.AllocError.{AllocError}
use Rattle.ini_trees.specs.declared.order.Walk.{Walk}
use Rattle.ini_trees.specs.Numbers.{IsWalk, SettlesStep}
use Rattle.ini_trees.proofs.WalkLaws.{walk_begins, in_path}
use Rattle.ini_trees.proofs.order.order_behind.Goals as goal

pub loop-top-init : goal.loop-top-init
loop-top-init c =
    let begins = walk_begins c.args.rows.now (length c.args.rows.now) c.args.root refl c.requires.within in
    subst (λ (s : Walk). IsWalk c.args.rows.now c.args.root s.path s.passed s.done s.order) (sym c.in_ok-walk.ensures) begins

pub step-requires-clause-within : goal.step-requires-clause-within
step-requires-clause-within c =
    let last = c.in-Some.ensures in
    let path : c.loop-top.walk.path ≡ last.0 ++ c.in-Some.top ∷ [] = sym c.as_slice.ensures ∙ last.1 in
    (c.loop-top.invariant.path_reached c.in-Some.top (in_path c.loop-top.walk.path last.0 c.in-Some.top path)).0

pub returns-then-not-branch : goal.returns-then-not-branch
returns-then-not-branch c =
    let last = c.in-Some.ensures in
    let path : c.loop-top.walk.path ≡ last.0 ++ c.in-Some.top ∷ [] = sym c.as_slice.ensures ∙ last.1 in
    let settled = c.in_ok-step.ensures c.args.root last.0 c.loop-top.invariant path in
    subst (λ (b : Bool). SettlesStep {E = AllocError} c.args.rows.now c.args.root c.loop-top.walk c.step.new.self (Ok b)) c.if-not-branch.true settled

pub loop-top-smaller : goal.loop-top-smaller
loop-top-smaller c =
    let last = c.in-Some.ensures in
    let path : c.loop-top.walk.path ≡ last.0 ++ c.in-Some.top ∷ [] = sym c.as_slice.ensures ∙ last.1 in
    let settled = c.in_ok-step.ensures c.args.root last.0 c.loop-top.invariant path in
    (subst (λ (b : Bool). SettlesStep {E = AllocError} c.args.rows.now c.args.root c.loop-top.walk c.step.new.self (Ok b)) c.if-not-branch.false settled).1

pub loop-top-preserved : goal.loop-top-preserved
loop-top-preserved c =
    let last = c.in-Some.ensures in
    let path : c.loop-top.walk.path ≡ last.0 ++ c.in-Some.top ∷ [] = sym c.as_slice.ensures ∙ last.1 in
    let settled = c.in_ok-step.ensures c.args.root last.0 c.loop-top.invariant path in
    (subst (λ (b : Bool). SettlesStep {E = AllocError} c.args.rows.now c.args.root c.loop-top.walk c.step.new.self (Ok b)) c.if-not-branch.false settled).0
