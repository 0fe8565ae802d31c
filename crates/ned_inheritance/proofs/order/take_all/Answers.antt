use Rattle.std.proofs.Common.{List, Bor, ap, not, sym, subst}
use Rattle.ned_trees.specs.declared.declarations.TypeDeclaration.{TypeDeclaration}
use Rattle.ned_inheritance.specs.Inheritance.{types_in}
use Rattle.ned_inheritance.specs.Order.{AreStuck, IsUnderWay}
use Rattle.ned_inheritance.proofs.ReadyLaws.{circle_told, order_circle, order_told}
use Rattle.ned_inheritance.proofs.RoundLaws.{left_told}
use Rattle.ned_inheritance.proofs.order.take_all.Goals as goal

pub take_ready-requires-clause-way : goal.take_ready-requires-clause-way
take_ready-requires-clause-way c =
    subst (λ (ts : List TypeDeclaration). IsUnderWay ts c.loop-alloc.order (types_in c.deref.result.now)) (sym c.requires.names)
    (subst (λ (rs : List (Bor TypeDeclaration)). IsUnderWay c.args.types.now c.loop-alloc.order (types_in rs)) (sym c.deref.ensures.value) c.loop-alloc.invariant)

pub returns-then-not-branch-clause-circle : goal.returns-then-not-branch-clause-circle
returns-then-not-branch-clause-circle c =
    let order = c.take_ready.new.order in
    let waiting = c.take_ready.new.waiting.items in
    circle_told c.args.types.now order waiting _ c.is_empty-then-not-branch.result c.requires.apart
    (subst (λ (ts : List TypeDeclaration). IsUnderWay ts order (types_in waiting)) c.requires.names c.in_ok-take_ready.ensures.way)
    (subst (λ (ts : List TypeDeclaration). AreStuck ts order (types_in waiting)) c.requires.names (c.in_ok-take_ready.ensures.stuck c.if-not-branch.true))
    c.take_ready.new.waiting.ok.0
    c.is_empty-then-not-branch.ensures

pub returns-then-not-branch-clause-left : goal.returns-then-not-branch-clause-left
returns-then-not-branch-clause-left c = λ some.
    let order = c.take_ready.new.order in
    let waiting = c.take_ready.new.waiting.items in
    left_told c.args.types.now order waiting _ c.is_empty-then-not-branch.result c.requires.apart
    (subst (λ (ts : List TypeDeclaration). IsUnderWay ts order (types_in waiting)) c.requires.names c.in_ok-take_ready.ensures.way)
    (subst (λ (ts : List TypeDeclaration). AreStuck ts order (types_in waiting)) c.requires.names (c.in_ok-take_ready.ensures.stuck c.if-not-branch.true))
    c.take_ready.new.waiting.ok.0
    c.is_empty-then-not-branch.ensures
    some

pub loop-alloc-preserved : goal.loop-alloc-preserved
loop-alloc-preserved c =
    subst (λ (ts : List TypeDeclaration). IsUnderWay ts c.take_ready.new.order (types_in c.take_ready.new.waiting.items)) c.requires.names c.in_ok-take_ready.ensures.way

pub returns-clause-circle : goal.returns-clause-circle
returns-clause-circle c =
    sym (order_circle c.args.types.now c.loop-alloc.order c.requires.apart
    (order_told c.args.types.now c.loop-alloc.order c.loop-alloc.rest.items _ c.is_empty.result c.loop-alloc.invariant c.loop-alloc.rest.ok.0 c.is_empty.ensures (ap not c.loop-alloc-test.false)))
