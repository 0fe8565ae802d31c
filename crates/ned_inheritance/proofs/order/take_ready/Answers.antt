use Rattle.std.proofs.Common.{◌++◌, Bool, true, false, List, Bor, length, sym, subst, ap, arith}
use Rattle.std.proofs.lemmas.Bool.{false≢true}
use Rattle.ned_trees.specs.declared.declarations.TypeDeclaration.{TypeDeclaration}
use Rattle.ned_types.specs.WellFormed.{IsAmong}
use Rattle.ned_inheritance.specs.Inheritance.{types_in}
use Rattle.ned_inheritance.specs.Order.{IsUnderWay, TakesOne}
use Rattle.ned_inheritance.proofs.OrderLaws.{no_rest}
use Rattle.ned_inheritance.proofs.ReadyLaws.{left_over, ready_moved, size_kept, size_left, size_less, size_moved, size_taken, stuck_more}
use Rattle.ned_inheritance.proofs.order.take_ready.Goals as goal

pub loop-rest-init : goal.loop-rest-init
loop-rest-init c = record {
  way = subst (λ (ws : List (Bor TypeDeclaration)). IsUnderWay c.args.named.now c.args.order.now (types_in ws ++ types_in c.args.types.now)) (sym c.requires.none) c.requires.way;
  stuck = λ e x is. absurd (subst (λ (ws : List (Bor TypeDeclaration)). IsAmong x (types_in ws)) c.requires.none is);
  size = let none = ap length c.requires.none in omega (arith, none);
  fewer = λ e. absurd (false≢true e);
}

pub loop-rest-preserved-then-branch : goal.loop-rest-preserved-then-branch
loop-rest-preserved-then-branch c =
    let types = c.args.named.now in
    let before = c.loop-rest.order in
    let after = c.take_one.new.order in
    let waited = c.loop-rest.waiting.items in
    let waiting = c.take_one.new.waiting.items in
    let rest = c.loop-rest.rest.now in
    let item = c.declared-item.result in
    let takes = subst (λ (b : Bool). TakesOne types before after (types_in waited) (types_in waiting) item.now b) c.if-branch.true c.in_ok-take_one.ensures in
    let same = size_taken types before after waited waiting item.now takes in
    record {
      way = ready_moved types before after waited waiting rest item _ true c.in-len1-up.len_at_least c.declared-item.is takes c.loop-rest.invariant.way;
      stuck = λ e. absurd (false≢true (sym e));
      size = size_moved waited waiting rest _ c.in-len1-up.len_at_least (omega (arith, same)) c.loop-rest.invariant.size;
      fewer = λ e. size_less waited waiting rest _ c.in-len1-up.len_at_least same c.loop-rest.invariant.size;
    }

pub loop-rest-preserved : goal.loop-rest-preserved
loop-rest-preserved c =
    let types = c.args.named.now in
    let before = c.loop-rest.order in
    let after = c.take_one.new.order in
    let waited = c.loop-rest.waiting.items in
    let waiting = c.take_one.new.waiting.items in
    let rest = c.loop-rest.rest.now in
    let item = c.declared-item.result in
    let takes = subst (λ (b : Bool). TakesOne types before after (types_in waited) (types_in waiting) item.now b) c.if-branch.false c.in_ok-take_one.ensures in
    let more = size_left types before after waited waiting item.now takes in
    record {
      way = ready_moved types before after waited waiting rest item _ false c.in-len1-up.len_at_least c.declared-item.is takes c.loop-rest.invariant.way;
      stuck = λ e. stuck_more types before after (types_in waited) (types_in waiting) item.now takes (c.loop-rest.invariant.stuck e);
      size = size_moved waited waiting rest _ c.in-len1-up.len_at_least more c.loop-rest.invariant.size;
      fewer = λ e. size_kept waited waiting rest _ c.in-len1-up.len_at_least more (c.loop-rest.invariant.fewer e);
    }

pub returns-clause-way : goal.returns-clause-way
returns-clause-way c = left_over c.args.named.now c.loop-rest.order c.loop-rest.waiting.items c.loop-rest.rest.now (no_rest c.loop-rest.rest.now c.in_default.len_below) c.loop-rest.invariant.way
