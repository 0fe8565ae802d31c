use Rattle.std.proofs.Common.{refl, suc, [], Err, sym, ap, subst, arith}
use Rattle.param_following.specs.Laws.{IsExact}
use Rattle.param_engine.specs.Tables.{known}
use Rattle.param_engine.specs.Turns.{came_to}
use Rattle.param_engine.specs.Working.{ruled, IsAnswered, IsHeldUp}
use Rattle.param_engine.proofs.Entries.{on_err_more, if_ok_more}
use Rattle.param_engine.proofs.Going.{proceeded, faulty, circular, descended, moved}
use Rattle.param_engine.proofs.engine.step.Goals as goal

pub returns-in-Fault-clause-steps : goal.returns-in-Fault-clause-steps
returns-in-Fault-clause-steps g c = λ start asked going.
    let asker = c.args.asker.now in
    let rules = ruled g.A.Key.PartialEq.eq (g.A.Asker.asking asker) (g.A.Asker.circle asker) in
    let resumed = g.A.Asker.resumed asker in
    let exact : IsExact rules = record { same = g.met.A.Asker.exact; self = g.met.A.Key.Eq.laws.refl } in
    let es = c.args.table.now.entries in
    let begun = c.args.table.now.begun in
    let was = c.args.going.now in
    let f = c.proceed.new.frame in
    faulty rules resumed exact start asked es begun was.keys.keys was.waiting f.asked
    (omega (arith, c.len-len.ensures.len, c.len-len.ensures.small)) (omega (arith, c.len-few.ensures.len, c.len-few.ensures.small)) c.in-Fault.fault
    (proceeded rules resumed exact start asked es begun was.keys.keys was.waiting was.current.asked _ f.asked _ _ c.in_ok-fault.ensures.goes_on
    (ap (came_to (resumed f.evaluation)) c.in-Fault.is) going)

pub returns-then-contains-clause-steps : goal.returns-then-contains-clause-steps
returns-then-contains-clause-steps g c = λ start asked going.
    let asker = c.args.asker.now in
    let rules = ruled g.A.Key.PartialEq.eq (g.A.Asker.asking asker) (g.A.Asker.circle asker) in
    let resumed = g.A.Asker.resumed asker in
    let exact : IsExact rules = record { same = g.met.A.Asker.exact; self = g.met.A.Key.Eq.laws.refl } in
    let es = c.args.table.now.entries in
    let begun = c.args.table.now.begun in
    let was = c.args.going.now in
    let f = c.proceed.new.frame in
    subst (λ x. IsAnswered rules start asked es begun (Err x)) (sym c.circle.ensures)
    (circular rules resumed exact start asked es begun was.keys.keys was.waiting f.asked
    (omega (arith, c.len-len.ensures.len, c.len-len.ensures.small)) (omega (arith, c.len-few.ensures.len, c.len-few.ensures.small)) c.in-Ask.key (resumed f.evaluation) (sym c.if-contains.ensures)
    (proceeded rules resumed exact start asked es begun was.keys.keys was.waiting was.current.asked _ f.asked _ _ c.in_ok-fault.ensures.goes_on
    (ap (came_to (resumed f.evaluation)) c.in-Ask.is) going))

pub returns-in_ok-descend-in-Ask-clause-steps : goal.returns-in_ok-descend-in-Ask-clause-steps
returns-in_ok-descend-in-Ask-clause-steps g c = λ start asked going.
    let asker = c.args.asker.now in
    let eq = g.A.Key.PartialEq.eq in
    let rules = ruled eq (g.A.Asker.asking asker) (g.A.Asker.circle asker) in
    let resumed = g.A.Asker.resumed asker in
    let exact : IsExact rules = record { same = g.met.A.Asker.exact; self = g.met.A.Key.Eq.laws.refl } in
    let es = c.args.table.now.entries in
    let begun = c.args.table.now.begun in
    let was = c.args.going.now in
    let f = c.proceed.new.frame in
    let h = c.in_ok-descend-in-Ask.ensures in
    let d = c.descend.new.going in
    moved rules resumed exact start asked es _ (suc begun) _ _ _ _ _ [] _ _
    h.entries (omega (arith, h.begun)) h.keys h.waiting h.asked
    (descended rules resumed exact start asked es begun was.keys.keys was.waiting f.asked f c.in-Ask.key _
    refl (sym c.if-contains.ensures) (subst (IsHeldUp (known eq es)) c.in-Ask.is c.in_ok-fault.ensures.held_up) h.asking
    (proceeded rules resumed exact start asked es begun was.keys.keys was.waiting was.current.asked _ f.asked _ _ c.in_ok-fault.ensures.goes_on
    (ap (came_to (resumed f.evaluation)) c.in-Ask.is) going))

pub returns-in-Done-clause-steps : goal.returns-in-Done-clause-steps
returns-in-Done-clause-steps g c =
    let asker = c.args.asker.now in
    let rules = ruled g.A.Key.PartialEq.eq (g.A.Asker.asking asker) (g.A.Asker.circle asker) in
    let resumed = g.A.Asker.resumed asker in
    let exact : IsExact rules = record { same = g.met.A.Asker.exact; self = g.met.A.Key.Eq.laws.refl } in
    let es = c.args.table.now.entries in
    let begun = c.args.table.now.begun in
    let was = c.args.going.now in
    let f = c.proceed.new.frame in
    if_ok_more c.ascend.result _ _ (λ next h start asked going. h start asked
    (proceeded rules resumed exact start asked es begun was.keys.keys was.waiting was.current.asked _ f.asked _ _ c.in_ok-fault.ensures.goes_on
    (ap (came_to (resumed f.evaluation)) c.in-Done.is) going))
    c.ascend.ensures.steps

pub returns-in-Done-clause-falls : goal.returns-in-Done-clause-falls
returns-in-Done-clause-falls g c =
    let asker = c.args.asker.now in
    let rules = ruled g.A.Key.PartialEq.eq (g.A.Asker.asking asker) (g.A.Asker.circle asker) in
    let resumed = g.A.Asker.resumed asker in
    let exact : IsExact rules = record { same = g.met.A.Asker.exact; self = g.met.A.Key.Eq.laws.refl } in
    let es = c.args.table.now.entries in
    let begun = c.args.table.now.begun in
    let was = c.args.going.now in
    let f = c.proceed.new.frame in
    if_ok_more c.ascend.result _ _ (λ next h start asked going. h start asked
    (proceeded rules resumed exact start asked es begun was.keys.keys was.waiting was.current.asked _ f.asked _ _ c.in_ok-fault.ensures.goes_on
    (ap (came_to (resumed f.evaluation)) c.in-Done.is) going))
    c.ascend.ensures.falls

pub returns-in-Done-clause-err : goal.returns-in-Done-clause-err
returns-in-Done-clause-err g c =
    let asker = c.args.asker.now in
    let rules = ruled g.A.Key.PartialEq.eq (g.A.Asker.asking asker) (g.A.Asker.circle asker) in
    let resumed = g.A.Asker.resumed asker in
    let exact : IsExact rules = record { same = g.met.A.Asker.exact; self = g.met.A.Key.Eq.laws.refl } in
    let es = c.args.table.now.entries in
    let begun = c.args.table.now.begun in
    let was = c.args.going.now in
    let f = c.proceed.new.frame in
    on_err_more c.ascend.result _ _ (λ h start asked going. h start asked
    (proceeded rules resumed exact start asked es begun was.keys.keys was.waiting was.current.asked _ f.asked _ _ c.in_ok-fault.ensures.goes_on
    (ap (came_to (resumed f.evaluation)) c.in-Done.is) going))
    c.ascend.ensures.err
