use Rattle.std.proofs.Common.{◌++◌, ◌∷◌, [], refl, ◌∙◌, ap, subst, arith}
use Rattle.param_engine.specs.Steps.{IsStepped, IsLess, room}
use Rattle.param_following.specs.Laws.{IsExact}
use Rattle.param_engine.specs.Working.{ruled}
use Rattle.param_engine.proofs.Entries.{on_err}
use Rattle.param_engine.proofs.Going.{started, busy}
use Rattle.param_engine.proofs.engine.find.Goals as goal

pub loop-going-init : goal.loop-going-init
loop-going-init g c =
    let asker = c.args.asker.now in
    let rules = ruled g.A.Key.PartialEq.eq (g.A.Asker.asking asker) (g.A.Asker.circle asker) in
    let exact : IsExact rules = record { same = g.met.A.Asker.exact; self = g.met.A.Key.Eq.laws.refl } in
    let h = c.in_ok-current.ensures in
    let key = c.args.key in
    started rules (g.A.Asker.resumed asker)
    exact c.args.table.now.entries key _ _ _ _ _ _
    c.requires.kept c.requires.new (h.keys ∙ ap (λ l. l ++ key ∷ []) c.new-keys.ensures.empty) c.new.ensures h.asked h.asking h.entries
    (omega (arith, h.begun, c.requires.counted))

pub step-requires : goal.step-requires
step-requires g c =
    let asker = c.args.asker.now in
    let rules = ruled g.A.Key.PartialEq.eq (g.A.Asker.asking asker) (g.A.Asker.circle asker) in
    let exact : IsExact rules = record { same = g.met.A.Asker.exact; self = g.met.A.Key.Eq.laws.refl } in
    let l = c.loop-going in
    busy rules (g.A.Asker.resumed asker)
    exact c.args.table.now.entries c.args.key
    l.table.entries l.table.begun l.going.keys.keys l.going.waiting l.going.current.asked _ l.table refl refl l.invariant

pub returns-in_err-next-clause-kept : goal.returns-in_err-next-clause-kept
returns-in_err-next-clause-kept g c = on_err c.from_residual-in_err-next.result _ (c.in_err-next.ensures.err c.args.table.now.entries c.args.key c.loop-going.invariant).0

pub returns-in_err-next-clause-begins : goal.returns-in_err-next-clause-begins
returns-in_err-next-clause-begins g c = on_err c.from_residual-in_err-next.result _ (c.in_err-next.ensures.err c.args.table.now.entries c.args.key c.loop-going.invariant).1

pub loop-going-smaller : goal.loop-going-smaller
loop-going-smaller g c =
    subst (IsLess (room c.loop-going.table.entries c.loop-going.going.keys.keys) (room c.step.new.table.entries c.step.new.going.keys.keys)) c.in-Goes.is
    (c.in_ok-next.ensures.falls c.args.table.now.entries c.args.key c.loop-going.invariant)

pub loop-going-preserved : goal.loop-going-preserved
loop-going-preserved g c =
    let asker = c.args.asker.now in
    subst (IsStepped (ruled g.A.Key.PartialEq.eq (g.A.Asker.asking asker) (g.A.Asker.circle asker)) (g.A.Asker.resumed asker)
    c.args.table.now.entries c.args.key c.step.new.table c.step.new.going) c.in-Goes.is
    (c.in_ok-next.ensures.steps c.args.table.now.entries c.args.key c.loop-going.invariant)

pub returns-in-Ended-clause-answered : goal.returns-in-Ended-clause-answered
returns-in-Ended-clause-answered g c =
    let asker = c.args.asker.now in
    subst (IsStepped (ruled g.A.Key.PartialEq.eq (g.A.Asker.asking asker) (g.A.Asker.circle asker)) (g.A.Asker.resumed asker)
    c.args.table.now.entries c.args.key c.step.new.table c.step.new.going) c.in-Ended.is
    (c.in_ok-next.ensures.steps c.args.table.now.entries c.args.key c.loop-going.invariant)
