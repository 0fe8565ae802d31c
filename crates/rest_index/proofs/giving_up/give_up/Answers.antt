use Rattle.std.proofs.Common.{sym, subst, ◌∙◌, arith}
use Rattle.rest_index.proofs.Going.{IsOn, as_many, begins, ended, goes_on}
use Rattle.rest_index.proofs.Lists.{none_past}
use Rattle.rest_index.proofs.giving_up.give_up.Goals as goal

pub loop-next-init : goal.loop-next-init
loop-next-init c = (begins c.args.rows.now c.args.seeds.now c.args.flags.now c.give_up_all.new.flags c.in_ok-give_up_all.ensures.ok, c.in_ok-give_up_all.ensures.back)

pub returns-in_default-clause-left : goal.returns-in_default-clause-left
returns-in_default-clause-left c =
    ended c.args.rows.now c.args.seeds.now c.loop-next.next c.args.flags.now c.loop-next.flags c.requires.nothing c.requires.closed
    (none_past c.loop-next.flags.given c.loop-next.next (sym c.in_default.ensures.value)) c.loop-next.invariant.0

pub loop-next-preserved : goal.loop-next-preserved
loop-next-preserved c = (
  subst (λ n. IsOn c.args.rows.now c.args.seeds.now n c.args.flags.now c.give_up_askers.new.flags) (omega arith)
      (goes_on c.args.rows.now c.args.seeds.now c.requires.indexed c.loop-next.next c.args.flags.now c.loop-next.flags c.give_up_askers.new.flags c.in-Some.place.now
      c.requires.nothing (sym c.in-Some.ensures.value) c.in_ok-give_up_askers.ensures.ok c.loop-next.invariant.0),
  c.in_ok-give_up_askers.ensures.back ∙ c.loop-next.invariant.1,
)

pub returns-clause-left : goal.returns-clause-left
returns-clause-left c =
    ended c.args.rows.now c.args.seeds.now c.loop-next.next c.args.flags.now c.loop-next.flags c.requires.nothing c.requires.closed
    (let m = as_many c.args.rows.now c.args.seeds.now c.loop-next.next c.args.flags.now c.loop-next.flags c.requires.nothing c.loop-next.invariant.0 in
    let l = c.requires.as_long in let t = c.loop-next-test.false in omega (arith, m, l, t)) c.loop-next.invariant.0
