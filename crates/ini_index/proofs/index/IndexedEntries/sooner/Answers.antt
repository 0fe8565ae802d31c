use Rattle.std.proofs.Common.{◌∙◌, arith, sym}
use Rattle.ini_index.proofs.Firsts.{begun, ended_found, ended_past, gone_on, nearer, noted_next, number_within}
use Rattle.ini_index.proofs.index.IndexedEntries.sooner.Goals as goal

pub loop-at-init : goal.loop-at-init
loop-at-init c = begun c.args.key.now c.args.path.now c.self.inside.entries c.args.self.now c.copied-at.result c.self.view_is (c.copied-at.ensures ∙ c.get.ensures.value ∙ c.self.invariant.first c.args.key.now)

pub returns-then-is_past : goal.returns-then-is_past
returns-then-is_past c = ended_past c.args.key.now c.args.path.now c.args.self.now c.loop-at.at c.args.best c.in-Some.number c.in-Some.is c.loop-at.invariant (sym c.is_past.ensures ∙ c.if-is_past.true)

pub at-requires : goal.at-requires
at-requires c = number_within c.args.key.now c.self.inside.entries c.args.self.now c.loop-at.at c.in-Some.number c.self.view_is c.in-Some.is c.loop-at.invariant.keyed

pub returns-then-speaks : goal.returns-then-speaks
returns-then-speaks c = ended_found c.args.key.now c.args.path.now c.self.inside.entries c.args.self.now c.loop-at.at c.args.best c.in-Some.number c.at.result.now c.self.view_is c.in-Some.is c.loop-at.invariant (sym c.is_past.ensures ∙ c.if-is_past.false) c.at.ensures (sym c.speaks.ensures ∙ c.if-speaks.true)

pub next_of-at-requires : goal.next_of-at-requires
next_of-at-requires c =
    let within = number_within c.args.key.now c.self.inside.entries c.args.self.now c.loop-at.at c.in-Some.number c.self.view_is c.in-Some.is c.loop-at.invariant.keyed in
    omega (arith, within, c.self.invariant.size)

pub loop-at-smaller : goal.loop-at-smaller
loop-at-smaller c =
    nearer c.args.key.now c.args.self.now c.loop-at.at c.next_of-at.result c.in-Some.number c.in-Some.is c.loop-at.invariant.keyed
    (noted_next c.args.key.now c.self.inside.entries c.args.self.now c.loop-at.at c.next_of-at.result c.in-Some.number c.at.result.now c.self.view_is c.in-Some.is c.loop-at.invariant.keyed c.at.ensures (sym c.next_of-at.ensures ∙ c.self.invariant.next c.in-Some.number c.at.result.now (omega arith) c.at.ensures))

pub loop-at-preserved : goal.loop-at-preserved
loop-at-preserved c =
    gone_on c.args.key.now c.args.path.now c.self.inside.entries c.args.self.now c.loop-at.at c.next_of-at.result c.in-Some.number c.at.result.now c.self.view_is c.in-Some.is c.loop-at.invariant c.at.ensures (sym c.speaks.ensures ∙ c.if-speaks.false)
    (noted_next c.args.key.now c.self.inside.entries c.args.self.now c.loop-at.at c.next_of-at.result c.in-Some.number c.at.result.now c.self.view_is c.in-Some.is c.loop-at.invariant.keyed c.at.ensures (sym c.next_of-at.ensures ∙ c.self.invariant.next c.in-Some.number c.at.result.now (omega arith) c.at.ensures))
