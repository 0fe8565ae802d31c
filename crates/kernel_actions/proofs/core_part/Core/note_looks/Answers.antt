use Rattle.std.proofs.Common.{refl, ap, ◌∙◌, arith}
use Rattle.run_semantics.specs.World.{World}
use Rattle.kernel_actions.proofs.Growing.{growth_on}
use Rattle.kernel_actions.proofs.Lasting.{growth_same, noted_grows, noted_on, noted_ends}
use Rattle.kernel_actions.proofs.core_part.Core.note_looks.Goals as goal

pub loop-look-init : goal.loop-look-init
loop-look-init c = record { noted = refl; grown = growth_same c.args.self.now; count = refl }

pub loop-look-preserved : goal.loop-look-preserved
loop-look-preserved c = record {
  noted = noted_on c.args.self.now.count c.loop-look.look-index c.args.looks.now c.look-item.result c.loop-look.self c.note_look.new.self _ c.loop-look-test.true c.look-item.is c.loop-look.invariant.count c.in_ok-note_look.ensures.noted c.loop-look.invariant.noted;
  grown = growth_on c.args.self.now c.loop-look.self c.note_look.new.self c.loop-look.invariant.grown (noted_grows _ c.loop-look.self c.note_look.new.self c.in_ok-note_look.ensures.noted);
  count = ap (λ (w : World). w.count) c.in_ok-note_look.ensures.noted ∙ c.loop-look.invariant.count;
}

pub returns-clause-noted : goal.returns-clause-noted
returns-clause-noted c = noted_ends c.args.self.now.count c.loop-look.look-index c.args.looks.now c.loop-look.self _ (omega (arith, c.loop-look-test.false)) c.loop-look.invariant.noted
