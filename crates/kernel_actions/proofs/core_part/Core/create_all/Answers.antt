use Rattle.std.proofs.Common.{◌≡◌, ◌+◌, ◌∙◌, [], ◌∷◌, ap, arith, length}
use Rattle.std.proofs.lemmas.List.{length_push}
use Rattle.run_semantics.specs.Run.{record_under}
use Rattle.run_semantics.specs.World.{World}
use Rattle.kernel_actions.proofs.Growing.{growth_on}
use Rattle.kernel_actions.proofs.Lasting.{created_ends, created_grows, created_on, one_created}
use Rattle.kernel_actions.proofs.core_part.Core.create_all.Goals as goal

pub loop-built-preserved : goal.loop-built-preserved
loop-built-preserved c =
    let more = one_created c.args.parent c.built-item.result c.loop-built.self c.create.new.self c.in_ok-create.ensures.ok in
    let longer : length c.create.new.self.records ≡ length c.loop-built.self.records + 1 = ap (λ (w : World). length w.records) c.in_ok-create.ensures.ok ∙ length_push c.loop-built.self.records (record_under c.args.parent c.built-item.result) in
    record {
      there = omega (arith, longer, c.loop-built.invariant.there);
      world = created_on c.args.parent c.loop-built.built-index c.args.inside.now c.built-item.result c.loop-built.self c.create.new.self _ c.loop-built-test.true c.built-item.is c.in_ok-create.ensures.ok c.loop-built.invariant.world;
      few = omega (arith, more, c.loop-built.invariant.few);
      grown = growth_on c.args.self.now c.loop-built.self c.create.new.self c.loop-built.invariant.grown (created_grows c.args.parent (c.built-item.result ∷ []) c.loop-built.self c.create.new.self c.in_ok-create.ensures.ok);
    }

pub returns-clause-ok : goal.returns-clause-ok
returns-clause-ok c = created_ends c.args.parent c.loop-built.built-index c.args.inside.now c.loop-built.self _ (omega (arith, c.loop-built-test.false)) c.loop-built.invariant.world
