use Rattle.std.proofs.Common.{true, false, sym, ◌∙◌, arith}
use Rattle.run_semantics.specs.Run.{standing}
use Rattle.kernel.specs.Kernels.{boxes_in, world_in}
use Rattle.kernel.proofs.Rising.{boxes_rise}
use Rattle.kernel.proofs.Targets.{target_begins, target_step, target_ends}
use Rattle.kernel.proofs.kernel.Kernel.target.Goals as goal

pub loop-index-init : goal.loop-index-init
loop-index-init g c = target_begins (world_in (λ b. (g.dyn-1.0.entry b.vtable).1) c.args.self.now).records c.args.path.now (world_in (λ b. (g.dyn-1.0.entry b.vtable).1) c.args.self.now).modules

pub loop-index-preserved : goal.loop-index-preserved
loop-index-preserved g c =
    target_step (world_in (λ b. (g.dyn-1.0.entry b.vtable).1) c.args.self.now).records c.args.path.now c.loop-index.index c.args.self.now.boxes.room (boxes_in (λ b. (g.dyn-1.0.entry b.vtable).1) c.args.self.now) _ false (boxes_rise (λ v. (g.dyn-1.0.entry v.vtable).1.meaning v.value) 0 c.args.self.now.boxes.room c.args.self.now.boxes.seats c.room-index-end.ensures.rising)
    (sym c.if-branch.false ∙ c.in_ok-stands_at.ensures) c.loop-index.invariant

pub returns-then-branch : goal.returns-then-branch
returns-then-branch g c =
    target_step (world_in (λ b. (g.dyn-1.0.entry b.vtable).1) c.args.self.now).records c.args.path.now c.loop-index.index c.args.self.now.boxes.room (boxes_in (λ b. (g.dyn-1.0.entry b.vtable).1) c.args.self.now) _ true (boxes_rise (λ v. (g.dyn-1.0.entry v.vtable).1.meaning v.value) 0 c.args.self.now.boxes.room c.args.self.now.boxes.seats c.room-index-end.ensures.rising)
    (sym c.if-branch.true ∙ c.in_ok-stands_at.ensures) c.loop-index.invariant

pub returns : goal.returns
returns g c = target_ends (world_in (λ b. (g.dyn-1.0.entry b.vtable).1) c.args.self.now).records c.args.path.now c.args.self.now.boxes.room c.loop-index.index (standing (world_in (λ b. (g.dyn-1.0.entry b.vtable).1) c.args.self.now).modules) _ (omega (arith, c.loop-index-test.false, c.loop-index.auto.index-end, c.room-index-end.ensures.room)) (boxes_rise (λ v. (g.dyn-1.0.entry v.vtable).1.meaning v.value) 0 c.args.self.now.boxes.room c.args.self.now.boxes.seats c.room-index-end.ensures.rising) c.loop-index.invariant
