use Rattle.std.proofs.Common.{◌≡◌, drop}
use Rattle.kernel.specs.Kernels.{world_in, KeepsBoxes}
use Rattle.kernel_boxes.specs.Saved.{with_states}
use Rattle.kernel.proofs.kernel.Kernel.load_all.Given as goal

-- the boxes are of the same modules, and what is left to load is what was, but for those that took
-- their states
abbrev pub invariant-loop-instance : goal.invariant-loop-instance
invariant-loop-instance g l = record {
  core : l.self.core ≡ l.fn.self.core;
  kept : KeepsBoxes g.C.Catalogue.behaviour (λ b. (g.dyn-1.0.entry b.vtable).1) l.fn.self l.self;
  left : with_states (drop l.instance-index l.saved) (world_in (λ b. (g.dyn-1.0.entry b.vtable).1) l.self).modules ≡ with_states l.saved (world_in (λ b. (g.dyn-1.0.entry b.vtable).1) l.fn.self).modules;
}
