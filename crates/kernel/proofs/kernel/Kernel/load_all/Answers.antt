use Rattle.std.proofs.Common.{refl, sym, ap, ◌∙◌}
use Rattle.std.proofs.lemmas.List.{drop_all}
use Rattle.kernel.specs.Kernels.{boxes_in, world_in}
use Rattle.kernel_boxes.specs.Saved.{with_states}
use Rattle.kernel_boxes.proofs.Keeping.{still_kept}
use Rattle.kernel_boxes.proofs.Loading.{next_takes, next_left, modules_loaded}
use Rattle.kernel_boxes.proofs.Saving.{seats_rise}
use Rattle.kernel.proofs.kernel.Kernel.load_all.Goals as goal

pub loop-instance-init : goal.loop-instance-init
loop-instance-init g c = record {
  core = refl;
  kept = record { kinds = c.requires.kinds; standing_is = refl };
  left = refl;
}

pub load-requires-clause-kinds : goal.load-requires-clause-kinds
load-requires-clause-kinds g c = c.loop-instance.invariant.kept.kinds

pub load-requires-clause-takes : goal.load-requires-clause-takes
load-requires-clause-takes g c =
    next_takes g.C.Catalogue.behaviour c.args.self.now.boxes.room c.loop-instance.instance-index c.args.saved.now c.instance-item.result (boxes_in (λ b. (g.dyn-1.0.entry b.vtable).1) c.args.self.now) (boxes_in (λ b. (g.dyn-1.0.entry b.vtable).1) c.loop-instance.self)
    (seats_rise (λ v. (g.dyn-1.0.entry v.vtable).1.meaning v.value) 0 c.args.self.now.boxes.room c.args.self.now.boxes.seats c.room-ids_rise.ensures.rising) c.requires c.loop-instance.invariant.kept c.loop-instance-test.true c.instance-item.is

pub returns-in_err-load-clause-core : goal.returns-in_err-load-clause-core
returns-in_err-load-clause-core g c = c.in_err-load.ensures.core ∙ c.loop-instance.invariant.core

pub returns-in_err-load-clause-kept : goal.returns-in_err-load-clause-kept
returns-in_err-load-clause-kept g c = still_kept c.loop-instance.invariant.kept c.in_err-load.ensures.kept

pub loop-instance-preserved : goal.loop-instance-preserved
loop-instance-preserved g c = record {
  core = c.in_ok-load.ensures.core ∙ c.loop-instance.invariant.core;
  kept = still_kept c.loop-instance.invariant.kept c.in_ok-load.ensures.kept;
  left =
      next_left c.loop-instance.instance-index c.args.saved.now (world_in (λ b. (g.dyn-1.0.entry b.vtable).1) c.loop-instance.self).modules (world_in (λ b. (g.dyn-1.0.entry b.vtable).1) c.load.new.self).modules c.instance-item.result c.loop-instance-test.true c.instance-item.is c.in_ok-load.ensures.ok
      ∙ c.loop-instance.invariant.left;
}

pub returns-clause-core : goal.returns-clause-core
returns-clause-core g c = c.loop-instance.invariant.core

pub returns-clause-kept : goal.returns-clause-kept
returns-clause-kept g c = c.loop-instance.invariant.kept

pub returns-clause-ok : goal.returns-clause-ok
returns-clause-ok g c =
    ap (λ xs. with_states xs (world_in (λ b. (g.dyn-1.0.entry b.vtable).1) c.loop-instance.self).modules) (sym (drop_all c.loop-instance.instance-index c.args.saved.now c.loop-instance-test.false))
    ∙ c.loop-instance.invariant.left
    ∙ modules_loaded g.C.Catalogue.behaviour c.args.self.now.boxes.room c.args.saved.now (boxes_in (λ b. (g.dyn-1.0.entry b.vtable).1) c.args.self.now)
    (seats_rise (λ v. (g.dyn-1.0.entry v.vtable).1.meaning v.value) 0 c.args.self.now.boxes.room c.args.self.now.boxes.seats c.room-ids_rise.ensures.rising) c.requires
