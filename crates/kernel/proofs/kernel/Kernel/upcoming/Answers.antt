use Rattle.kernel_actions.specs.Upcoming.{looked}
use Rattle.kernel.specs.Kernels.{world_in}
use Rattle.kernel.proofs.Upcoming.{first_look, looks_enough, next_look}
use Rattle.kernel.proofs.kernel.Kernel.upcoming.Goals as goal
use Rattle.run_semantics.specs.Upcoming.{upcoming, upcoming_in}
use Rattle.std.proofs.Common.{◌≡◌, ℕ, ◌+◌, length, subst, arith}

pub loop-init : goal.loop-init
loop-init g c =
    let m = g.A.Answers.answers in
    let w = world_in (λ b. (g.dyn-1.0.entry b.vtable).1) c.args.self.now in
    let most : ℕ = length c.injections.result.now + 1 in
    let none : most + 0 ≡ most = omega arith in (
      most,
      none,
      subst (λ (k : ℕ). upcoming_in k m w.pending (looked w c.look-look.result) ≡ upcoming m w) (looks_enough g.A.Answers.answers c.injections.result.now c.injections.ensures)
          (first_look m w c.look-look.result c.look-look.ensures),
    )

pub loop-preserved : goal.loop-preserved
loop-preserved g c =
    let now = c.loop.invariant in
    next_look g.A.Answers.answers (world_in (λ b. (g.dyn-1.0.entry b.vtable).1) c.args.self.now) c.loop.look c.look_on.new.look c.in_ok-next.field-0 (length c.injections.result.now + 1) c.loop.counter now.0
    c.loop-test.true now.1 now.2 c.in_default.is c.in_ok-next.ensures.looks
