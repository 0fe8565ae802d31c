use Rattle.std.proofs.Common.{refl, sym, ap, ◌∙◌, ◌-◌, length}
use Rattle.checkpoints.specs.Stored.{ends_at, counts_of, Timeline}
use Rattle.kernel_actions.specs.declared.position.Position.{Position}
use Rattle.checkpoints.proofs.Keeping.{ends_last}
use Rattle.checkpoints.proofs.positions.Positions.ends_at.Goals as goal

pub returns-in-Some-clause-ends : goal.returns-in-Some-clause-ends
returns-in-Some-clause-ends c =
    ends_last c.args.event c.deref.result.now (length c.deref.result.now - 1) c.in-Some.last.now refl (sym (rw c.in-Some.is at c.last.ensures.value))
    ∙ ap (ends_at c.args.event) (c.deref.ensures.value ∙ c.self.invariant.counts_are ∙ ap (λ (t : Timeline Position). counts_of t.stored) c.self.view_is)
