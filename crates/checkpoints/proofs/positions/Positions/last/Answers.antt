use Rattle.std.proofs.Common.{ap, ◌∙◌, ◌-◌, length, slice_get, sym}
use Rattle.checkpoints.specs.Stored.{last_of, Timeline}
use Rattle.kernel_actions.specs.declared.position.Position.{Position}
use Rattle.checkpoints.proofs.Keeping.{last_whole, more}
use Rattle.checkpoints.proofs.positions.Positions.last.Goals as goal

pub returns-clause-last : goal.returns-clause-last
returns-clause-last c =
    c.at.ensures ∙ ap (λ ps. slice_get ps (c.len-number.result - 1)) c.as_slice.ensures.value
    ∙ last_whole c.len-number.result c.self.inside.held.items (c.len-number.ensures ∙ sym c.as_slice.ensures.len ∙ ap length c.as_slice.ensures.value) (more c.len-number.result c.if-number-eq0.false)
    ∙ ap (λ (t : Timeline Position). last_of t.stored) c.self.view_is
