use Rattle.std.proofs.Common.{Some, sym, ap, ◌∙◌, refl}
use Rattle.std.proofs.lemmas.Bool.{true≢false}
use Rattle.kernel_actions.proofs.Places.{popped, ids_without, ids_kept}
use Rattle.kernel_actions.proofs.record_table.RecordTable.pop.Goals as goal

pub invariant_of-self : goal.invariant_of-self
invariant_of-self c =
    ids_without c.self.inside.records c.pop.new.self c.unwrap-parent.result _ c.self.inside.ids c.remove.new.self c.self.invariant refl
    (popped c.pop.result c.unwrap-parent.result c.self.inside.records c.pop.new.self c.pop.ensures c.unwrap-parent.ensures)
    (c.has.ensures.0 c.if-has.true ∙ ap Some c.len-id.ensures) c.remove.ensures.updates.0

pub invariant_of-self-else-has : goal.invariant_of-self-else-has
invariant_of-self-else-has c =
    ids_kept c.self.inside.records c.pop.new.self c.unwrap-parent.result _ c.self.inside.ids c.self.invariant refl
    (popped c.pop.result c.unwrap-parent.result c.self.inside.records c.pop.new.self c.pop.ensures c.unwrap-parent.ensures)
    (λ first. true≢false (sym (c.has.ensures.1 (first ∙ ap Some (sym c.len-id.ensures))) ∙ c.if-has.false))
