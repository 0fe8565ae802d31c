use Rattle.std.proofs.Common.{◌+◌, is_some, sym, ap, ◌∙◌, arith}
use Rattle.std.specs.HashMap.{get}
use Rattle.kernel_actions.specs.Places.{equal}
use Rattle.kernel_actions.specs.declared.record_table.ModulePlace.{ModulePlace}
use Rattle.kernel_actions.proofs.Places.{ids_stay, ids_with}
use Rattle.kernel_actions.proofs.record_table.RecordTable.push_built.Goals as goal

pub invariant_of-self-then-contains_key : goal.invariant_of-self-then-contains_key
invariant_of-self-then-contains_key c =
    ids_stay c.self.inside.records c.push.new.self c.args.created c.self.inside.ids c.self.invariant
    (ap (λ (q : ModulePlace). is_some (get equal c.self.inside.ids q)) (sym c.in_ok-place.ensures) ∙ sym c.contains_key.ensures ∙ c.if-contains_key.true) c.in_ok-push.ensures.ok

pub invariant_of-self-in-Ok : goal.invariant_of-self-in-Ok
invariant_of-self-in-Ok c =
    ids_with c.self.inside.records c.push-2.new.self c.args.created c.in_ok-place.place (c.len.result + 1) c.self.inside.ids c.insert.new.self c.self.invariant c.requires.built c.in_ok-place.ensures
    (sym c.contains_key.ensures ∙ c.if-contains_key.false) (omega (arith, c.len.ensures)) c.in_ok-push-2.ensures.ok c.in-Ok.ensures.updates.0
