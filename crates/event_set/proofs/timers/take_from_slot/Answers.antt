use Rattle.std.proofs.Common.{◌≡◌, ◌∙◌, sym, ap, Some, List}
use Rattle.event_set.specs.declared.timers.First.{First}
use Rattle.event_set.specs.Keys.{first_at}
use Rattle.event_set.proofs.Slots.{first_take, within}
use Rattle.event_set.proofs.timers.take_from_slot.Goals as goal

pub returns-clause-rest : goal.returns-clause-rest
returns-clause-rest c = λ t.
    let there : first_at c.args.firsts.now.items c.args.timer ≡ Some c.in_ok-key.key = ap (λ (xs : List First). first_at xs c.args.timer) (sym c.as_slice.ensures.value) ∙ sym c.found_in.ensures ∙ c.in_ok-key.was in
    first_take c.args.firsts.now.items c.args.timer c.in_ok-key.key (within c.args.firsts.now.items c.args.timer c.in_ok-key.key there) there t
