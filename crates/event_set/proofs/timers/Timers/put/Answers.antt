use Rattle.std.proofs.Common.{◌≡◌, ◌∙◌, ap, None, if◌then◌else◌}
use Rattle.event_set.specs.Keys.{Slots, first_at, other_at, place_at, noted}
use Rattle.event_set.proofs.Slots.{put_other}
use Rattle.event_set.proofs.timers.Timers.put.Goals as goal

pub returns-clause-ok : goal.returns-clause-ok
returns-clause-ok c = λ t.
    let free : place_at (record { firsts = c.self.inside.firsts.items; others = c.self.inside.others.entries }) c.args.timer ≡ None = ap (λ (s : Slots). place_at s c.args.timer) c.self.view_is ∙ c.requires in
    put_other (first_at c.self.inside.firsts.items) (other_at c.self.inside.others.entries) (first_at c.put_in_slot.new.firsts.items) (other_at c.insert.new.self.entries) c.args.timer c.args.key.now free
    (λ q. c.in_ok-put_in_slot.ensures.ok q ∙ ap (λ b. if b then noted c.args.timer c.args.key.now (first_at c.self.inside.firsts.items) q else first_at c.self.inside.firsts.items q) c.if-branch.false) (λ q. c.in_ok-insert.ensures.updates.0 q) t
    ∙ ap (λ (s : Slots). noted c.args.timer c.args.key.now (place_at s) t) c.self.view_is
