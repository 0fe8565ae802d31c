use Rattle.std.proofs.Common.{◌≡◌, ℕ, ◌+◌, ◌<◌, List, Bool, length, sym, ap, ◌∙◌, subst}
use Rattle.recorders.specs.Wanted.{is_wanted, wants}
use Rattle.recorders.proofs.Wanting.{counted_next, wanted_next}
use Rattle.recorders.proofs.wanted.wanted.Goals as goal

pub loop-id-preserved : goal.loop-id-preserved
loop-id-preserved c =
    let f = wants c.args.output c.args.model.now c.args.records.now in
    let next = wanted_next f c.loop-id.wanted.items c.loop-id.id c.in_ok-wants.field-0 c.loop-id.invariant.number c.loop-id.invariant.meant c.in_ok-wants.ensures in
    record {
      number = ap length c.in_ok-push.ensures.items ∙ counted_next c.loop-id.wanted.items c.loop-id.id c.in_ok-wants.field-0 c.loop-id.invariant.number;
      meant = subst (λ (ws : List Bool). (q : ℕ) → q < c.loop-id.id + 1 → is_wanted ws q ≡ f q) (sym c.in_ok-push.ensures.items) next;
    }
