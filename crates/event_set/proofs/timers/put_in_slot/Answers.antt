use Rattle.std.proofs.Common.{◌≡◌, ◌<◌, ◌∙◌, length, subst, ap, sym, List, Option, slice_set, slice_get, unwrap_or, cond, Some}
use Rattle.std.specs.BTreeMap.{is_at}
use Rattle.event_set.specs.declared.places.Key.{Key}
use Rattle.event_set.specs.declared.timers.First.{First}
use Rattle.event_set.specs.declared.timers.First.TheVariants.{Free}
use Rattle.event_set.specs.Keys.{first_at, timer_order}
use Rattle.event_set.proofs.Slots.{first_put, slot_read}
use Rattle.event_set.proofs.timers.put_in_slot.Goals as goal

pub returns-clause-ok : goal.returns-clause-ok
returns-clause-ok c = λ t.
    let id = c.args.timer.id in
    let firsts = c.reach.new.firsts.items in
    let there : id < length c.as_slice.result.now = subst (λ n. id < n) (sym c.as_slice.ensures.len) c.in_ok-reach.ensures.long in
    let within : id < length firsts = subst (λ (xs : List First). id < length xs) c.as_slice.ensures.value there in
    let free : unwrap_or (slice_get firsts id) Free ≡ Free =
    ap (λ (xs : List First). unwrap_or (slice_get xs id) Free) (sym c.as_slice.ensures.value) ∙ slot_read c.as_slice.result.now id _ there c.in-Free.is in
    ap (λ (s : First). first_at (slice_set firsts id s) t) c.held.ensures
    ∙ first_put firsts c.args.timer c.args.key.now within free t
    ∙ ap (λ (o : Option Key). cond (is_at (timer_order c.args.timer) t) (Some c.args.key.now) o) (c.in_ok-reach.ensures.same t)
