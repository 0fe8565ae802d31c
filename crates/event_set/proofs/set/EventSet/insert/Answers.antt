use Rattle.std.proofs.Common.{◌≡◌, ◌∙◌, ◌+◌, ◌<◌, None, ap, sym, subst, to_z, of_z}
use mir.Syntax.{w16}
use Rattle.std.proofs.Math.Facts.{to_z-of_z}
use Rattle.event_set.specs.Events.{Events, scheduled}
use Rattle.event_set.specs.Order.{Each, inserted}
use Rattle.event_set.specs.declared.places.Key.{Key}
use Rattle.event_set.specs.declared.places.Mark.{Mark}
use Rattle.event_set.specs.declared.entry.EventEntry.{EventEntry}
use Rattle.event_set.specs.Keys.{pending_of, list_of, stands_at, with_mark, mark_in, mark_of}
use Rattle.event_set.specs.Timers.{is_pending}
use Rattle.event_set.proofs.Sets.{free_if, sound_more, sound_same, sound_undone, list_inserted}
use Rattle.event_set.proofs.set.EventSet.insert.Goals as goal

pub note-requires : goal.note-requires
note-requires c =
    let ts = stands_at c.self.inside.index in
    ap ts c.mark_in-mark.ensures
    ∙ free_if c.self.inside.events.entries ts c.self.inside.next c.args.id c.args.what c.self.invariant (ap (λ (e : Events). is_pending c.args.id c.args.what e.list) c.self.view_is ∙ c.requires.once)

pub invariant_of-self : goal.invariant_of-self
invariant_of-self c = sound_same c.self.inside.events.entries (stands_at c.self.inside.index) (stands_at c.note.new.self) c.self.inside.next c.self.invariant c.in_err-note.ensures.err

pub invariant_of-self-in-Err : goal.invariant_of-self-in-Err
invariant_of-self-in-Err c =
    let es = c.self.inside.events.entries in
    let ts = stands_at c.self.inside.index in
    let free : ts (mark_in c.args.id c.self.inside.next c.args.what) ≡ None = free_if es ts c.self.inside.next c.args.id c.args.what c.self.invariant (ap (λ (e : Events). is_pending c.args.id c.args.what e.list) c.self.view_is ∙ c.requires.once) in
    sound_undone es c.put_entry.new.events.entries ts (stands_at c.note.new.self) (stands_at c.forget.new.self) c.self.inside.next c.mark_in-mark.result c.key_of-key.result c.self.invariant c.in-Err.ensures.err
    (ap ts c.mark_in-mark.ensures ∙ free) (λ q. c.in_ok-note.ensures.ok q) (λ q. c.forget.ensures.rest q)

pub invariant_of-self-2 : goal.invariant_of-self-2
invariant_of-self-2 c =
    let es = c.self.inside.events.entries in
    let ts = stands_at c.self.inside.index in
    let e = c.in_ok-entry.entry in
    let number : c.key_of-key.result.number ≡ c.self.inside.next = ap (λ (k : Key). k.number) c.key_of-key.ensures in
    let marked : c.mark_in-mark.result ≡ mark_of c.key_of-key.result e = c.mark_in-mark.ensures ∙ (λ i. mark_in (sym c.in_ok-entry.ensures.id i) (sym number i) (sym c.in_ok-entry.ensures.what i)) in
    let free : ts (mark_in c.args.id c.self.inside.next c.args.what) ≡ None = free_if es ts c.self.inside.next c.args.id c.args.what c.self.invariant (ap (λ (e : Events). is_pending c.args.id c.args.what e.list) c.self.view_is ∙ c.requires.once) in
    sound_more es c.put_entry.new.events.entries ts (stands_at c.note.new.self) c.self.inside.next c.key_of-key.result e c.self.invariant number
    (ap ts (sym marked ∙ c.mark_in-mark.ensures) ∙ free)
    c.in_default.ensures.entries c.in_default.ensures.ordered c.in_default.ensures.places
    (λ m. c.in_ok-note.ensures.ok m ∙ ap (λ (u : Mark). with_mark u c.key_of-key.result ts m) marked)

pub returns-clause-ok : goal.returns-clause-ok
returns-clause-ok c =
    let es = c.self.inside.events.entries in
    let e = c.in_ok-entry.entry in
    let listed = ap list_of c.in_default.ensures.entries ∙ list_inserted c.key_of-key.result e es (subst (λ n. Each (λ (x : Key × EventEntry). x.0.number < n) es) (sym (ap (λ (k : Key). k.number) c.key_of-key.ensures)) c.self.invariant.below) in
    let entry : pending_of (c.key_of-key.result, e) ≡ record { time = c.args.time; priority = to_z w16 (of_z w16 c.args.priority); number = c.self.inside.next; id = c.args.id; what = c.args.what } =
    (λ i. record { time = (c.key_of-key.ensures i).time; priority = (c.key_of-key.ensures i).priority; number = (c.key_of-key.ensures i).number; id = c.in_ok-entry.ensures.id i; what = c.in_ok-entry.ensures.what i }) in
    let same : record { list = list_of c.put_entry.new.events.entries; next = c.self.inside.next + 1 } ≡ scheduled c.args.time c.args.priority c.args.id c.args.what (record { list = list_of es; next = c.self.inside.next }) =
    ap (λ ps. record { list = ps; next = c.self.inside.next + 1 }) (listed ∙ ap (λ p. inserted p (list_of es)) entry ∙ ap (λ p. inserted (record { time = c.args.time; priority = p; number = c.self.inside.next; id = c.args.id; what = c.args.what }) (list_of es)) (to_z-of_z {w = w16} {z = c.args.priority} c.ranges.priority)) in
    same ∙ ap (λ (e : Events). scheduled c.args.time c.args.priority c.args.id c.args.what e) c.self.view_is
