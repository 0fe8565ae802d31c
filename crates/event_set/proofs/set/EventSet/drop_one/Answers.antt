use Rattle.std.proofs.Common.{◌≡◌, ◌∙◌, ◌<◌, not, [], ◌∷◌, List, length, sym, ap, subst}
use Rattle.std.specs.List.{filter}
use Rattle.event_set.specs.declared.entry.EventEntry.{EventEntry}
use Rattle.event_set.specs.declared.pending.Pending.{Pending}
use Rattle.event_set.specs.declared.places.Key.{Key}
use Rattle.event_set.specs.Events.{Events, among, without_modules}
use Rattle.event_set.specs.Keys.{list_of, stands_at}
use Rattle.event_set.proofs.Dropping.{none_left, others_left, one_less}
use Rattle.event_set.proofs.Sets.{sound_cancelled}
use Rattle.event_set.proofs.set.EventSet.drop_one.Goals as goal

pub returns-in_default-clause-none : goal.returns-in_default-clause-none
returns-in_default-clause-none c = λ _.
    let stay = none_left c.args.id c.self.inside.events.entries (stands_at c.self.inside.index) c.self.inside.next c.self.invariant c.in_default.ensures in
    subst (λ (e : Events). e ≡ without_modules (c.args.id ∷ []) e) c.self.view_is (ap (λ ps. record { list = ps; next = c.self.inside.next }) (sym stay))

pub invariant_of-self : goal.invariant_of-self
invariant_of-self c =
    sound_cancelled c.self.inside.events.entries c.remove.new.self.entries (stands_at c.self.inside.index) (stands_at c.forget.new.self) c.self.inside.next c.in-Some.found c.in-Some.place c.self.invariant
    c.in-Some.ensures.1 c.remove.ensures.entries c.remove.ensures.ordered (λ q. c.remove.ensures.updates.0 q) (λ m. c.forget.ensures.rest m)

pub returns-clause-one : goal.returns-clause-one
returns-clause-one c = λ _.
    let es = c.self.inside.events.entries in
    let ts = stands_at c.self.inside.index in
    let less = one_less es ts c.self.inside.next c.in-Some.found c.in-Some.place c.self.invariant c.in-Some.ensures.1 in
    let left = others_left c.args.id es ts c.self.inside.next c.in-Some.found c.in-Some.place c.self.invariant c.in-Some.ensures.1 c.in-Some.ensures.0 in (
      subst (λ (e : Events). length (list_of c.remove.new.self.entries) < length e.list) c.self.view_is
          (subst (λ (fs : List (Key × EventEntry)). length (list_of fs) < length (list_of es)) (sym c.remove.ensures.entries) less),
      ap (λ ps. record { list = ps; next = c.self.inside.next })
          (ap (λ (fs : List (Key × EventEntry)). filter (λ (p : Pending). not (among p.id (c.args.id ∷ []))) (list_of fs)) c.remove.ensures.entries ∙ left)
          ∙ ap (λ (e : Events). without_modules (c.args.id ∷ []) e) c.self.view_is,
    )
