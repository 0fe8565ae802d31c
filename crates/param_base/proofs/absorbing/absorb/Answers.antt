use Rattle.std.proofs.Common.{refl, sym, ap, subst, ◌∙◌}
use Rattle.std.specs.List.{IsDistinct}
use Rattle.std.specs.Map.{keys_of}
use Rattle.param_following.specs.Laws.{IsExact}
use Rattle.param_engine.specs.Working.{ruled}
use Rattle.param_keeping.specs.Stores.{store_of}
use Rattle.param_base.proofs.Putting.{put_start, put_short, put_all, counts_there, put_further, put_counted}
use Rattle.param_base.specs.Absorbing.{counted_with}
use Rattle.param_base.specs.Asking.{known_by}
use Rattle.param_base.proofs.absorbing.absorb.Goals as goal

pub entries-init : goal.entries-init
entries-init g c =
    let asker = c.args._asker.now in
    let rules = ruled g.A.Key.PartialEq.eq (g.A.Asker.asking asker) (g.A.Asker.circle asker) in
    let exact : IsExact rules = record { same = g.met.A.Asker.exact; self = g.met.A.Key.Eq.laws.refl } in (
      put_start rules exact c.args.kept.now c.args.live.now c.args.found.entries c.requires.found c.requires.base _ _ (c.into_iter-rest.ensures.into_iter_gives.0 ∙ c.into_entries.ensures) c.new-places.ensures,
      ap (λ l. counted_with (known_by g.A.Key.PartialEq.eq c.args.kept.now c.args.live.now) l c.args.kept.now.evaluations) (c.into_iter-rest.ensures.into_iter_gives.0 ∙ c.into_entries.ensures),
    )

pub put-requires-clause-counts : goal.put-requires-clause-counts
put-requires-clause-counts g c =
    let asker = c.args._asker.now in
    let rules = ruled g.A.Key.PartialEq.eq (g.A.Asker.asking asker) (g.A.Asker.circle asker) in
    let exact : IsExact rules = record { same = g.met.A.Asker.exact; self = g.met.A.Key.Eq.laws.refl } in
    counts_there rules exact c.args.kept.now c.args.live.now c.args.found.entries c.requires.found
    c.entries.rest c.entries.places (store_of c.entries.kept c.entries.live) c.entries.invariant.0
    c.in-Some.key c.in-Some.finished c.next.new.self c.in-Some.ensures.steps c.as_slice.result.now c.as_slice.ensures (c.steps_are_places.ensures rules)

pub entries-preserved : goal.entries-preserved
entries-preserved g c =
    let asker = c.args._asker.now in
    let rules = ruled g.A.Key.PartialEq.eq (g.A.Asker.asking asker) (g.A.Asker.circle asker) in
    let exact : IsExact rules = record { same = g.met.A.Asker.exact; self = g.met.A.Key.Eq.laws.refl } in (
      put_further rules exact c.args.kept.now c.args.live.now c.args.found.entries c.requires.found
          c.entries.rest c.entries.places (store_of c.entries.kept c.entries.live) c.entries.invariant.0
          c.in-Some.key c.in-Some.finished c.next.new.self c.in-Some.ensures.steps c.as_slice.result.now c.as_slice.ensures (c.steps_are_places.ensures rules)
          c.in_ok-place.place (store_of c.put.new.kept c.put.new.live) c.push.new.self c.in_ok-push.ensures.ok c.in_ok-place.ensures.put,
      put_counted rules exact c.args.kept.now c.args.live.now c.args.found.entries c.requires.found
          c.entries.rest c.entries.places (store_of c.entries.kept c.entries.live) c.entries.invariant.0
          c.in-Some.key c.in-Some.finished c.next.new.self c.in-Some.ensures.steps c.as_slice.result.now c.as_slice.ensures (c.steps_are_places.ensures rules) (subst (λ es. IsDistinct g.A.Key.PartialEq.eq (keys_of es)) c.into_entries.ensures c.into_iter-rest.ensures.into_iter_gives.4) _ _ c.in_ok-place.ensures.counted
          ∙ c.entries.invariant.1,
    )

pub returns-in_err-place-clause-base : goal.returns-in_err-place-clause-base
returns-in_err-place-clause-base g c =
    let asker = c.args._asker.now in
    let rules = ruled g.A.Key.PartialEq.eq (g.A.Asker.asking asker) (g.A.Asker.circle asker) in
    let exact : IsExact rules = record { same = g.met.A.Asker.exact; self = g.met.A.Key.Eq.laws.refl } in
    (put_short rules exact c.args.kept.now c.args.live.now c.args.found.entries c.requires.found
    c.entries.rest c.entries.places (store_of c.entries.kept c.entries.live) c.entries.invariant.0
    (c.same_is_kept.ensures rules) (c.steps_are_places.ensures rules) (store_of c.put.new.kept c.put.new.live) c.in_err-place.ensures.same).0

pub returns-in_err-place-clause-before : goal.returns-in_err-place-clause-before
returns-in_err-place-clause-before g c =
    let asker = c.args._asker.now in
    let rules = ruled g.A.Key.PartialEq.eq (g.A.Asker.asking asker) (g.A.Asker.circle asker) in
    let exact : IsExact rules = record { same = g.met.A.Asker.exact; self = g.met.A.Key.Eq.laws.refl } in
    (put_short rules exact c.args.kept.now c.args.live.now c.args.found.entries c.requires.found
    c.entries.rest c.entries.places (store_of c.entries.kept c.entries.live) c.entries.invariant.0
    (c.same_is_kept.ensures rules) (c.steps_are_places.ensures rules) (store_of c.put.new.kept c.put.new.live) c.in_err-place.ensures.same).1

pub returns-in_err-place-clause-only : goal.returns-in_err-place-clause-only
returns-in_err-place-clause-only g c =
    let asker = c.args._asker.now in
    let rules = ruled g.A.Key.PartialEq.eq (g.A.Asker.asking asker) (g.A.Asker.circle asker) in
    let exact : IsExact rules = record { same = g.met.A.Asker.exact; self = g.met.A.Key.Eq.laws.refl } in
    (put_short rules exact c.args.kept.now c.args.live.now c.args.found.entries c.requires.found
    c.entries.rest c.entries.places (store_of c.entries.kept c.entries.live) c.entries.invariant.0
    (c.same_is_kept.ensures rules) (c.steps_are_places.ensures rules) (store_of c.put.new.kept c.put.new.live) c.in_err-place.ensures.same).2

pub returns-in_err-push-clause-base : goal.returns-in_err-push-clause-base
returns-in_err-push-clause-base g c =
    let asker = c.args._asker.now in
    let rules = ruled g.A.Key.PartialEq.eq (g.A.Asker.asking asker) (g.A.Asker.circle asker) in
    let exact : IsExact rules = record { same = g.met.A.Asker.exact; self = g.met.A.Key.Eq.laws.refl } in
    (put_further rules exact c.args.kept.now c.args.live.now c.args.found.entries c.requires.found
    c.entries.rest c.entries.places (store_of c.entries.kept c.entries.live) c.entries.invariant.0
    c.in-Some.key c.in-Some.finished c.next.new.self c.in-Some.ensures.steps c.as_slice.result.now c.as_slice.ensures (c.steps_are_places.ensures rules)
    c.in_ok-place.place (store_of c.put.new.kept c.put.new.live) _ refl c.in_ok-place.ensures.put).base

pub returns-in_err-push-clause-before : goal.returns-in_err-push-clause-before
returns-in_err-push-clause-before g c =
    let asker = c.args._asker.now in
    let rules = ruled g.A.Key.PartialEq.eq (g.A.Asker.asking asker) (g.A.Asker.circle asker) in
    let exact : IsExact rules = record { same = g.met.A.Asker.exact; self = g.met.A.Key.Eq.laws.refl } in
    (put_further rules exact c.args.kept.now c.args.live.now c.args.found.entries c.requires.found
    c.entries.rest c.entries.places (store_of c.entries.kept c.entries.live) c.entries.invariant.0
    c.in-Some.key c.in-Some.finished c.next.new.self c.in-Some.ensures.steps c.as_slice.result.now c.as_slice.ensures (c.steps_are_places.ensures rules)
    c.in_ok-place.place (store_of c.put.new.kept c.put.new.live) _ refl c.in_ok-place.ensures.put).grows

pub returns-in_err-push-clause-only : goal.returns-in_err-push-clause-only
returns-in_err-push-clause-only g c =
    let asker = c.args._asker.now in
    let rules = ruled g.A.Key.PartialEq.eq (g.A.Asker.asking asker) (g.A.Asker.circle asker) in
    let exact : IsExact rules = record { same = g.met.A.Asker.exact; self = g.met.A.Key.Eq.laws.refl } in
    (put_further rules exact c.args.kept.now c.args.live.now c.args.found.entries c.requires.found
    c.entries.rest c.entries.places (store_of c.entries.kept c.entries.live) c.entries.invariant.0
    c.in-Some.key c.in-Some.finished c.next.new.self c.in-Some.ensures.steps c.as_slice.result.now c.as_slice.ensures (c.steps_are_places.ensures rules)
    c.in_ok-place.place (store_of c.put.new.kept c.put.new.live) _ refl c.in_ok-place.ensures.put).only

pub returns-clause-found : goal.returns-clause-found
returns-clause-found g c =
    let asker = c.args._asker.now in
    let rules = ruled g.A.Key.PartialEq.eq (g.A.Asker.asking asker) (g.A.Asker.circle asker) in
    let exact : IsExact rules = record { same = g.met.A.Asker.exact; self = g.met.A.Key.Eq.laws.refl } in
    put_all rules exact c.args.kept.now c.args.live.now c.args.found.entries c.requires.found
    c.entries.rest c.entries.places (store_of c.entries.kept c.entries.live) c.entries.invariant.0 c.in_default.ensures.steps.0

pub returns-clause-counted : goal.returns-clause-counted
returns-clause-counted g c =
    ap (λ l. counted_with (known_by g.A.Key.PartialEq.eq c.args.kept.now c.args.live.now) l c.entries.kept.evaluations) (sym c.in_default.ensures.steps.0)
    ∙ c.entries.invariant.1

pub returns-clause-alone : goal.returns-clause-alone
returns-clause-alone g c = c.entries.invariant.0.leaves
