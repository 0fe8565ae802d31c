-- At most so many modules live in a run, and at most so many were created.
use Rattle.std.proofs.Common.{◌≡◌, ℕ, zero, suc, ◌+◌, ◌-◌, ◌≤◌, min, cond, not, ◌||◌, ◌&&◌, Bool, true, false, List, [], ◌∷◌, ◌++◌, None, refl, sym, ap, ◌∙◌, arith, subst, length, length-append, map, slice_get}
use Rattle.std.proofs.lemmas.List.{length-map}
use Rattle.std.specs.List.{filter}
use Rattle.event_set.proofs.Order.{each_map}
use Rattle.module_api.specs.Behaviour.{Behaviour}
use Rattle.model_questions.specs.Answers.{Answers}
use Rattle.model_questions.specs.declared.record.Record.{Record}
use Rattle.run_semantics.specs.World.{World, live_of}
use Rattle.run_semantics.specs.Deleting.{gone, subtree_of}
use Rattle.run_semantics.specs.Event.{begun}
use Rattle.run_semantics.specs.Run.{record_under, room_in, with_submodules, world_at, after}
use Rattle.run_semantics.specs.Laws.{Each, IsBounded}
use Rattle.run_semantics.specs.Subtree.{among, ids_from, stands_in}
use Rattle.run_semantics.proofs.Alive.{above_none, among_append, among_filter, each_among}
use Rattle.run_semantics.proofs.Always.{LastsAlways, always}
use Rattle.run_semantics.proofs.Lasting.{Lasts, by_steps, not_full}
use Rattle.run_semantics.proofs.Living.{all_kept}
use Rattle.run_semantics.proofs.Placing.{filter_append, filter_alike, filter_filter}

-- a list that has nothing at a place is no longer
none_there : {X : Type 0} (xs : List X) (k : ℕ) → slice_get xs k ≡ None → length xs ≤ k
none_there [] k e = omega arith
none_there (x ∷ xs) zero e = cc
none_there (x ∷ xs) (suc k) e = let l = none_there xs k e in omega (arith, l)

-- ---- how many live

ids_append : (k : ℕ) (rs more : List Record) → ids_from k (rs ++ more) ≡ ids_from k rs ++ ids_from (k + length rs) more
ids_append k [] more = let same : k ≡ k + 0 = omega arith in ap (λ n. ids_from n more) same
ids_append k (r ∷ rs) more = let same : suc k + length rs ≡ k + suc (length rs) = omega arith in ap (λ ids. k ∷ ids) (ids_append (suc k) rs more ∙ ap (λ n. ids_from (suc k) rs ++ ids_from n more) same)

length_ids : (k : ℕ) (rs : List Record) → length (ids_from k rs) ≡ length rs
length_ids k [] = refl
length_ids k (r ∷ rs) = ap suc (length_ids (suc k) rs)

ids_above : (k : ℕ) (rs : List Record) → Each (λ id. k ≤ id) (ids_from k rs)
ids_above k [] = tt
ids_above k (r ∷ rs) = (omega arith, each_map (λ id. suc k ≤ id) (λ id. k ≤ id) (ids_from (suc k) rs) (λ id l. omega (arith, l)) (ids_above (suc k) rs))

not_false : (a : Bool) → a ≡ false → not a ≡ true
not_false false e = refl
not_false true e = cc

-- all that are created live, besides those that lived
pub created_live : (w v : World) (more : List Record) → Each (λ k. k ≤ length w.records) w.dead → v.records ≡ w.records ++ more → v.dead ≡ w.dead → live_of v ≡ live_of w ++ ids_from (1 + length w.records) more
created_live w v more within records dead =
    let f : ℕ → Bool = λ id. not (among id w.dead) in
    let next : List ℕ = ids_from (1 + length w.records) more in
    let kept : filter f next ≡ next = all_kept f next (each_map (λ id. 1 + length w.records ≤ id) (λ id. f id ≡ true) next (λ id l. not_false (among id w.dead) (above_none id (length w.records) w.dead (omega (arith, l)) within)) (ids_above (1 + length w.records) more)) in
    ap (λ ids. filter (λ id. not (among id ids)) (ids_from 1 v.records)) dead
    ∙ (ap (filter f) (ap (λ (rs : List Record). ids_from 1 rs) records ∙ ids_append 1 w.records more)
    ∙ (filter_append f (ids_from 1 w.records) next ∙ ap (λ ids. live_of w ++ ids) kept))

more_live : (w v : World) (more : List Record) → Each (λ k. k ≤ length w.records) w.dead → v.records ≡ w.records ++ more → v.dead ≡ w.dead → length (live_of v) ≡ length (live_of w) + length more
more_live w v more within records dead =
    let next : List ℕ = ids_from (1 + length w.records) more in
    omega (arith, ap (λ (ids : List ℕ). length ids) (created_live w v more within records dead), length-append (live_of w) next, length_ids (1 + length w.records) more)

split : (q : ℕ → Bool) (xs : List ℕ) → length (filter q xs) + length (filter (λ k. not (q k)) xs) ≡ length xs
split q [] = refl
split q (x ∷ xs) = by (q x) (split q xs)
  where
    by : (t : Bool) → length (filter q xs) + length (filter (λ k. not (q k)) xs) ≡ length xs → length (cond t (x ∷ filter q xs) (filter q xs)) + length (cond (not t) (x ∷ filter (λ k. not (q k)) xs) (filter (λ k. not (q k)) xs)) ≡ suc (length xs)
    by true e = omega (arith, e)
    by false e = omega (arith, e)

neither : (d i : Bool) → not (d || i) ≡ (not d && not i)
neither true i = refl
neither false i = refl

-- those that are deleted are no more among them
fewer_live : (w : World) (q : ℕ → Bool) → length (live_of (gone (filter q (live_of w)) w)) + length (filter q (live_of w)) ≡ length (live_of w)
fewer_live w q =
    let ids : List ℕ = filter q (live_of w) in
    let xs : List ℕ = ids_from 1 w.records in
    let whole : live_of (gone ids w) ≡ filter (λ k. not (q k)) (live_of w) =
    filter_alike (λ k. not (among k (w.dead ++ ids))) (λ k. not (among k w.dead) && not (among k ids)) xs (each_among _ xs (λ k e. ap not (among_append k w.dead ids) ∙ neither (among k w.dead) (among k ids)))
    ∙ (sym (filter_filter (λ k. not (among k w.dead)) (λ k. not (among k ids)) xs)
    ∙ filter_alike (λ k. not (among k ids)) (λ k. not (q k)) (live_of w) (each_among _ (live_of w) (λ k e. ap not (among_filter k q (live_of w) ∙ ap (λ t. t && q k) e)))) in
    omega (arith, ap (λ (ids : List ℕ). length ids) whole, split q (live_of w))

-- ---- what is so in every world

-- so few live, so few were created, and all of these live or are dead
record IsFew (w : World) : Type 0 where
  live : length (live_of w) ≤ 65536
  created : length w.records ≤ 1000000
  all : length (live_of w) + length w.dead ≡ length w.records

room_for : (n created dead live : ℕ) → n ≤ min (65536 - (created - dead)) (1000000 - created) → live + dead ≡ created → live ≤ 65536 → created ≤ 1000000 → (live + n ≤ 65536) × (created + n ≤ 1000000)
room_for n created dead live h e l c = (omega (arith, h, e, l), omega (arith, h, c))

few_more : (w v : World) (more : List Record) (n : ℕ) → Each (λ k. k ≤ length w.records) w.dead → v.records ≡ w.records ++ more → v.dead ≡ w.dead → n ≤ room_in w → length more ≡ n → IsFew w → IsFew v
few_more w v more n within records dead room long h =
    let most = room_for n (length w.records) (length w.dead) (length (live_of w)) room h.all h.live h.created in
    let one = most.0 in
    let two = most.1 in
    let lives = more_live w v more within records dead in
    let count : length v.records ≡ length w.records + length more = ap (λ (rs : List Record). length rs) records ∙ length-append w.records more in
    let all = h.all in
    record {
      live = omega (arith, one, lives, long);
      created = omega (arith, two, count, long);
      all = omega (arith, lives, count, all, ap (λ (ids : List ℕ). length ids) dead);
    }

few_last : (b : Behaviour) (m : Answers) → Lasts b m IsFew
few_last b m = record {
  asked = λ q w n f g p. record { live = p.live; created = p.created; all = p.all };
  emitted = λ e w n t f g p. record { live = p.live; created = p.created; all = p.all };
  recorded = λ s w f g p. record { live = p.live; created = p.created; all = p.all };
  inserted = λ e w n t live short f g p. record { live = p.live; created = p.created; all = p.all };
  cancelled = λ id timer w f g p. record { live = p.live; created = p.created; all = p.all };
  transmitted = λ ts w f g p. record { live = p.live; created = p.created; all = p.all };
  joined = λ gate to w f g p. record { live = p.live; created = p.created; all = p.all };
  ended = λ w f g p. record { live = p.live; created = p.created; all = p.all };
  called = λ id reason i w e f g p. record { live = p.live; created = p.created; all = p.all };
  finished = λ id w f g p. record { live = p.live; created = p.created; all = p.all };
  gone = λ target w live f g p.
      let fewer = fewer_live w (λ n. stands_in w.records target n) in
      let more = length-append w.dead (subtree_of target w) in
      let l = p.live in
      let all = p.all in
      record { live = omega (arith, fewer, l); created = p.created; all = omega (arith, fewer, more, all) };
  created = λ parent c class w live room deep f g p. few_more w _ _ 1 f.dead refl refl (not_full (room_in w) room) refl p;
  set_up = by_steps m IsFew (λ id w n f g p. record { live = p.live; created = p.created; all = p.all })
      (λ parent bs w n few f g p. few_more w (with_submodules parent bs w) (map (record_under parent) bs) (length bs) f.dead refl refl (none_there bs (room_in w) few) (length-map bs (record_under parent)) p);
  started = λ ids w e live fresh f g p. record { live = p.live; created = p.created; all = p.all };
}

few_always : (b : Behaviour) (m : Answers) → LastsAlways b m IsFew
few_always b m = record {
  lasts = few_last b m;
  at_first = record { live = omega arith; created = omega arith; all = refl };
  network = λ name. record { live = omega arith; created = omega arith; all = refl };
  begins = λ w u p rest e looked f h. subst (λ v. IsFew (begun p rest v)) looked.same (record { live = h.live; created = h.created; all = h.all });
}

pub bounded_after : (b : Behaviour) (m : Answers) (n : ℕ) → IsBounded (world_at (after b m n))
bounded_after b m n = let f = always b m IsFew (few_always b m) n in record { live = f.live; created = f.created }
