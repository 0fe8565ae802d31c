-- No event needs more boxes than modules may live.
use Rattle.std.proofs.Common.{◌∙◌, ◌≡◌, ℕ, zero, suc, ◌+◌, ◌-◌, ◌≤◌, ◌&&◌, min, nat_le, Bool, true, false, cond, not, List, [], ◌∷◌, Option, Some, None, filter, length, slice_get, arith, ap, refl, subst, sym}
use Rattle.std.proofs.lemmas.List.Filters.{length-filter_both}
use Rattle.module_api.specs.Behaviour.{Behaviour}
use Rattle.model_questions.specs.Answers.{Answers}
use Rattle.model_data.specs.declared.model.Model.{Model}
use Rattle.model_answers.specs.Answering.{answers_of}
use Rattle.model_questions.specs.declared.record.Record.{Record}
use Rattle.event_set.specs.declared.pending.Happening.{Happening}
use Rattle.event_set.specs.declared.pending.Happening.TheVariants as happening
use Rattle.event_set.specs.declared.pending.Pending.{Pending}
use Rattle.run_semantics.specs.Perform.{Flow, On, Stopped, Broken}
use Rattle.run_semantics.specs.Laws.{parts_standing}
use Rattle.run_semantics.specs.Run.{Over, Part, Running, Stage, after, is_after_limit, parts_from, parts_of, prepared, room_in, standing, starting, unstarted, wanted, wanted_by, wanted_for, with_class, world_at}
use Rattle.run_semantics.specs.Subtree.{among, ids_from}
use Rattle.run_semantics.specs.Upcoming.{Upcoming, Comes, Nothing, upcoming}
use Rattle.run_semantics.specs.World.{World, live_of}
use Rattle.run_semantics.proofs.Alive.{among_filter}
use Rattle.run_semantics.proofs.Bounds.{bounded_after}
use Rattle.run_semantics.proofs.Looking.{beside, upcoming_looks}
use Rattle.run_semantics.proofs.Placing.{standing_after}
use Rattle.run_semantics.proofs.Setting.{IsLasting, Stays, length_created, prepared_stays}
use Rattle.kernel.specs.Seats.{needs}
use Rattle.kernel_boxes.specs.Staying.{is_held}
use Rattle.desk_server.specs.Boxes.{boxes_lacking, lacking, lacking_after, lacking_back, lacking_next, most_boxes}

-- a list that has nothing at a place is no longer
none_there : {X : Type 0} (xs : List X) (k : ℕ) → slice_get xs k ≡ None → length xs ≤ k
none_there [] k e = omega arith
none_there (x ∷ xs) zero e = cc
none_there (x ∷ xs) (suc k) e = let l = none_there xs k e in omega (arith, l)

within : (n created dead : ℕ) → n ≤ min (65536 - (created - dead)) (1000000 - created) → dead ≡ 0 → created ≤ 65536 → created + n ≤ 65536
within n created dead h z l = omega (arith, h, z, l)

-- nobody is dead, and so few were created
record IsFew (w : World) : Type 0 where
  dead : w.dead ≡ []
  few : length w.records ≤ 65536

few_last : IsLasting IsFew
few_last = record {
  asked = λ id w f l. record { dead = f.dead; few = f.few };
  created = λ parent bs w f l e.
      let room = none_there bs (room_in w) e in
      let none = ap (λ (ids : List ℕ). length ids) f.dead in
      let most = within (length bs) (length w.records) (length w.dead) room none f.few in
      record { dead = f.dead; few = omega (arith, most, length_created parent bs w) };
}

with_few : (id : ℕ) (class : Option (List ℕ)) (parts : List Part) (n : ℕ) → length parts ≤ n → length (with_class id class parts) ≤ suc n
with_few id (Some kind) parts n few = omega (arith, few)
with_few id None parts n few = omega (arith, few)

few_parts : (id : ℕ) (rs : List Record) → length (parts_from id rs) ≤ length rs
few_parts id [] = omega arith
few_parts id (r ∷ rs) = with_few id r.class (parts_from (suc id) rs) (length rs) (few_parts (suc id) rs)

few_some : (is : Part → Bool) (ps : List Part) → length (filter is ps) ≤ length ps
few_some is ps = let both = length-filter_both is (λ p. not (is p)) (λ p. refl) ps in omega (arith, both)

few_lacking : (boxes ps : List Part) → lacking boxes ps ≤ length ps
few_lacking boxes [] = omega arith
few_lacking boxes (p ∷ ps) = by (is_held p.id boxes) (few_lacking boxes ps)
  where
    by : (t : Bool) → lacking boxes ps ≤ length ps → cond t (lacking boxes ps) (suc (lacking boxes ps)) ≤ suc (length ps)
    by true l = omega (arith, l)
    by false l = omega (arith, l)

few_after : (fl : Flow) (boxes : List Part) → Stays IsFew fl → lacking_after fl boxes ≤ most_boxes
few_after (On w) boxes h = omega (arith, few_lacking boxes (needs w), few_some (λ (p : Part). among p.id (unstarted w)) (parts_of w), few_parts 1 w.records, h.few)
few_after (Stopped w) boxes h = absurd h
few_after (Broken w path f) boxes h = omega arith

pub few_boxes : (m : Model) (boxes : List Part) → boxes_lacking m boxes ≤ most_boxes
few_boxes m boxes =
    few_after (prepared (answers_of m)) boxes
    (prepared_stays IsFew (answers_of m) few_last (record { dead = refl; few = omega arith }) (λ name. record { dead = refl; few = omega arith }))

-- ---- of those that live

-- there are no more modules that pass one test than ids that pass the other, where these do
few_passing : (f : Part → Bool) (g : ℕ → Bool) → ((p : Part) → f p ≡ true → g p.id ≡ true) → (id : ℕ) (rs : List Record) → length (filter f (parts_from id rs)) ≤ length (filter g (ids_from id rs))
few_passing f g pass id [] = omega arith
few_passing f g pass id (r ∷ rs) = by r.class (few_passing f g pass (suc id) rs)
  where
    more : (t : Bool) → length (filter f (parts_from (suc id) rs)) ≤ length (filter g (ids_from (suc id) rs)) → length (filter f (parts_from (suc id) rs)) ≤ length (cond t (id ∷ filter g (ids_from (suc id) rs)) (filter g (ids_from (suc id) rs)))
    more true l = omega (arith, l)
    more false l = l

    both : (p : Part) (t u : Bool) → (t ≡ true → u ≡ true) → length (filter f (parts_from (suc id) rs)) ≤ length (filter g (ids_from (suc id) rs))
        → length (cond t (p ∷ filter f (parts_from (suc id) rs)) (filter f (parts_from (suc id) rs))) ≤ length (cond u (id ∷ filter g (ids_from (suc id) rs)) (filter g (ids_from (suc id) rs)))
    both p true true h l = omega (arith, l)
    both p true false h l = let e : false ≡ true = h refl in cc
    both p false true h l = omega (arith, l)
    both p false false h l = l

    by : (class : Option (List ℕ)) → length (filter f (parts_from (suc id) rs)) ≤ length (filter g (ids_from (suc id) rs)) → length (filter f (with_class id class (parts_from (suc id) rs))) ≤ length (filter g (id ∷ ids_from (suc id) rs))
    by (Some kind) l = both (record { id = id; kind = kind }) (f (record { id = id; kind = kind })) (g id) (pass (record { id = id; kind = kind })) l
    by None l = more (g id) l

-- both are so
first_is : (s t : Bool) → (s && t) ≡ true → s ≡ true
first_is true t e = refl
first_is false t e = cc

second_is : (s t : Bool) → (s && t) ≡ true → t ≡ true
second_is true t e = e
second_is false t e = cc

-- each of them lives
few_live : (w : World) (f : Part → Bool) → length (live_of w) ≤ most_boxes → ((p : Part) → f p ≡ true → among p.id (live_of w) ≡ true) → length (filter f (parts_of w)) ≤ most_boxes
few_live w f few live =
    let all : List ℕ = ids_from 1 w.records in
    let l = few_passing f (λ id. not (among id w.dead)) (λ p e. second_is (among p.id all) (not (among p.id w.dead)) (sym (among_filter p.id (λ id. not (among id w.dead)) all) ∙ live p e)) 1 w.records in
    omega (arith, l, few)

-- ---- at a position

few_standing : (b : Behaviour) (m : Answers) (k : ℕ) → length (standing (world_at (after b m k)).modules) ≤ most_boxes
few_standing b m k =
    let w : World = world_at (after b m k) in
    let few = few_live w (λ (p : Part). among p.id w.started && among p.id (live_of w)) (bounded_after b m k).live (λ p e. second_is (among p.id w.started) (among p.id (live_of w)) e) in
    let stand : length (standing w.modules) ≡ length (parts_standing w) = ap length (standing_after b m k) in
    omega (arith, few, stand)

pub few_back : (b : Behaviour) (m : Model) (event : ℕ) (boxes : List Part) → lacking_back b m event boxes ≤ most_boxes
few_back b m event boxes = omega (arith, few_lacking boxes (standing (world_at (after b (answers_of m) event)).modules), few_standing b (answers_of m) event)

-- ---- before an event

-- those that are started together live
starting_live : (first last : ℕ) (w : World) (id : ℕ) → among id (starting first last w) ≡ true → among id (live_of w) ≡ true
starting_live first last w id e =
    let waits : among id (unstarted w) ≡ true = first_is (among id (unstarted w)) _ (sym (among_filter id (λ k. nat_le first k && nat_le k last) (unstarted w)) ∙ e) in
    first_is (among id (live_of w)) _ (sym (among_filter id (λ k. not (among k w.started)) (live_of w)) ∙ waits)

few_wanted_for : (p : Pending) (what : Happening) (w : World) → length (live_of w) ≤ most_boxes → length (wanted_for p what w) ≤ most_boxes
few_wanted_for p (happening.Start last) w few = few_live w (λ (q : Part). among q.id (starting p.id last w)) few (λ q e. starting_live p.id last w q.id e)
few_wanted_for p (happening.Timer timer kind) w few = omega arith
few_wanted_for p (happening.Arrival kind bits payload) w few = omega arith
few_wanted_for p (happening.Delivery d) w few = omega arith

few_wanted_by : (m : Answers) (up : Upcoming) → length (live_of (beside up)) ≤ most_boxes → length (wanted_by m up) ≤ most_boxes
few_wanted_by m (Nothing w) few = omega arith
few_wanted_by m (Comes w p rest) few = by (is_after_limit m w.records p) (few_wanted_for p p.what w few)
  where
    by : (t : Bool) → length (wanted_for p p.what w) ≤ most_boxes → length (cond t [] (wanted_for p p.what w)) ≤ most_boxes
    by true l = omega arith
    by false l = l

few_wanted : (m : Answers) (w : World) → length (live_of w) ≤ most_boxes → length (wanted m w) ≤ most_boxes
few_wanted m w few = by w.ended (few_wanted_by m (upcoming m w) (subst (λ (u : World). length (live_of u) ≤ most_boxes) (upcoming_looks m w).same few))
  where
    by : (t : Bool) → length (wanted_by m (upcoming m w)) ≤ most_boxes → length (cond t [] (wanted_by m (upcoming m w))) ≤ most_boxes
    by true l = omega arith
    by false l = l

few_in : (m : Answers) (stage : Stage) (boxes : List Part) → length (live_of (world_at stage)) ≤ most_boxes → lacking_next m stage boxes ≤ most_boxes
few_in m (Running w) boxes few = let l = few_wanted m w few in omega (arith, few_lacking boxes (wanted m w), l)
few_in m (Over w outcome) boxes few = omega arith

pub few_next : (b : Behaviour) (m : Answers) (k : ℕ) (boxes : List Part) → lacking_next m (after b m k) boxes ≤ most_boxes
few_next b m k boxes = few_in m (after b m k) boxes (bounded_after b m k).live
