-- In every world of a run exactly the simple modules stand that were started and live.
use Rattle.std.proofs.Common.{◌≡◌, ℕ, suc, ◌+◌, ◌≤◌, ◌<◌, ◌==◌, nat_lt, cond, Bool, true, false, true≢false, not, ◌&&◌, ◌||◌, List, [], ◌∷◌, ◌++◌, Option, Some, None, refl, sym, ap, ◌∙◌, arith, subst, map, length, length-append, append-nil, if◌then◌else◌}
use Rattle.std.proofs.lemmas.Bool.Decides.{nat_tests}
use Rattle.std.specs.List.{filter}
use Rattle.event_set.proofs.Order.{each_append, each_map}
use Rattle.module_api.specs.Behaviour.{Behaviour}
use Rattle.model_questions.specs.Answers.{Answers}
use Rattle.model_questions.specs.declared.record.Record.{Record}
use Rattle.run_semantics.specs.declared.traces.Instance.{Instance}
use Rattle.run_semantics.specs.Calls.{with_state}
use Rattle.run_semantics.specs.Deleting.{gone, subtree_of}
use Rattle.run_semantics.specs.Event.{begun}
use Rattle.run_semantics.specs.Laws.{Each, parts_standing}
use Rattle.run_semantics.specs.Run.{Part, with_class, parts_from, parts_of, needs_of, fresh, part_of, standing, with_instance, with_instances, with_started, placed, world_at, after}
use Rattle.run_semantics.specs.Subtree.{among, ids_from}
use Rattle.run_semantics.specs.World.{World, is_live}
use Rattle.run_semantics.proofs.Alive.{above_none, among_append, among_more, each_among, each_filter, live_is, live_within}
use Rattle.run_semantics.proofs.Always.{LastsAlways, always}
use Rattle.run_semantics.proofs.Lasting.{AreLive, AreNew, Lasts, by_steps}

-- ---- lists that are filtered

pub filter_append : {X : Type 0} (f : X → Bool) (xs ys : List X) → filter f (xs ++ ys) ≡ filter f xs ++ filter f ys
filter_append f [] ys = refl
filter_append f (x ∷ xs) ys = by (f x) (filter_append f xs ys)
  where
    by : (t : Bool) → filter f (xs ++ ys) ≡ filter f xs ++ filter f ys → cond t (x ∷ filter f (xs ++ ys)) (filter f (xs ++ ys)) ≡ cond t (x ∷ filter f xs) (filter f xs) ++ filter f ys
    by true e = ap (λ zs. x ∷ zs) e
    by false e = e

pub filter_alike : {X : Type 0} (f g : X → Bool) (xs : List X) → Each (λ x. f x ≡ g x) xs → filter f xs ≡ filter g xs
filter_alike f g [] h = refl
filter_alike f g (x ∷ xs) h = ap (λ t. cond t (x ∷ filter f xs) (filter f xs)) h.0 ∙ by (g x) (filter_alike f g xs h.1)
  where
    by : (t : Bool) → filter f xs ≡ filter g xs → cond t (x ∷ filter f xs) (filter f xs) ≡ cond t (x ∷ filter g xs) (filter g xs)
    by true e = ap (λ zs. x ∷ zs) e
    by false e = e

filter_none : {X : Type 0} (f : X → Bool) (xs : List X) → Each (λ x. f x ≡ false) xs → filter f xs ≡ []
filter_none f [] h = refl
filter_none f (x ∷ xs) h = ap (λ t. cond t (x ∷ filter f xs) (filter f xs)) h.0 ∙ filter_none f xs h.1

pub filter_filter : {X : Type 0} (f g : X → Bool) (xs : List X) → filter g (filter f xs) ≡ filter (λ x. f x && g x) xs
filter_filter f g [] = refl
filter_filter f g (x ∷ xs) = by (f x) (g x) refl (filter_filter f g xs)
  where
    by : (s t : Bool) → g x ≡ t → filter g (filter f xs) ≡ filter (λ x. f x && g x) xs → filter g (cond s (x ∷ filter f xs) (filter f xs)) ≡ cond (s && t) (x ∷ filter (λ x. f x && g x) xs) (filter (λ x. f x && g x) xs)
    by true true e h = ap (λ c. cond c (x ∷ filter g (filter f xs)) (filter g (filter f xs))) e ∙ ap (λ zs. x ∷ zs) h
    by true false e h = ap (λ c. cond c (x ∷ filter g (filter f xs)) (filter g (filter f xs))) e ∙ h
    by false t e h = h

each_so : {X : Type 0} (P : X → Type 0) (xs : List X) → ((x : X) → P x) → Each P xs
each_so P [] h = tt
each_so P (x ∷ xs) h = (h x, each_so P xs h)

-- ---- parts by their ids

parts_above : (k : ℕ) (rs : List Record) → Each (λ (p : Part). k ≤ p.id) (parts_from k rs)
parts_above k [] = tt
parts_above k (r ∷ rs) = by r.class (each_map (λ (p : Part). suc k ≤ p.id) (λ (p : Part). k ≤ p.id) (parts_from (suc k) rs) (λ p l. omega (arith, l)) (parts_above (suc k) rs))
  where
    by : (class : Option (List ℕ)) → Each (λ (p : Part). k ≤ p.id) (parts_from (suc k) rs) → Each (λ (p : Part). k ≤ p.id) (with_class k class (parts_from (suc k) rs))
    by None h = h
    by (Some kind) h = (omega arith, h)

parts_append : (k : ℕ) (rs more : List Record) → parts_from k (rs ++ more) ≡ parts_from k rs ++ parts_from (k + length rs) more
parts_append k [] more = let same : k ≡ k + 0 = omega arith in ap (λ n. parts_from n more) same
parts_append k (r ∷ rs) more = by r.class (let same : suc k + length rs ≡ k + suc (length rs) = omega arith in parts_append (suc k) rs more ∙ ap (λ n. parts_from (suc k) rs ++ parts_from n more) same)
  where
    by : (class : Option (List ℕ)) → parts_from (suc k) (rs ++ more) ≡ parts_from (suc k) rs ++ parts_from (k + suc (length rs)) more → with_class k class (parts_from (suc k) (rs ++ more)) ≡ with_class k class (parts_from (suc k) rs) ++ parts_from (k + suc (length rs)) more
    by None e = e
    by (Some kind) e = ap (λ ps. record { id = k; kind = kind } ∷ ps) e

parts_created : (k : ℕ) (rs : List Record) → Each (λ (p : Part). among p.id (ids_from k rs) ≡ true) (parts_from k rs)
parts_created k [] = tt
parts_created k (r ∷ rs) = by r.class (each_map (λ (p : Part). among p.id (ids_from (suc k) rs) ≡ true) (λ (p : Part). among p.id (ids_from k (r ∷ rs)) ≡ true) (parts_from (suc k) rs) (λ p e. later (k == p.id) p e) (parts_created (suc k) rs))
  where
    later : (t : Bool) (p : Part) → among p.id (ids_from (suc k) rs) ≡ true → (t || among p.id (ids_from (suc k) rs)) ≡ true
    later true p e = refl
    later false p e = e

    here : (t : Bool) → t ≡ true → (t || among k (ids_from (suc k) rs)) ≡ true
    here true e = refl
    here false e = cc

    by : (class : Option (List ℕ)) → Each (λ (p : Part). among p.id (ids_from k (r ∷ rs)) ≡ true) (parts_from (suc k) rs) → Each (λ (p : Part). among p.id (ids_from k (r ∷ rs)) ≡ true) (with_class k class (parts_from (suc k) rs))
    by None h = h
    by (Some kind) h = (here (k == k) same, h)
      where
        same : (k == k) ≡ true
        same = grind (arith, nat_tests)

-- ---- a part in its place

abbrev with_part : Part → List Part → List Part
with_part p [] = p ∷ []
with_part p (q ∷ qs) = if nat_lt p.id q.id then p ∷ q ∷ qs else q ∷ with_part p qs

abbrev with_parts : List Part → List Part → List Part
with_parts [] qs = qs
with_parts (p ∷ ps) qs = with_part p (with_parts ps qs)

standing_one : (i : Instance) (is : List Instance) → standing (with_instance i is) ≡ with_part (part_of i) (standing is)
standing_one i [] = refl
standing_one i (j ∷ js) = by (nat_lt i.id j.id) (standing_one i js)
  where
    by : (t : Bool) → standing (with_instance i js) ≡ with_part (part_of i) (standing js) → standing (if t then i ∷ j ∷ js else j ∷ with_instance i js) ≡ (if t then part_of i ∷ part_of j ∷ standing js else part_of j ∷ with_part (part_of i) (standing js))
    by true e = refl
    by false e = ap (λ ps. part_of j ∷ ps) e

standing_all : (b : Behaviour) (ps : List Part) (is : List Instance) → standing (with_instances (map (fresh b) ps) is) ≡ with_parts ps (standing is)
standing_all b [] is = refl
standing_all b (p ∷ ps) is = standing_one (fresh b p) (with_instances (map (fresh b) ps) is) ∙ ap (with_part p) (standing_all b ps is)

lt_true : (m n : ℕ) → m < n → nat_lt m n ≡ true
lt_true m n l = grind (arith, nat_tests)

lt_false : (m n : ℕ) → n < m → nat_lt m n ≡ false
lt_false m n l = grind (arith, nat_tests)

first_part : (p : Part) (ps : List Part) → Each (λ (q : Part). p.id < q.id) ps → with_part p ps ≡ p ∷ ps
first_part p [] h = refl
first_part p (q ∷ qs) h = rw (lt_true p.id q.id h.0) refl

behind_part : (p q : Part) (qs : List Part) → q.id < p.id → with_part p (q ∷ qs) ≡ q ∷ with_part p qs
behind_part p q qs l = rw (lt_false p.id q.id l) refl

behind_all : (q : Part) (ps qs : List Part) → Each (λ (p : Part). q.id < p.id) ps → with_parts ps (q ∷ qs) ≡ q ∷ with_parts ps qs
behind_all q [] qs h = refl
behind_all q (p ∷ ps) qs h = ap (with_part p) (behind_all q ps qs h.1) ∙ behind_part p q (with_parts ps qs) h.0

-- two selections of parts that have none in common
merged : (f g : Part → Bool) (k : ℕ) (rs : List Record) → ((p : Part) → f p ≡ true → g p ≡ false) → with_parts (filter f (parts_from k rs)) (filter g (parts_from k rs)) ≡ filter (λ p. g p || f p) (parts_from k rs)
merged f g k [] h = refl
merged f g k (r ∷ rs) h = by r.class (merged f g (suc k) rs h)
  where
    ps : List Part
    ps = parts_from (suc k) rs

    above : (t : Part → Bool) → Each (λ (p : Part). k < p.id) (filter t ps)
    above t = each_filter (λ (p : Part). suc k ≤ p.id) (λ (p : Part). k < p.id) t ps (λ p l e. omega (arith, l)) (parts_above (suc k) rs)

    with_one : (x : Part) → x.id ≡ k → (s t : Bool) → f x ≡ s → g x ≡ t → with_parts (filter f ps) (filter g ps) ≡ filter (λ p. g p || f p) ps → with_parts (cond s (x ∷ filter f ps) (filter f ps)) (cond t (x ∷ filter g ps) (filter g ps)) ≡ cond (t || s) (x ∷ filter (λ p. g p || f p) ps) (filter (λ p. g p || f p) ps)
    with_one x e true true s t later = absurd (true≢false (sym t ∙ h x s))
    with_one x e true false s t later = ap (with_part x) later ∙ first_part x (filter (λ p. g p || f p) ps) (subst (λ n. Each (λ (q : Part). n < q.id) (filter (λ p. g p || f p) ps)) (sym e) (above (λ p. g p || f p)))
    with_one x e false true s t later = behind_all x (filter f ps) (filter g ps) (subst (λ n. Each (λ (q : Part). n < q.id) (filter f ps)) (sym e) (above f)) ∙ ap (λ qs. x ∷ qs) later
    with_one x e false false s t later = later

    by : (class : Option (List ℕ)) → with_parts (filter f ps) (filter g ps) ≡ filter (λ p. g p || f p) ps → with_parts (filter f (with_class k class ps)) (filter g (with_class k class ps)) ≡ filter (λ p. g p || f p) (with_class k class ps)
    by None later = later
    by (Some kind) later = let x : Part = record { id = k; kind = kind } in with_one x refl (f x) (g x) refl refl later

-- ---- steps

-- exactly these stand, and what was started was created
pub record StandsWell (w : World) : Type 0 where
  pub stands : standing w.modules ≡ parts_standing w
  pub within : Each (λ k. k ≤ length w.records) w.started

-- a new state leaves what stands
standing_state : (id : ℕ) (state : List ℕ) (is : List Instance) → standing (with_state id state is) ≡ standing is
standing_state id state [] = refl
standing_state id state (j ∷ js) = by (j.id == id) (standing_state id state js)
  where
    by : (t : Bool) → standing (with_state id state js) ≡ standing js → standing (cond t (record j { state = state } ∷ js) (j ∷ with_state id state js)) ≡ standing (j ∷ js)
    by true later = refl
    by false later = ap (λ ps. part_of j ∷ ps) later

standing_filter : (f : ℕ → Bool) (is : List Instance) → standing (filter (λ i. f i.id) is) ≡ filter (λ p. f p.id) (standing is)
standing_filter f [] = refl
standing_filter f (i ∷ is) = by (f i.id) (standing_filter f is)
  where
    by : (t : Bool) → standing (filter (λ i. f i.id) is) ≡ filter (λ p. f p.id) (standing is) → standing (cond t (i ∷ filter (λ i. f i.id) is) (filter (λ i. f i.id) is)) ≡ cond t (part_of i ∷ filter (λ p. f p.id) (standing is)) (filter (λ p. f p.id) (standing is))
    by true e = ap (λ ps. part_of i ∷ ps) e
    by false e = e

-- whether a module stands
abbrev stands_in : World → Part → Bool
stands_in w p = among p.id w.started && is_live w p.id

live_old : (w v : World) (more : List Record) (k : ℕ) → v.records ≡ w.records ++ more → v.dead ≡ w.dead → among k (ids_from 1 w.records) ≡ true → is_live v k ≡ is_live w k
live_old w v more k records dead e =
    live_is v k
    ∙ (ap (λ t. t && not (among k v.dead)) (ap (λ (rs : List Record). among k (ids_from 1 rs)) records ∙ among_more k 1 w.records more e)
    ∙ (ap (λ ids. not (among k ids)) dead ∙ sym (live_is w k ∙ ap (λ t. t && not (among k w.dead)) e)))

-- what stands of those that were there is the same
old_stand : (w v : World) (more : List Record) → v.started ≡ w.started → v.records ≡ w.records ++ more → v.dead ≡ w.dead → filter (stands_in w) (parts_of w) ≡ filter (stands_in v) (parts_of w)
old_stand w v more started records dead =
    filter_alike (stands_in w) (stands_in v) (parts_of w)
    (each_map (λ (p : Part). among p.id (ids_from 1 w.records) ≡ true) (λ (p : Part). stands_in w p ≡ stands_in v p) (parts_of w)
    (λ p e. ap (λ ids. among p.id ids && is_live w p.id) (sym started) ∙ ap (λ t. among p.id v.started && t) (sym (live_old w v more p.id records dead e))) (parts_created 1 w.records))

-- and of the others none does
none_stand : (w v : World) (more : List Record) → v.started ≡ w.started → Each (λ k. k ≤ length w.records) w.started → filter (stands_in v) (parts_from (1 + length w.records) more) ≡ []
none_stand w v more started within =
    filter_none (stands_in v) (parts_from (1 + length w.records) more)
    (each_map (λ (p : Part). 1 + length w.records ≤ p.id) (λ (p : Part). stands_in v p ≡ false) (parts_from (1 + length w.records) more)
    (λ p l. ap (λ t. t && is_live v p.id) (ap (among p.id) started ∙ above_none p.id (length w.records) w.started (omega (arith, l)) within)) (parts_above (1 + length w.records) more))

-- more were created
stands_more : (w v : World) (more : List Record) → StandsWell w → v.modules ≡ w.modules → v.started ≡ w.started → v.dead ≡ w.dead → v.records ≡ w.records ++ more → StandsWell v
stands_more w v more h modules started dead records =
    let tail : List Part = parts_from (1 + length w.records) more in
    let parts : parts_of v ≡ parts_of w ++ tail = ap (parts_from 1) records ∙ parts_append 1 w.records more in
    let whole : filter (stands_in v) (parts_of v) ≡ filter (stands_in v) (parts_of w) =
    ap (filter (stands_in v)) parts ∙ (filter_append (stands_in v) (parts_of w) tail ∙ (ap (λ ps. filter (stands_in v) (parts_of w) ++ ps) (none_stand w v more started h.within) ∙ append-nil (filter (stands_in v) (parts_of w)))) in
    let rises = length-append w.records more in
    let longer : length w.records ≤ length v.records = omega (arith, rises, ap (λ (rs : List Record). length rs) records) in
    record {
      stands = ap standing modules ∙ (h.stands ∙ (old_stand w v more started records dead ∙ sym whole));
      within = subst (Each (λ k. k ≤ length v.records)) (sym started) (each_map (λ k. k ≤ length w.records) (λ k. k ≤ length v.records) w.started (λ k l. omega (arith, l, longer)) h.within);
    }

gone_by : (a d i : Bool) → (a && not (d || i)) ≡ ((a && not d) && not i)
gone_by true true i = refl
gone_by true false i = refl
gone_by false d i = refl

live_gone_is : (w : World) (ids : List ℕ) (k : ℕ) → is_live (gone ids w) k ≡ (is_live w k && not (among k ids))
live_gone_is w ids k =
    live_is (gone ids w) k
    ∙ (ap (λ t. among k (ids_from 1 w.records) && not t) (among_append k w.dead ids)
    ∙ (gone_by (among k (ids_from 1 w.records)) (among k w.dead) (among k ids) ∙ ap (λ t. t && not (among k ids)) (sym (live_is w k))))

and_assoc : (a b c : Bool) → ((a && b) && c) ≡ (a && (b && c))
and_assoc true b c = refl
and_assoc false b c = refl

-- some are deleted
stands_gone : (w : World) (ids : List ℕ) → StandsWell w → StandsWell (gone ids w)
stands_gone w ids h = record {
  stands =
      standing_filter (λ k. not (among k ids)) w.modules
      ∙ (ap (filter (λ (p : Part). not (among p.id ids))) h.stands
      ∙ (filter_filter (stands_in w) (λ (p : Part). not (among p.id ids)) (parts_of w)
      ∙ filter_alike _ (stands_in (gone ids w)) (parts_of w) (each_so _ (parts_of w) (λ p. and_assoc (among p.id w.started) (is_live w p.id) (not (among p.id ids)) ∙ ap (λ t. among p.id w.started && t) (sym (live_gone_is w ids p.id))))));
  within = h.within;
}

either_by : (s l f : Bool) → (f ≡ true → l ≡ true) → ((s && l) || f) ≡ ((s || f) && l)
either_by true true f h = refl
either_by true false true h = sym (h refl)
either_by true false false h = refl
either_by false l true h = sym (h refl)
either_by false l false h = refl

-- some are started
stands_started : (b : Behaviour) (w : World) (ids : List ℕ) → AreLive w ids → AreNew w ids → StandsWell w → StandsWell (with_started ids (placed b (needs_of ids w) w))
stands_started b w ids live fresh h =
    let f : Part → Bool = λ p. among p.id ids in
    let apart : (p : Part) → f p ≡ true → stands_in w p ≡ false = λ p e. ap (λ t. t && is_live w p.id) (fresh p.id e) in
    record {
      stands =
          standing_all b (needs_of ids w) w.modules
          ∙ (ap (with_parts (needs_of ids w)) h.stands
          ∙ (merged f (stands_in w) 1 w.records apart
          ∙ filter_alike _ (stands_in (with_started ids (placed b (needs_of ids w) w))) (parts_of w)
          (each_so _ (parts_of w) (λ p. either_by (among p.id w.started) (is_live w p.id) (among p.id ids) (live p.id) ∙ ap (λ t. t && is_live w p.id) (sym (among_append p.id w.started ids))))));
      within = each_append (λ k. k ≤ length w.records) w.started ids h.within (each_among (λ k. k ≤ length w.records) ids (λ k e. live_within w k (live k e)));
    }

stands_last : (b : Behaviour) (m : Answers) → Lasts b m StandsWell
stands_last b m = record {
  asked = λ q w n f g p. record { stands = p.stands; within = p.within };
  emitted = λ e w n t f g p. record { stands = p.stands; within = p.within };
  recorded = λ s w f g p. record { stands = p.stands; within = p.within };
  inserted = λ e w n t live short f g p. record { stands = p.stands; within = p.within };
  cancelled = λ id timer w f g p. record { stands = p.stands; within = p.within };
  transmitted = λ ts w f g p. record { stands = p.stands; within = p.within };
  joined = λ gate to w f g p. record { stands = p.stands; within = p.within };
  ended = λ w f g p. record { stands = p.stands; within = p.within };
  called = λ id reason i w e f g p. record { stands = standing_state id _ w.modules ∙ p.stands; within = p.within };
  finished = λ id w f g p. record { stands = p.stands; within = p.within };
  gone = λ target w live f g p. stands_gone w (subtree_of target w) p;
  created = λ parent c class w live room deep f g p. stands_more w _ _ p refl refl refl refl;
  set_up = by_steps m StandsWell (λ id w n f g p. record { stands = p.stands; within = p.within }) (λ parent bs w n few f g p. stands_more w _ _ p refl refl refl refl);
  started = λ ids w e live fresh f g p. stands_started b w ids live fresh p;
}

stands_always : (b : Behaviour) (m : Answers) → LastsAlways b m StandsWell
stands_always b m = record {
  lasts = stands_last b m;
  at_first = record { stands = refl; within = tt };
  network = λ name. record { stands = refl; within = tt };
  begins = λ w u p rest e looked f h. subst (λ v. StandsWell (begun p rest v)) looked.same (record { stands = h.stands; within = h.within });
}

-- in every world of a run exactly the simple modules stand that were started and live
pub standing_after : (b : Behaviour) (m : Answers) (n : ℕ) → standing (world_at (after b m n)).modules ≡ parts_standing (world_at (after b m n))
standing_after b m n = (always b m StandsWell (stands_always b m) n).stands
