-- What was found over a base is put into it.
use Rattle.std.proofs.Common.{ℕ, zero, suc, ◌≡◌, ◌≢◌, ◌<◌, refl, sym, ◌∙◌, ap, subst, Bool, true, false, true≢false, cond, ◌||◌, ◌==◌, eqb-true, ◌⊎◌, inl, inr, List, [], ◌∷◌, ◌++◌, length, map, Option, Some, None, Result, Ok, arith}
use Rattle.std.specs.Prelude.{slice_get}
use Rattle.std.proofs.lemmas.List.{append_assoc, append-nil}
use Rattle.std.specs.List.{AllByRecursion, IsDistinct}
use Rattle.std.specs.Map.{keys_of, lookup}
use Rattle.param_following.specs.Asking.{Asking, Done, Ask, outcome, with_value}
use Rattle.param_following.specs.Edits.{answer_of, asked_then, asked_by, IsClosed}
use Rattle.param_following.specs.Following.{Rules}
use Rattle.param_following.specs.Laws.{IsExact}
use Rattle.param_following.proofs.Outcomes.{none_some}
use Rattle.param_engine.specs.declared.finished.Finished.{Finished}
use Rattle.param_engine.specs.Tables.{Entries, known, key_of_entry, value_in, AreNoted, IsNoted, IsKept}
use Rattle.param_engine.specs.Tables.{key_at as own_key_at, keys_at as own_keys_at}
use Rattle.param_engine.specs.Working.{Grows}
use Rattle.param_engine.proofs.Entries.{known_stays, length_more, slice_get_last}
use Rattle.param_engine.proofs.Order.{closed}
use Rattle.rest_index.specs.Rests.{is_among, is_live}
use Rattle.param_keeping.specs.Added.{IsAdded, SameIsKept, KnowsTheSame, StepsArePlaces}
use Rattle.param_keeping.specs.Stores.{Keeping, Store, IsStored, known_in, key_at, key_in, keys_at, store_of}
use Rattle.param_keeping.proofs.Added.{equal_or_not, found_kept}
use Rattle.param_keeping.proofs.Places.{found, stands, with_key}
use Rattle.param_base.specs.Absorbing.{counted_with, more_if_unknown, moved_to, StandsAt, IsMet, IsPut, IsOneOf, IsPutSoFar}
use Rattle.param_base.specs.Asking.{known_by}
use Rattle.param_base.specs.Over.{known_or}
use Rattle.param_base.specs.Spots.{IsBase, over_base, second_of}

-- ---- lists

-- a place after one was put at the end
push_place : {K V : Type 0} (before : Entries K V) (places : List ℕ) → length places ≡ length before → (e : K × Finished V) (p i : ℕ) (j : K) → own_key_at (before ++ e ∷ []) i ≡ Some j
    → ((own_key_at before i ≡ Some j) × (moved_to (places ++ p ∷ []) i ≡ moved_to places i)) ⊎ ((j ≡ e.0) × (moved_to (places ++ p ∷ []) i ≡ p))
push_place [] [] l e p zero j h = let c : j ≡ e.0 = cc in inr (c, refl)
push_place [] [] l e p (suc i) j h = absurd (none_some h)
push_place [] (q ∷ qs) l e p i j h = absurd (omega (arith, l))
push_place (x ∷ xs) [] l e p i j h = absurd (omega (arith, l))
push_place (x ∷ xs) (q ∷ qs) l e p zero j h = inl (h, refl)
push_place (x ∷ xs) (q ∷ qs) l e p (suc i) j h = push_place xs qs (omega (arith, l)) e p i j h

module _ {K V F : Type 0} (rules : Rules K V F) (exact : IsExact rules) where
  -- an entry has a value
  entry_known : (es : Entries K V) (i : ℕ) (j : K) → own_key_at es i ≡ Some j → (w : V) × (known rules.same es j ≡ Some w)
  entry_known [] i j h = absurd (none_some h)
  entry_known (e ∷ es) zero j h =
      let c : e.0 ≡ j = cc in
      (e.1.value, ap (λ b. value_in (cond b (Some e.1) (lookup (rules.same j) es))) (ap (rules.same j) c ∙ exact.self j))
  entry_known (e ∷ es) (suc i) j h = by (rules.same j e.0) (entry_known es i j h)
    where
      by : (b : Bool) → (w : V) × (known rules.same es j ≡ Some w) → (w : V) × (value_in (cond b (Some e.1) (lookup (rules.same j) es)) ≡ Some w)
      by true h = (e.1.value, refl)
      by false h = h

  -- no key comes before it in the table
  all_at : (P : K → Type 0) (xs ys : Entries K V) (e : K × Finished V) → AllByRecursion P (keys_of (xs ++ e ∷ ys)) → P e.0
  all_at P [] ys e h = h.0
  all_at P (x ∷ xs) ys e h = all_at P xs ys e h.1

  fresh : (before rest : Entries K V) (e : K × Finished V) → IsDistinct rules.same (keys_of (before ++ e ∷ rest)) → (i : ℕ) (j : K) → own_key_at before i ≡ Some j → rules.same j e.0 ≡ false
  unfolding IsDistinct
  fresh [] rest e d i j h = absurd (none_some h)
  fresh (x ∷ before) rest e d zero j h =
      let c : x.0 ≡ j = cc in
      ap (λ (z : K). rules.same z e.0) (sym c) ∙ all_at (λ y. rules.same x.0 y ≡ false) before rest e d.0
  fresh (x ∷ before) rest e d (suc i) j h = fresh before rest e d.1 i j h

  met_still : (es added : Entries K V) (k : K) → IsMet es k → IsMet (es ++ added) k
  met_still es added k m = (m.0, by es m.0 m.1)
    where
      by : (es : Entries K V) (i : ℕ) → own_key_at es i ≡ Some k → own_key_at (es ++ added) i ≡ Some k
      by [] i h = absurd (none_some h)
      by (x ∷ es) zero h = h
      by (x ∷ es) (suc i) h = by es i h

  -- what is known stands in an entry
  known_place : (es : Entries K V) (k : K) (v : V) → known rules.same es k ≡ Some v → (i : ℕ) × (own_key_at es i ≡ Some k)
  known_place [] k v h = absurd (none_some h)
  known_place (e ∷ es) k v h = by (rules.same k e.0) refl h (known_place es k v)
    where
      by : (b : Bool) → rules.same k e.0 ≡ b → value_in (cond b (Some e.1) (lookup (rules.same k) es)) ≡ Some v → (known rules.same es k ≡ Some v → (i : ℕ) × (own_key_at es i ≡ Some k))
          → (i : ℕ) × (own_key_at (e ∷ es) i ≡ Some k)
      by true s h next = (0, ap (λ (z : K). Some z) (sym (exact.same k e.0 s)))
      by false s h next = let r = next h in (suc r.0, r.1)

-- ---- askings of which all is known in both

abbrev AllSame : {K V : Type 0} → (K → Option V) → (K → Option V) → List K → Type 0
AllSame one other [] = Unit {0}
AllSame one other (k ∷ ks) = (other k ≡ one k) × AllSame one other ks

module _ {K V F : Type 0} (one other : K → Option V) where
  alike : (t : Asking K V F V) (r : Result V F) → outcome (λ j. answer_of (one j)) t ≡ Some r → AllSame one other (asked_by one t)
      → (outcome (λ j. answer_of (other j)) t ≡ Some r) × (asked_by other t ≡ asked_by one t)
  alike (Done x) r h same = (h, refl)
  alike (Ask k rest) r h same = by (one k) refl h same (λ u. alike (rest u) r)
    where
      by : (o : Option V) → one k ≡ o → with_value (answer_of o) (λ u. outcome (λ j. answer_of (one j)) (rest u)) ≡ Some r
          → (other k ≡ one k) × AllSame one other (asked_then o (λ u. asked_by one (rest u)))
          → ((u : V) → outcome (λ j. answer_of (one j)) (rest u) ≡ Some r → AllSame one other (asked_by one (rest u))
          → (outcome (λ j. answer_of (other j)) (rest u) ≡ Some r) × (asked_by other (rest u) ≡ asked_by one (rest u)))
          → (with_value (answer_of (other k)) (λ u. outcome (λ j. answer_of (other j)) (rest u)) ≡ Some r)
          × (k ∷ asked_then (other k) (λ u. asked_by other (rest u)) ≡ k ∷ asked_then o (λ u. asked_by one (rest u)))
      by None e h same next = absurd (none_some h)
      by (Some u) e h same next =
          let q : other k ≡ Some u = same.0 ∙ e in
          let n = next u h same.1 in (
            ap (λ o. with_value (answer_of o) (λ u. outcome (λ j. answer_of (other j)) (rest u))) q ∙ n.0,
            ap (λ o. k ∷ asked_then o (λ u. asked_by other (rest u))) q ∙ ap (λ l. k ∷ l) n.1,
          )

-- ---- a store with one value more

key_inside : {K V : Type 0} (es : List (K × V)) (p : ℕ) → p < length es → (k : K) × (key_at es p ≡ Some k)
key_inside [] p h = absurd (omega (arith, h))
key_inside (e ∷ es) zero h = (e.0, refl)
key_inside (e ∷ es) (suc p) h = key_inside es p (omega (arith, h))

module _ {K V F : Type 0} (rules : Rules K V F) (exact : IsExact rules) (n : ℕ) (s after : Store K V) (p : ℕ) (k : K) (v : V) (asked : List ℕ)
    (stored : IsStored rules n s) (unknown : known_in rules.same s k ≡ None) (added : IsAdded rules.same s p k v asked after) where
  -- its place didn't count
  free : is_live s.live p ≡ true → ⊥
  free l =
      let x = key_inside s.entries p (stored.shaped.within p l) in
      let c : x.0 ≡ k = added.own x.0 x.1 in
      let w = with_key s.entries p x.0 x.1 in
      none_some (sym unknown ∙ ap (known_in rules.same s) (sym c) ∙ stands rules exact s.entries s.live x.0 w.0 p stored.shaped.apart w.1 l)

  another : (q : ℕ) → is_live s.live q ≡ true → q ≢ p
  another q l e = free (subst (λ z. is_live s.live z ≡ true) e l)

  added_grows : Grows (known_in rules.same s) (known_in rules.same after)
  added_grows j u h =
      let r = found rules exact s.entries s.live j u h in
      let d = another r.0 r.2 in
      stands rules exact after.entries after.live j u r.0 added.shaped.apart (added.others r.0 d ∙ r.1) (added.others_count r.0 d ∙ r.2)

  added_only : (j : K) (u : V) → known_in rules.same after j ≡ Some u → (known_in rules.same s j ≡ Some u) ⊎ ((j ≡ k) × (u ≡ v))
  added_only j u h = let r = found rules exact after.entries after.live j u h in by r.0 r.1 r.2 (equal_or_not r.0 p)
    where
      by : (q : ℕ) → slice_get after.entries q ≡ Some (j, u) → is_live after.live q ≡ true → (q ≡ p) ⊎ (q ≢ p) → (known_in rules.same s j ≡ Some u) ⊎ ((j ≡ k) × (u ≡ v))
      by q e l (inl d) =
          let x : slice_get after.entries q ≡ slice_get after.entries p = ap (slice_get after.entries) d in
          let y : Some j ≡ Some k = ap key_in (sym e) ∙ ap key_in x ∙ ap key_in added.there in
          let z : Some u ≡ Some v = ap second_of (sym e) ∙ ap second_of x ∙ ap second_of added.there in
          let f : j ≡ k = cc in let g : u ≡ v = cc in inr (f, g)
      by q e l (inr d) = inl (stands rules exact s.entries s.live j u q stored.shaped.apart (sym (added.others q d) ∙ e) (sym (added.others_count q d) ∙ l))

  added_stands : (j : K) (q : ℕ) → StandsAt s j q → StandsAt after j q
  added_stands j q h = let d = another q h.1 in (ap key_in (added.others q d) ∙ h.0, added.others_count q d ∙ h.1)

  added_there : StandsAt after k p
  added_there = (ap key_in added.there, added.counts)

-- the key of a place stays
added_keys : {K V : Type 0} {same : K → K → Bool} (s after : Store K V) (p : ℕ) (k : K) (v : V) (asked : List ℕ) → IsAdded same s p k v asked after → (q : ℕ) (j : K) → key_at s.entries q ≡ Some j → key_at after.entries q ≡ Some j
added_keys {K = K} s after p k v asked added q j h = by (equal_or_not q p)
  where
    by : (q ≡ p) ⊎ (q ≢ p) → key_at after.entries q ≡ Some j
    by (inl d) = ap (key_at after.entries) d ∙ ap key_in added.there ∙ ap (λ (z : K). Some z) (sym (added.own j (subst (λ z. key_at s.entries z ≡ Some j) d h)))
    by (inr d) = ap key_in (added.others q d) ∙ h

-- ---- one entry more is put

module _ {K V F : Type 0} (rules : Rules K V F) (exact : IsExact rules) (start : Keeping K V) (flags : List Bool) (es : Entries K V) (own : IsKept (over_base rules start flags) es) where
  abbrev before_all : K → Option V
  before_all = known_by rules.same start flags

  abbrev own_known : K → Option V
  own_known = known rules.same es

  shut : IsClosed (over_base rules start flags) own_known
  shut = closed (over_base rules start flags) (record { same = exact.same; self = exact.self }) es own

  -- the value of a key that is known is what its asking comes to in the table
  value_comes : (k : K) (v : V) → (before_all k ≡ Some v) ⊎ (own_known k ≡ Some v)
      → outcome (λ j. answer_of (own_known j)) ((over_base rules start flags).asking k) ≡ Some (Ok v)
  value_comes k v (inl h) = ap (λ o. outcome (λ j. answer_of (own_known j)) (known_or o (rules.asking k))) h
  value_comes k v (inr h) = shut k v h

  -- what stands in the front of the table is known by it
  own_value : (before rest : Entries K V) → es ≡ before ++ rest → (i : ℕ) (j : K) → own_key_at before i ≡ Some j → (w : V) × (own_known j ≡ Some w)
  own_value before rest parts i j h =
      let x = entry_known rules exact before i j h in
      (x.0, ap (λ (l : Entries K V). known rules.same l j) parts ∙ known_stays rules.same before rest j x.0 x.1)

  module _ (s : Store K V) (stored : IsStored rules (length s.entries) s) (only : IsOneOf before_all own_known (known_in rules.same s)) where
    -- a key that stands in the base and is known in the table has the same value
    same_value : (k : K) (p : ℕ) → StandsAt s k p → (w : V) × (own_known k ≡ Some w) → known_in rules.same s k ≡ own_known k
    same_value k p h w =
        let x = with_key s.entries p k h.0 in
        let e : known_in rules.same s k ≡ Some x.0 = stands rules exact s.entries s.live k x.0 p stored.shaped.apart x.1 h.1 in
        let a = value_comes k x.0 (only k x.0 e) in
        let b = shut k w.0 w.1 in
        let c : Some (Ok x.0) ≡ Some (Ok w.0) = sym a ∙ b in
        let d : x.0 ≡ w.0 = cc in
        e ∙ ap (λ (z : V). Some z) d ∙ sym w.1

    module _ (before rest : Entries K V) (parts : es ≡ before ++ rest) (places : List ℕ)
        (stand : (i : ℕ) (j : K) → own_key_at before i ≡ Some j → StandsAt s j (moved_to places i)) where
      -- what an entry asked for has the same values, and stands where the list says
      all_same : (qs : List ℕ) (js : List K) → own_keys_at before qs ≡ map Some js → AllSame own_known (known_in rules.same s) js
      all_same [] [] h = tt
      all_same [] (j ∷ js) h = absurd (cc)
      all_same (q ∷ qs) [] h = tt
      all_same (q ∷ qs) (j ∷ js) h =
          let first : own_key_at before q ≡ Some j = cc in
          let others : own_keys_at before qs ≡ map Some js = cc in
          (same_value j (moved_to places q) (stand q j first) (own_value before rest parts q j first), all_same qs js others)

      all_moved : (qs : List ℕ) (js : List K) → own_keys_at before qs ≡ map Some js → keys_at s.entries (map (moved_to places) qs) ≡ map Some js
      all_moved [] js h = h
      all_moved (q ∷ qs) [] h = absurd (cc)
      all_moved (q ∷ qs) (j ∷ js) h =
          let first : own_key_at before q ≡ Some j = cc in
          let others : own_keys_at before qs ≡ map Some js = cc in
          ap (λ o. o ∷ keys_at s.entries (map (moved_to places) qs)) (stand q j first).0 ∙ ap (λ l. Some j ∷ l) (all_moved qs js others)

      pub all_count : (qs : List ℕ) (js : List K) → own_keys_at before qs ≡ map Some js → (p : ℕ) → is_among p (map (moved_to places) qs) ≡ true → is_live s.live p ≡ true
      all_count [] js h p on = absurd (true≢false (sym on))
      all_count (q ∷ qs) [] h p on = absurd (cc)
      all_count (q ∷ qs) (j ∷ js) h p on =
          let first : own_key_at before q ≡ Some j = cc in
          let others : own_keys_at before qs ≡ map Some js = cc in
          by (moved_to places q == p) refl on (all_count qs js others p) (stand q j first).1
        where
          by : (b : Bool) → (moved_to places q == p) ≡ b → (b || is_among p (map (moved_to places) qs)) ≡ true → (is_among p (map (moved_to places) qs) ≡ true → is_live s.live p ≡ true)
              → is_live s.live (moved_to places q) ≡ true → is_live s.live p ≡ true
          by true e on next l = subst (λ z. is_live s.live z ≡ true) (eqb-true (moved_to places q) p e) l
          by false e on next l = next on

      -- the entry as the base sees it
      module _ (k : K) (fin : Finished V) (noted : IsNoted (over_base rules start flags) own_known before (k, fin)) (none : before_all k ≡ None) where
        asks : (over_base rules start flags).asking k ≡ rules.asking k
        asks = ap (λ o. known_or o (rules.asking k)) none

        own_comes : outcome (λ j. answer_of (own_known j)) (rules.asking k) ≡ Some (Ok fin.value)
        own_comes = ap (outcome (λ j. answer_of (own_known j))) (sym asks) ∙ noted.comes

        own_places : own_keys_at before fin.asked ≡ map Some (asked_by own_known (rules.asking k))
        own_places = noted.places ∙ ap (λ t. map Some (asked_by own_known t)) asks

        both : (outcome (λ j. answer_of (known_in rules.same s j)) (rules.asking k) ≡ Some (Ok fin.value)) × (asked_by (known_in rules.same s) (rules.asking k) ≡ asked_by own_known (rules.asking k))
        both = alike own_known (known_in rules.same s) (rules.asking k) (Ok fin.value) own_comes (all_same fin.asked (asked_by own_known (rules.asking k)) own_places)

        places_there : keys_at s.entries (map (moved_to places) fin.asked) ≡ map Some (asked_by (known_in rules.same s) (rules.asking k))
        places_there = all_moved fin.asked (asked_by own_known (rules.asking k)) own_places ∙ ap (map Some) (sym both.1)

        pub put_stored : (p : ℕ) (after : Store K V) → known_in rules.same s k ≡ None
            → IsAdded rules.same s p k fin.value (map (moved_to places) fin.asked) after → IsStored rules (suc (length s.entries)) after
        put_stored p after unknown added =
            found_kept rules (length s.entries) s after p k fin.value (map (moved_to places) fin.asked) exact stored unknown both.0 places_there
            (free rules exact (length s.entries) s after p k fin.value (map (moved_to places) fin.asked) stored unknown added) added

  -- ---- the loop

  module _ (steps : StepsArePlaces rules) (e : K × Finished V) (rest : Entries K V) (places : List ℕ) (s : Store K V) (so_far : IsPutSoFar rules start flags es (e ∷ rest) places s) where
    next_parts : es ≡ (so_far.before ++ e ∷ []) ++ rest
    next_parts = so_far.parts ∙ sym (append_assoc so_far.before (e ∷ []) rest)

    -- the places that it asked for count
    pub entry_counts : (p : ℕ) → is_among p (map (moved_to places) e.1.asked) ≡ true → is_live s.live p ≡ true
    entry_counts = all_count s so_far.base so_far.only so_far.before (e ∷ rest) so_far.parts places so_far.stand
        e.1.asked (asked_by own_known ((over_base rules start flags).asking e.0)) so_far.noted.0.places

    unknown_before : known_in rules.same s e.0 ≡ None → before_all e.0 ≡ None
    unknown_before h = by (before_all e.0) refl
      where
        by : (o : Option V) → before_all e.0 ≡ o → o ≡ None
        by None g = refl
        by (Some u) g = absurd (none_some (sym h ∙ so_far.grows e.0 u g))

    -- the place of each entry, where those that stood stand still
    stand_next : (p : ℕ) (after : Store K V) → ((j : K) (q : ℕ) → StandsAt s j q → StandsAt after j q) → StandsAt after e.0 p
        → (i : ℕ) (j : K) → own_key_at (so_far.before ++ e ∷ []) i ≡ Some j → StandsAt after j (moved_to (places ++ p ∷ []) i)
    stand_next p after still here i j h = by (push_place so_far.before places so_far.as_long e p i j h)
      where
        by : ((own_key_at so_far.before i ≡ Some j) × (moved_to (places ++ p ∷ []) i ≡ moved_to places i)) ⊎ ((j ≡ e.0) × (moved_to (places ++ p ∷ []) i ≡ p))
            → StandsAt after j (moved_to (places ++ p ∷ []) i)
        by (inl g) = subst (λ z. StandsAt after j z) (sym g.1) (still j (moved_to places i) (so_far.stand i j g.0))
        by (inr g) = subst (λ z. StandsAt after j z) (sym g.1) (subst (λ (z : K). StandsAt after z p) (sym g.0) here)

    next_long : (p : ℕ) → length (places ++ p ∷ []) ≡ length (so_far.before ++ e ∷ [])
    next_long p = length_more places p ∙ ap suc so_far.as_long ∙ sym (length_more so_far.before e)

    met_next : (k : K) (v : V) → (before_all k ≡ Some v) ⊎ IsMet so_far.before k → (before_all k ≡ Some v) ⊎ IsMet (so_far.before ++ e ∷ []) k
    met_next k v (inl h) = inl h
    met_next k v (inr h) = inr (met_still rules exact so_far.before (e ∷ []) k h)

    met_added : (j : K) (u : V) → (known_in rules.same s j ≡ Some u) ⊎ ((j ≡ e.0) × (u ≡ e.1.value)) → (before_all j ≡ Some u) ⊎ IsMet (so_far.before ++ e ∷ []) j
    met_added j u (inl h) = met_next j u (so_far.met j u h)
    met_added j u (inr h) = inr (subst (IsMet (so_far.before ++ e ∷ [])) (sym h.0) (length so_far.before, ap key_of_entry (slice_get_last so_far.before e)))

    -- its key is known where the base knew it
    new_known : IsDistinct rules.same (keys_of es) → before_all e.0 ≡ None → known_in rules.same s e.0 ≡ None
    new_known distinct none = by (known_in rules.same s e.0) refl
      where
        clash : (u : V) → (before_all e.0 ≡ Some u) ⊎ IsMet so_far.before e.0 → ⊥
        clash u (inl h) = none_some (sym none ∙ h)
        clash u (inr h) = true≢false (sym (exact.self e.0) ∙ fresh rules exact so_far.before rest e (subst (λ (l : Entries K V). IsDistinct rules.same (keys_of l)) so_far.parts distinct) h.0 e.0 h.1)

        by : (o : Option V) → known_in rules.same s e.0 ≡ o → o ≡ None
        by None h = refl
        by (Some u) h = absurd (clash u (so_far.met e.0 u h))

    pub counted_so : IsDistinct rules.same (keys_of es) → (n : ℕ) → more_if_unknown (known_in rules.same s e.0) n ≡ more_if_unknown (before_all e.0) n
    counted_so distinct n = by (before_all e.0) refl
      where
        by : (o : Option V) → before_all e.0 ≡ o → more_if_unknown (known_in rules.same s e.0) n ≡ more_if_unknown o n
        by None h = ap (λ (o : Option V). more_if_unknown o n) (new_known distinct h)
        by (Some u) h = ap (λ (o : Option V). more_if_unknown o n) (so_far.grows e.0 u h)

    -- its key is known already
    put_known : (p : ℕ) → StandsAt s e.0 p → IsPutSoFar rules start flags es rest (places ++ p ∷ []) s
    put_known p here = record {
      before = so_far.before ++ e ∷ [];
      parts = next_parts;
      noted = so_far.noted.1;
      base = so_far.base;
      grows = so_far.grows;
      only = so_far.only;
      met = λ k v h. met_next k v (so_far.met k v h);
      stand = stand_next p s (λ j q h. h) here;
      as_long = next_long p;
      leaves = so_far.leaves;
    }

    -- it is added
    put_added : (p : ℕ) (after : Store K V) → known_in rules.same s e.0 ≡ None
        → IsAdded rules.same s p e.0 e.1.value (map (moved_to places) e.1.asked) after → IsPutSoFar rules start flags es rest (places ++ p ∷ []) after
    put_added p after unknown added = record {
      before = so_far.before ++ e ∷ [];
      parts = next_parts;
      noted = so_far.noted.1;
      base = steps (suc (length s.entries)) after exact
          (put_stored s so_far.base so_far.only so_far.before (e ∷ rest) so_far.parts places so_far.stand e.0 e.1 so_far.noted.0 (unknown_before unknown) p after unknown added);
      grows = λ j u h. added_grows rules exact (length s.entries) s after p e.0 e.1.value (map (moved_to places) e.1.asked) so_far.base unknown added j u (so_far.grows j u h);
      only = λ j u h. by j u (added_only rules exact (length s.entries) s after p e.0 e.1.value (map (moved_to places) e.1.asked) so_far.base unknown added j u h);
      met = λ j u h. met_added j u (added_only rules exact (length s.entries) s after p e.0 e.1.value (map (moved_to places) e.1.asked) so_far.base unknown added j u h);
      stand = stand_next p after
          (added_stands rules exact (length s.entries) s after p e.0 e.1.value (map (moved_to places) e.1.asked) so_far.base unknown added)
          (added_there rules exact (length s.entries) s after p e.0 e.1.value (map (moved_to places) e.1.asked) so_far.base unknown added);
      as_long = next_long p;
      leaves = record {
        keys = λ q k h. added_keys s after p e.0 e.1.value (map (moved_to places) e.1.asked) added q k (so_far.leaves.keys q k h);
        alone = λ q k h free.
            let d = elsewhere q k h free in
            let a = so_far.leaves.alone q k h free in
            (added.others q d ∙ a.0, added.others_asked q d ∙ a.1, added.others_count q d ∙ a.2);
      };
    }
      where
        -- the entry has a value
        met : (w : V) × (own_known e.0 ≡ Some w)
        met = own_value (so_far.before ++ e ∷ []) rest next_parts (length so_far.before) e.0 (ap key_of_entry (slice_get_last so_far.before e))

        -- what counts, or isn't known in the table, is at another place
        elsewhere : (q : ℕ) (k : K) → key_at start.entries q ≡ Some k → (is_live flags q ≡ true) ⊎ (own_known k ≡ None) → q ≢ p
        elsewhere q k h (inl l) = another rules exact (length s.entries) s after p e.0 e.1.value (map (moved_to places) e.1.asked) so_far.base unknown added q ((so_far.leaves.alone q k h (inl l)).2 ∙ l)
        elsewhere q k h (inr none) = λ d.
            let same : k ≡ e.0 = added.own k (subst (λ z. key_at s.entries z ≡ Some k) d (so_far.leaves.keys q k h)) in
            none_some (sym none ∙ ap own_known same ∙ met.1)

        -- the value of the entry is the one that the table knows
        its_value : own_known e.0 ≡ Some e.1.value
        its_value =
            let w = own_value (so_far.before ++ e ∷ []) rest next_parts
            (length so_far.before) e.0 (ap key_of_entry (slice_get_last so_far.before e)) in
            let c : Some (Ok w.0) ≡ Some (Ok e.1.value) = sym (shut e.0 w.0 w.1) ∙ so_far.noted.0.comes in
            let d : w.0 ≡ e.1.value = cc in
            w.1 ∙ ap (λ (z : V). Some z) d

        by : (j : K) (u : V) → (known_in rules.same s j ≡ Some u) ⊎ ((j ≡ e.0) × (u ≡ e.1.value)) → (before_all j ≡ Some u) ⊎ (own_known j ≡ Some u)
        by j u (inl h) = so_far.only j u h
        by j u (inr h) = inr (ap own_known h.0 ∙ its_value ∙ ap (λ (z : V). Some z) (sym h.1))

    pub put_next : (p : ℕ) (after : Store K V) → IsPut rules.same s e.0 e.1.value (map (moved_to places) e.1.asked) p after
        → IsPutSoFar rules start flags es rest (places ++ p ∷ []) after
    put_next p after (inl h) = subst (IsPutSoFar rules start flags es rest (places ++ p ∷ [])) (sym h.0) (put_known p h.1)
    put_next p after (inr h) = put_added p after h.0 h.1

  -- ---- the same, as the code has it

  -- at first nothing is put
  pub put_start : IsBase rules start flags → (rest : Entries K V) (places : List ℕ) → rest ≡ es → places ≡ [] → IsPutSoFar rules start flags es rest places (store_of start flags)
  put_start base rest places e f = record {
    before = [];
    parts = sym e;
    noted = subst (AreNoted (over_base rules start flags) own_known []) (sym e) own.noted;
    base = base;
    grows = λ k v h. h;
    only = λ k v h. inl h;
    met = λ k v h. inl h;
    stand = λ i k h. absurd (none_some h);
    as_long = ap length f;
    leaves = record { keys = λ q k h. h; alone = λ q k h free. (refl, refl, refl) };
  }

  module _ (rest : Entries K V) (places : List ℕ) (s : Store K V) (so_far : IsPutSoFar rules start flags es rest places s) where
    -- where memory runs out, all is known as before
    pub put_short : SameIsKept rules → StepsArePlaces rules → (after : Store K V) → KnowsTheSame rules.same s after
        → IsStored rules (length after.entries) after × Grows before_all (known_in rules.same after) × IsOneOf before_all own_known (known_in rules.same after)
    put_short same steps after h = (
      steps (length s.entries) after exact (same (length s.entries) s after so_far.base h),
      λ k v e. h.known k ∙ so_far.grows k v e,
      λ k v e. so_far.only k v (sym (h.known k) ∙ e),
    )

    -- at the end all is put
    pub put_all : rest ≡ [] → Grows own_known (known_in rules.same s)
    put_all none k v h =
        let r = known_place rules exact es k v h in
        let parts : es ≡ so_far.before = so_far.parts ∙ ap (λ (l : Entries K V). so_far.before ++ l) none ∙ append-nil so_far.before in
        let there : own_key_at so_far.before r.0 ≡ Some k = ap (λ (l : Entries K V). own_key_at l r.0) (sym parts) ∙ r.1 in
        same_value s so_far.base so_far.only k (moved_to places r.0) (so_far.stand r.0 k there) (v, h) ∙ h

    module _ (k : K) (fin : Finished V) (left : Entries K V) (first : rest ≡ (k, fin) ∷ left) (slice : List ℕ) (is_slice : slice ≡ places) where
      so_far_first : IsPutSoFar rules start flags es ((k, fin) ∷ left) places s
      so_far_first = subst (λ l. IsPutSoFar rules start flags es l places s) first so_far

      pub counts_there : StepsArePlaces rules → (p : ℕ) → is_among p (map (moved_to slice) fin.asked) ≡ true → is_live s.live p ≡ true
      counts_there steps p on = entry_counts steps (k, fin) left places s so_far_first p (ap (λ l. is_among p (map (moved_to l) fin.asked)) (sym is_slice) ∙ on)

      pub put_further : StepsArePlaces rules → (p : ℕ) (after : Store K V) (more : List ℕ) → more ≡ places ++ p ∷ [] → IsPut rules.same s k fin.value (map (moved_to slice) fin.asked) p after
          → IsPutSoFar rules start flags es left more after
      put_further steps p after more e h =
          subst (λ l. IsPutSoFar rules start flags es left l after) (sym e)
          (put_next steps (k, fin) left places s so_far_first p after (subst (λ l. IsPut rules.same s k fin.value (map (moved_to l) fin.asked) p after) is_slice h))

      pub put_counted : StepsArePlaces rules → IsDistinct rules.same (keys_of es) → (n m : ℕ) → m ≡ more_if_unknown (known_in rules.same s k) n
          → counted_with before_all left m ≡ counted_with before_all rest n
      put_counted steps distinct n m e =
          ap (counted_with before_all left) (e ∙ counted_so steps (k, fin) left places s so_far_first distinct n)
          ∙ ap (λ (l : Entries K V). counted_with before_all l n) (sym first)
