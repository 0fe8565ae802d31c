-- A value is put at the place of its key.
use Rattle.std.proofs.Common.{ℕ, zero, suc, ◌+◌, ◌≡◌, ◌≢◌, ◌≤◌, ◌<◌, refl, sym, ◌∙◌, ap, subst, Bool, true, false, true≢false, cond, ◌⊎◌, inl, inr, List, [], ◌∷◌, ◌++◌, length, Option, Some, None, arith}
use Rattle.std.proofs.lemmas.List.Recursion.{is_position_or_len}
use Rattle.std.specs.List.{position_or_len}
use Rattle.std.specs.Map.{keys_of}
use Rattle.std.specs.Prelude.{slice_get, slice_set}
use Rattle.indexmap.specs.IndexMap.{insert_entry}
use Rattle.param_following.proofs.Outcomes.{none_some}
use Rattle.rest_index.specs.Noting.{with_user, HaveMoreUsers, IsNotedAt, IsOneMore}
use Rattle.rest_index.specs.Rests.{asked_of, is_among, is_live, users_of}
use Rattle.rest_index.proofs.Lists.{among_either, among_one}
use Rattle.rest_index.proofs.Notes.{known_still}
use Rattle.param_keeping.specs.Added.{IsAdded, KnowsTheSame}
use Rattle.param_keeping.specs.Stores.{Store, key_at, key_in, known_in, AreOne, HasOnePlace, IsShaped}
use Rattle.param_keeping.proofs.Added.{equal_or_not}
use Rattle.param_keeping.proofs.Finding.{known_there}
use Rattle.param_keeping.proofs.Places.{with_key}
use Rattle.param_keeping.proofs.Same.{knows_same}

abbrev first_at : {K : Type 0} → (K → Bool) → List K → ℕ
first_at p [] = 0
first_at p (x ∷ xs) = cond (p x) 0 (suc (first_at p xs))

set_there : (l : List Bool) (p : ℕ) → p < length l → is_live (slice_set l p true) p ≡ true
set_there [] p h = absurd (omega (arith, h))
set_there (b ∷ bs) zero h = refl
set_there (b ∷ bs) (suc p) h = set_there bs p (omega (arith, h))

set_else : (l : List Bool) (p q : ℕ) → q ≢ p → is_live (slice_set l p true) q ≡ is_live l q
set_else [] p q n = refl
set_else (b ∷ bs) zero zero n = absurd (n refl)
set_else (b ∷ bs) zero (suc q) n = refl
set_else (b ∷ bs) (suc p) zero n = refl
set_else (b ∷ bs) (suc p) (suc q) n = set_else bs p q (λ e. n (ap suc e))

first_is : {K : Type 0} (p : K → Bool) (xs : List K) → first_at p xs ≡ position_or_len p xs
first_is p xs = is_position_or_len (first_at p) p refl (λ x ys. by (first_at p ys) (p x)) xs
  where
    by : (n : ℕ) (b : Bool) → cond b 0 (suc n) ≡ cond b 0 (1 + n)
    by n true = refl
    by n false = omega arith

-- who is among these with one more was so before, or is that one
among_with : (u p : ℕ) (us : List ℕ) (b : Bool) → is_among u (cond b (with_user us p) us) ≡ true → (is_among u us ≡ true) ⊎ (p ≡ u)
among_with u p us false h = inl h
among_with u p us true h = by (is_among p us) h
  where
    by : (c : Bool) → is_among u (cond c us (us ++ p ∷ [])) ≡ true → (is_among u us ≡ true) ⊎ (p ≡ u)
    by true h = inl h
    by false h = then (among_either u us (p ∷ []) h)
      where
        then : (is_among u us ≡ true) ⊎ (is_among u (p ∷ []) ≡ true) → (is_among u us ≡ true) ⊎ (p ≡ u)
        then (inl e) = inl e
        then (inr e) = inr (among_one u p e)

-- a place without a key asked for nothing yet
pub fresh_place : {K V : Type 0} (same : K → K → Bool) (m : Store K V) → IsShaped same m → (p : ℕ) → p ≡ length m.entries → (q : ℕ) → is_among p (users_of m.rows q) ≡ false
fresh_place same m shaped p e q = by (is_among p (users_of m.rows q)) refl
  where
    by : (b : Bool) → is_among p (users_of m.rows q) ≡ b → b ≡ false
    by true h = let w = shaped.users_within q p h in absurd (omega (arith, w, e))
    by false h = refl

-- there is a key at each place within
key_inside : {K V : Type 0} (es : List (K × V)) (p : ℕ) → p < length es → (x : K) × (key_at es p ≡ Some x)
key_inside [] p h = absurd (omega (arith, h))
key_inside (e ∷ es) zero h = (e.0, refl)
key_inside (e ∷ es) (suc p) h = key_inside es p (omega (arith, h))

module _ {K V : Type 0} (same : K → K → Bool) (one : AreOne same) (self : (a : K) → same a a ≡ true) (k : K) (v : V) where
  abbrev place : List (K × V) → ℕ
  place es = first_at (same k) (keys_of es)

  put_there : (es : List (K × V)) → slice_get (insert_entry same es k v) (place es) ≡ Some (k, v)
  put_there [] = refl
  put_there (e ∷ es) = by (same k e.0) refl (put_there es)
    where
      by : (b : Bool) → same k e.0 ≡ b → slice_get (insert_entry same es k v) (place es) ≡ Some (k, v)
          → slice_get (cond b ((e.0, v) ∷ es) (e ∷ insert_entry same es k v)) (cond b 0 (suc (place es))) ≡ Some (k, v)
      by true h r = ap (λ (z : K). let o : Option (K × V) = Some (z, v) in o) (sym (one k e.0 h))
      by false h r = r

  others_stay : (es : List (K × V)) (q : ℕ) → q ≢ place es → slice_get (insert_entry same es k v) q ≡ slice_get es q
  others_stay [] zero n = absurd (n refl)
  others_stay [] (suc q) n = refl
  others_stay (e ∷ es) q n = by (same k e.0) q n (others_stay es)
    where
      by : (b : Bool) (q : ℕ) → q ≢ cond b 0 (suc (place es)) → ((r : ℕ) → r ≢ place es → slice_get (insert_entry same es k v) r ≡ slice_get es r)
          → slice_get (cond b ((e.0, v) ∷ es) (e ∷ insert_entry same es k v)) q ≡ slice_get (e ∷ es) q
      by true zero n r = absurd (n refl)
      by true (suc q) n r = refl
      by false zero n r = refl
      by false (suc q) n r = r q (λ e. n (ap suc e))

  own_key : (es : List (K × V)) (j : K) → key_at es (place es) ≡ Some j → same k j ≡ true
  own_key [] j h = absurd (none_some h)
  own_key (e ∷ es) j h = by (same k e.0) refl h (own_key es j)
    where
      by : (b : Bool) → same k e.0 ≡ b → key_at (e ∷ es) (cond b 0 (suc (place es))) ≡ Some j → (key_at es (place es) ≡ Some j → same k j ≡ true) → same k j ≡ true
      by true s h r = let c : e.0 ≡ j = cc in ap (same k) (sym c) ∙ s
      by false s h r = r h

  -- where a key stands that is the same, the place is one with such a key
  stands_there : (es : List (K × V)) (q : ℕ) (j : K) → key_at es q ≡ Some j → same k j ≡ true → (x : K) × (key_at es (place es) ≡ Some x)
  stands_there [] q j h s = absurd (none_some h)
  stands_there (e ∷ es) q j h s = by (same k e.0) refl q h (stands_there es)
    where
      by : (b : Bool) → same k e.0 ≡ b → (q : ℕ) → key_at (e ∷ es) q ≡ Some j → ((r : ℕ) (i : K) → key_at es r ≡ Some i → same k i ≡ true → (x : K) × (key_at es (place es) ≡ Some x))
          → (x : K) × (key_at (e ∷ es) (cond b 0 (suc (place es))) ≡ Some x)
      by true t q h r = (e.0, refl)
      by false t zero h r = let c : e.0 ≡ j = cc in absurd (true≢false (sym s ∙ ap (same k) (sym c) ∙ t))
      by false t (suc q) h r = r q j h s

  put_long : (es : List (K × V)) → length (insert_entry same es k v) ≤ suc (length es)
  put_long [] = omega arith
  put_long (e ∷ es) = by (same k e.0) (put_long es)
    where
      by : (b : Bool) → length (insert_entry same es k v) ≤ suc (length es) → length (cond b ((e.0, v) ∷ es) (e ∷ insert_entry same es k v)) ≤ suc (length (e ∷ es))
      by true h = omega arith
      by false h = omega (arith, h)

  put_longer : (es : List (K × V)) → length es ≤ length (insert_entry same es k v)
  put_longer [] = omega arith
  put_longer (e ∷ es) = by (same k e.0) (put_longer es)
    where
      by : (b : Bool) → length es ≤ length (insert_entry same es k v) → length (e ∷ es) ≤ length (cond b ((e.0, v) ∷ es) (e ∷ insert_entry same es k v))
      by true h = omega arith
      by false h = omega (arith, h)

  put_within : (es : List (K × V)) → place es < length (insert_entry same es k v)
  put_within [] = omega arith
  put_within (e ∷ es) = by (same k e.0) (put_within es)
    where
      by : (b : Bool) → place es < length (insert_entry same es k v) → cond b 0 (suc (place es)) < length (cond b ((e.0, v) ∷ es) (e ∷ insert_entry same es k v))
      by true h = omega arith
      by false h = omega (arith, h)

  still_apart : (es : List (K × V)) → HasOnePlace same es → HasOnePlace same (insert_entry same es k v)
  still_apart es apart p q i j h g s = by (equal_or_not p (place es)) (equal_or_not q (place es))
    where
      is_k : (r : ℕ) (x : K) → r ≡ place es → key_at (insert_entry same es k v) r ≡ Some x → x ≡ k
      is_k r x e h = let c : Some x ≡ Some k = sym h ∙ ap (key_at (insert_entry same es k v)) e ∙ ap key_in (put_there es) in cc

      was : (r : ℕ) (x : K) → r ≢ place es → key_at (insert_entry same es k v) r ≡ Some x → key_at es r ≡ Some x
      was r x n h = ap key_in (sym (others_stay es r n)) ∙ h

      -- another place has another key
      clash : (r : ℕ) (x : K) → r ≢ place es → key_at es r ≡ Some x → same k x ≡ true → ⊥
      clash r x n h t =
          let y = stands_there es r x h t in
          let z = one k y.0 (own_key es y.0 y.1) in
          n (apart r (place es) x y.0 h y.1 (subst (λ w. same w y.0 ≡ true) (one k x t) (own_key es y.0 y.1)))

      by : (p ≡ place es) ⊎ (p ≢ place es) → (q ≡ place es) ⊎ (q ≢ place es) → p ≡ q
      by (inl a) (inl b) = a ∙ sym b
      by (inl a) (inr b) = absurd (clash q j b (was q j b g) (subst (λ w. same w j ≡ true) (is_k p i a h) s))
      by (inr a) (inl b) = absurd (clash p i a (was p i a h) (let t : i ≡ j = one i j s in subst (λ w. same k w ≡ true) (sym (t ∙ is_k q j b g)) (self k)))
      by (inr a) (inr b) = apart p q i j (was p i a h) (was q j b g) s

  module _ (s m after : Store K V) (p : ℕ) (asked : List ℕ) (shaped : IsShaped same m) (entries : m.entries ≡ s.entries)
      (alike : (q : ℕ) → (asked_of m.rows q ≡ asked_of s.rows q) × (is_live m.live q ≡ is_live s.live q)) (room : length m.entries < length m.live)
      (at : p ≡ position_or_len (same k) (keys_of m.entries)) where
    at_place : p ≡ place m.entries
    at_place = at ∙ sym (first_is (same k) (keys_of m.entries))

    pub free : known_in same s k ≡ None → is_live m.live p ≡ false
    free unknown = by (is_live m.live p) refl
      where
        contra : is_live m.live p ≡ true → ⊥
        contra l =
            let inside = shaped.within p l in
            let x = key_inside m.entries p inside in
            let t : key_at m.entries (place m.entries) ≡ Some x.0 = ap (key_at m.entries) (sym at_place) ∙ x.1 in
            let e : k ≡ x.0 = one k x.0 (own_key m.entries x.0 t) in
            let w = with_key m.entries p k (x.1 ∙ ap (λ (z : K). Some z) (sym e)) in
            let there : slice_get s.entries p ≡ Some (k, w.0) = ap (λ (es : List (K × V)). slice_get es p) (sym entries) ∙ w.1 in
            let apart = subst (HasOnePlace same) entries shaped.apart in
            none_some (sym unknown ∙ known_there same one self s.entries s.live apart k w.0 p there (sym (alike p).1 ∙ l))

        by : (b : Bool) → is_live m.live p ≡ b → b ≡ false
        by true e = absurd (contra e)
        by false e = refl

    pub is_added : after.entries ≡ insert_entry same m.entries k v → after.live ≡ slice_set m.live p true → IsNotedAt p asked m.rows after.rows after.live → IsAdded same s p k v asked after
    is_added put live noted = record {
      there = ap (λ (es : List (K × V)). slice_get es p) put ∙ ap (slice_get (insert_entry same m.entries k v)) at_place ∙ put_there m.entries;
      own = λ j h. sym (one k j (own_key m.entries j (ap (key_at m.entries) (sym at_place) ∙ ap (λ (es : List (K × V)). key_at es p) entries ∙ h)));
      others = λ q n. ap (λ (es : List (K × V)). slice_get es q) put ∙ others_stay m.entries q (λ e. n (e ∙ sym at_place)) ∙ ap (λ (es : List (K × V)). slice_get es q) entries;
      asked_for = noted.own;
      others_asked = λ q n. noted.others q n ∙ (alike q).0;
      counts = ap (λ (l : List Bool). is_live l p) live ∙ set_there m.live p within_live;
      others_count = λ q n. ap (λ (l : List Bool). is_live l q) live ∙ set_else m.live p q n ∙ (alike q).1;
      shaped = record {
        closed = noted.closed;
        indexed = noted.indexed;
        apart = subst (HasOnePlace same) (sym put) (still_apart m.entries shaped.apart);
        within = λ q l. within q l (equal_or_not q p);
        users_within = λ q u h. user_within q u (among_with u p (users_of m.rows q) (is_among q asked) (ap (is_among u) (sym (noted.users q)) ∙ h));
        as_many = (
          let a = put_long m.entries in let b = ap length put in let c = ap length live in let d = set_long m.live p in omega (arith, a, b, c, d, room),
          let c = ap length live in let d = set_long m.live p in let e = shaped.as_many.1 in let f = noted.as_long in omega (arith, c, d, e, f),
        );
      };
    }
      where
        within_live : p < length m.live
        within_live = let a = put_within m.entries in let b = put_long m.entries in let c = at_place in omega (arith, a, b, c, room)

        user_within : (q u : ℕ) → (is_among u (users_of m.rows q) ≡ true) ⊎ (p ≡ u) → u < length after.entries
        user_within q u (inl h) = let w = shaped.users_within q u h in let a = put_longer m.entries in let b = ap length put in omega (arith, w, a, b)
        user_within q u (inr e) = let a = put_within m.entries in let b = ap length put in let c = at_place in omega (arith, a, b, c, e)

        set_long : (l : List Bool) (i : ℕ) → length (slice_set l i true) ≡ length l
        set_long [] i = refl
        set_long (b ∷ bs) zero = refl
        set_long (b ∷ bs) (suc i) = ap suc (set_long bs i)

        within : (q : ℕ) → is_live after.live q ≡ true → (q ≡ p) ⊎ (q ≢ p) → q < length after.entries
        within q l (inl e) = let a = put_within m.entries in let b = ap length put in let c = at_place in omega (arith, a, b, c, e)
        within q l (inr n) =
            let w = shaped.within q (sym (set_else m.live p q n) ∙ ap (λ (x : List Bool). is_live x q) (sym live) ∙ l) in
            let a = put_longer m.entries in let b = ap length put in omega (arith, w, a, b)

    -- where memory runs out the same is known
    pub noted_same : known_in same s k ≡ None → HasOnePlace same s.entries → after.entries ≡ insert_entry same m.entries k v → after.live ≡ m.live
        → HaveMoreUsers p asked m.rows after.rows → KnowsTheSame same s after
    noted_same unknown apart put live grown = record {
      known = knows_same same one self s after apart apart_now entries_stay count_same;
      keys = λ q j h. keys q j h (equal_or_not q p);
      asked = λ q. grown.asked q ∙ (alike q).0;
      counts = count_same;
      shaped = record {
        closed = λ u q l a. ap (λ (x : List Bool). is_live x q) live
            ∙ shaped.closed u q (sym (ap (λ (x : List Bool). is_live x u) live) ∙ l) (ap (is_among q) (sym (grown.asked u)) ∙ a);
        indexed = λ u q a. known_still p q u asked m.rows after.rows grown (shaped.indexed u q (ap (is_among q) (sym (grown.asked u)) ∙ a));
        apart = apart_now;
        within = λ q l. let w = shaped.within q (sym (ap (λ (x : List Bool). is_live x q) live) ∙ l) in let a = put_longer m.entries in let b = ap length put in omega (arith, w, a, b);
        users_within = λ q u h. user_within q u h (grown.users q);
        as_many = (
          let a = put_long m.entries in let b = ap length put in let c = ap length live in omega (arith, a, b, c, room),
          let c = ap length live in let e = shaped.as_many.1 in let f = grown.as_long in omega (arith, c, e, f),
        );
      };
    }
      where
        apart_now : HasOnePlace same after.entries
        apart_now = subst (HasOnePlace same) (sym put) (still_apart m.entries shaped.apart)

        stays : (q : ℕ) → q ≢ p → slice_get after.entries q ≡ slice_get s.entries q
        stays q n = ap (λ (es : List (K × V)). slice_get es q) put ∙ others_stay m.entries q (λ e. n (e ∙ sym at_place)) ∙ ap (λ (es : List (K × V)). slice_get es q) entries

        count_same : (q : ℕ) → is_live after.live q ≡ is_live s.live q
        count_same q = ap (λ (x : List Bool). is_live x q) live ∙ (alike q).1

        entries_stay : (q : ℕ) → is_live s.live q ≡ true → slice_get after.entries q ≡ slice_get s.entries q
        entries_stay q l = stays q (λ e. true≢false (sym (subst (λ z. is_live m.live z ≡ true) e ((alike q).1 ∙ l)) ∙ free unknown))

        keys : (q : ℕ) (j : K) → key_at s.entries q ≡ Some j → (q ≡ p) ⊎ (q ≢ p) → key_at after.entries q ≡ Some j
        keys q j h (inl e) =
            let there = subst (λ z. key_at s.entries z ≡ Some j) (e ∙ at_place) h in
            let own = one k j (own_key m.entries j (ap (λ (es : List (K × V)). key_at es (place m.entries)) entries ∙ there)) in
            ap (λ (es : List (K × V)). key_at es q) put ∙ ap (key_at (insert_entry same m.entries k v)) (e ∙ at_place) ∙ ap key_in (put_there m.entries) ∙ ap (λ (z : K). Some z) own
        keys q j h (inr n) = ap key_in (stays q n) ∙ h

        user_within : (q u : ℕ) → is_among u (users_of after.rows q) ≡ true → (users_of after.rows q ≡ users_of m.rows q) ⊎ IsOneMore p asked q (users_of m.rows q) (users_of after.rows q)
            → u < length after.entries
        user_within q u h (inl e) =
            let w = shaped.users_within q u (ap (is_among u) (sym e) ∙ h) in let a = put_longer m.entries in let b = ap length put in omega (arith, w, a, b)
        user_within q u h (inr o) = by (among_either u (users_of m.rows q) (p ∷ []) (ap (is_among u) (sym o.added) ∙ h))
          where
            by : (is_among u (users_of m.rows q) ≡ true) ⊎ (is_among u (p ∷ []) ≡ true) → u < length after.entries
            by (inl e) = let w = shaped.users_within q u e in let a = put_longer m.entries in let b = ap length put in omega (arith, w, a, b)
            by (inr e) = let f = among_one u p e in let a = put_within m.entries in let b = ap length put in let c = at_place in omega (arith, a, b, c, f)
