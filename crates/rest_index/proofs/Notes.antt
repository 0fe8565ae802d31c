-- A place is noted.
use Rattle.std.proofs.Common.{ℕ, zero, suc, ◌+◌, ◌≡◌, ◌≢◌, ◌<◌, refl, sym, ◌∙◌, ap, subst, Bool, true, false, true≢false, cond, ◌||◌, ◌&&◌, ◌-◌, ◌==◌, nat_eq, eqb-true, eq-eqb, ◌⊎◌, inl, inr, List, [], ◌∷◌, ◌++◌, length, take, Some, None, Result, Ok, Err, OnOk, OnErr, arith}
use Rattle.std.proofs.Math.ListN.{get_or}
use Rattle.std.proofs.lemmas.Option.{slice_get-get_or}
use Rattle.std.specs.Cmp.Lexicographic.{pointwise}
use Rattle.std.specs.Prelude.{slice_get, slice_set}
use Rattle.rest_index.specs.declared.row.Row.{Row}
use Rattle.rest_index.specs.Rests.{asked_in, asked_of, is_among, is_live, users_in, users_of, AreClosed, AreIndexed, Asks}
use Rattle.rest_index.specs.Noting.{with_user, AllKnow, HaveMoreUsers, IsLastAlone, IsNotedAt, IsOneMore}
use Rattle.rest_index.proofs.Lists.{among_left, among_one, among_right, among_itself, length_both, none_past, place_among, place_last}

-- ---- one row is set

pub there : (rows : List Row) (p : ℕ) (r : Row) → p < length rows → slice_get (slice_set rows p r) p ≡ Some r
there [] p r h = absurd (omega (arith, h))
there (x ∷ rows) zero r h = refl
there (x ∷ rows) (suc p) r h = there rows p r (omega (arith, h))

pub elsewhere : (rows : List Row) (p q : ℕ) (r : Row) → p ≢ q → slice_get (slice_set rows p r) q ≡ slice_get rows q
elsewhere [] p q r n = refl
elsewhere (x ∷ rows) zero zero r n = absurd (n refl)
elsewhere (x ∷ rows) zero (suc q) r n = refl
elsewhere (x ∷ rows) (suc p) zero r n = refl
elsewhere (x ∷ rows) (suc p) (suc q) r n = elsewhere rows p q r (λ e. n (ap suc e))

pub as_long : (rows : List Row) (p : ℕ) (r : Row) → length (slice_set rows p r) ≡ length rows
as_long [] p r = refl
as_long (x ∷ rows) zero r = refl
as_long (x ∷ rows) (suc p) r = ap suc (as_long rows p r)

pub equal_or_not : (p q : ℕ) → (p ≡ q) ⊎ (p ≢ q)
equal_or_not p q = by (p == q) refl
  where
    by : (b : Bool) → (p == q) ≡ b → (p ≡ q) ⊎ (p ≢ q)
    by true e = inl (eqb-true p q e)
    by false e = inr (λ h. true≢false (sym (eq-eqb p q h) ∙ e))

-- a row that asked for the same, and knows one more at most
pub row_grown : (rows : List Row) (p u : ℕ) (r : Row) → p < length rows → r.asked ≡ asked_of rows p
    → is_among u (users_of rows p) ≡ false → (r.users ≡ users_of rows p) ⊎ (r.users ≡ users_of rows p ++ u ∷ [])
    → HaveMoreUsers u (p ∷ []) rows (slice_set rows p r)
row_grown rows p u r h a unknown more = record {
  asked = λ q. asked q (equal_or_not p q);
  users = λ q. users q (equal_or_not p q);
  as_long = as_long rows p r;
}
  where
    asked : (q : ℕ) → (p ≡ q) ⊎ (p ≢ q) → asked_of (slice_set rows p r) q ≡ asked_of rows q
    asked q (inl e) = subst (λ z. asked_of (slice_set rows p r) z ≡ asked_of rows z) e (ap asked_in (there rows p r h) ∙ a)
    asked q (inr n) = ap asked_in (elsewhere rows p q r n)

    own : (r.users ≡ users_of rows p) ⊎ (r.users ≡ users_of rows p ++ u ∷ [])
        → (users_of (slice_set rows p r) p ≡ users_of rows p) ⊎ IsOneMore u (p ∷ []) p (users_of rows p) (users_of (slice_set rows p r) p)
    own (inl e) = inl (ap users_in (there rows p r h) ∙ e)
    own (inr e) = inr (record { wanted = among_itself p; unknown = unknown; added = ap users_in (there rows p r h) ∙ e })

    users : (q : ℕ) → (p ≡ q) ⊎ (p ≢ q) → (users_of (slice_set rows p r) q ≡ users_of rows q) ⊎ IsOneMore u (p ∷ []) q (users_of rows q) (users_of (slice_set rows p r) q)
    users q (inl e) = subst (λ z. (users_of (slice_set rows p r) z ≡ users_of rows z) ⊎ IsOneMore u (p ∷ []) z (users_of rows z) (users_of (slice_set rows p r) z)) e (own more)
    users q (inr n) = inl (ap users_in (elsewhere rows p q r n))

pub row_known : (rows : List Row) (p u : ℕ) (r : Row) → p < length rows → is_among u r.users ≡ true → is_among u (users_of (slice_set rows p r) p) ≡ true
row_known rows p u r h e = ap (λ o. is_among u (users_in o)) (there rows p r h) ∙ e

-- ---- what the code has

pub row_there : (rows : List Row) (p : ℕ) (r : Row) → p < length rows → r ≡ get_or rows p r → slice_get rows p ≡ Some r
row_there rows p r h e = slice_get-get_or rows p r h ∙ ap Some (sym e)

module _ {E : Type 0} (result : Result (Unit {0}) E) (before after : List ℕ) (u : ℕ) where
  pub pushed_more : OnOk result (after ≡ before ++ u ∷ []) → OnErr result (after ≡ before) → (after ≡ before) ⊎ (after ≡ before ++ u ∷ [])
  pushed_more ok err = by result ok err
    where
      by : (r : Result (Unit {0}) E) → OnOk r (after ≡ before ++ u ∷ []) → OnErr r (after ≡ before) → (after ≡ before) ⊎ (after ≡ before ++ u ∷ [])
      by (Ok x) o f = inr o
      by (Err x) o f = inl f

  pub pushed_known : OnOk result (after ≡ before ++ u ∷ []) → (Q : Type 0) → (is_among u after ≡ true → Q) → OnOk result Q
  pushed_known ok Q f = by result ok
    where
      by : (r : Result (Unit {0}) E) → OnOk r (after ≡ before ++ u ∷ []) → OnOk r Q
      by (Ok x) o = f (ap (is_among u) o ∙ among_right u before (u ∷ []) (among_itself u))
      by (Err x) o = tt

pub among_got : (xs : List ℕ) (i : ℕ) → i < length xs → is_among (get_or xs i 0) xs ≡ true
among_got [] i h = absurd (omega (arith, h))
among_got (x ∷ xs) zero h = ap (λ b. b || is_among x xs) (eq-eqb x x refl)
among_got (x ∷ xs) (suc i) h = among_right (get_or xs i 0) (x ∷ []) xs (among_got xs i (omega (arith, h)))

-- ---- who is among those that asked

pub last_is : (u x : ℕ) (us : List ℕ) → IsLastAlone u us → slice_get us (length us - 1) ≡ Some x → (x == u) ≡ is_among u us
last_is u x us alone at = by (is_among u us) refl (x == u) refl
  where
    by : (b : Bool) → is_among u us ≡ b → (c : Bool) → (x == u) ≡ c → c ≡ b
    by true e true f = refl
    by false e false f = refl
    by true e false f =
        let l = alone e in
        let n = length_both l.0 (u ∷ []) in let m = ap length l.1 in
        let g : Some x ≡ Some u = sym at ∙ ap (λ (z : List ℕ). slice_get z (length us - 1)) l.1
        ∙ ap (slice_get (l.0 ++ u ∷ [])) (let k : length us - 1 ≡ length l.0 = omega (arith, m, n) in k) ∙ place_last l.0 u in
        let h : x ≡ u = cc in
        absurd (true≢false (sym (eq-eqb x u h) ∙ f))
    by false e true f =
        absurd (true≢false (sym (place_among u us (length us - 1) (at ∙ ap Some (eqb-true x u f))) ∙ e))

pub none_last : (u : ℕ) (us : List ℕ) → slice_get us (length us - 1) ≡ None → is_among u us ≡ false
none_last u [] h = refl
none_last u (x ∷ us) h = let m = none_past (x ∷ us) (length (x ∷ us) - 1) h in absurd (omega (arith, m))

pub alone_now : (u p : ℕ) (ps : List ℕ) (a b : List Row) → HaveMoreUsers u ps a b → is_among u (users_of a p) ≡ false → IsLastAlone u (users_of b p)
alone_now u p ps a b more unknown e = by (more.users p)
  where
    by : (users_of b p ≡ users_of a p) ⊎ IsOneMore u ps p (users_of a p) (users_of b p) → (front : List ℕ) × (users_of b p ≡ front ++ u ∷ [])
    by (inl s) = absurd (true≢false (sym e ∙ ap (is_among u) s ∙ unknown))
    by (inr o) = (users_of a p, o.added)

-- ---- the same list

pub same_list : (a b : List ℕ) → pointwise nat_eq a b ≡ true → a ≡ b
same_list [] [] h = refl
same_list [] (y ∷ b) h = absurd (true≢false (sym h))
same_list (x ∷ a) [] h = absurd (true≢false (sym h))
same_list (x ∷ a) (y ∷ b) h = by (x == y) refl h (same_list a b)
  where
    by : (c : Bool) → (x == y) ≡ c → (c && pointwise nat_eq a b) ≡ true → (pointwise nat_eq a b ≡ true → a ≡ b) → (x ∷ a) ≡ (y ∷ b)
    by true e h next = ap (λ z. z ∷ a) (eqb-true x y e) ∙ ap (λ z. y ∷ z) (next h)
    by false e h next = absurd (true≢false (sym h))

pub list_same : (a : List ℕ) → pointwise nat_eq a a ≡ true
list_same [] = refl
list_same (x ∷ a) = ap (λ c. c && pointwise nat_eq a a) (eq-eqb x x refl) ∙ list_same a

pub lists_same : (a b : List ℕ) → a ≡ b → pointwise nat_eq a b ≡ true
lists_same a b e = ap (λ z. pointwise nat_eq z b) e ∙ list_same b

-- ---- more users

pub none_more : (u : ℕ) (ps : List ℕ) (rows : List Row) → HaveMoreUsers u ps rows rows
none_more u ps rows = record { asked = λ q. refl; users = λ p. inl refl; as_long = refl }

pub known_still : (u p v : ℕ) (ps : List ℕ) (a b : List Row) → HaveMoreUsers u ps a b → is_among v (users_of a p) ≡ true → is_among v (users_of b p) ≡ true
known_still u p v ps a b more e = by (more.users p)
  where
    by : (users_of b p ≡ users_of a p) ⊎ IsOneMore u ps p (users_of a p) (users_of b p) → is_among v (users_of b p) ≡ true
    by (inl s) = ap (is_among v) s ∙ e
    by (inr o) = ap (is_among v) o.added ∙ among_left v (users_of a p) (u ∷ []) e

-- and then one of these knows it
pub then_one : (u q : ℕ) (ps : List ℕ) (a b c : List Row) → HaveMoreUsers u ps a b → is_among q ps ≡ true → HaveMoreUsers u (q ∷ []) b c → HaveMoreUsers u ps a c
then_one u q ps a b c f among g = record {
  asked = λ v. g.asked v ∙ f.asked v;
  users = λ p. users p (f.users p) (g.users p);
  as_long = g.as_long ∙ f.as_long;
}
  where
    users : (p : ℕ) → (users_of b p ≡ users_of a p) ⊎ IsOneMore u ps p (users_of a p) (users_of b p)
        → (users_of c p ≡ users_of b p) ⊎ IsOneMore u (q ∷ []) p (users_of b p) (users_of c p)
        → (users_of c p ≡ users_of a p) ⊎ IsOneMore u ps p (users_of a p) (users_of c p)
    users p (inl s) (inl t) = inl (t ∙ s)
    users p (inl s) (inr o) = inr (record {
      wanted = subst (λ z. is_among z ps ≡ true) (among_one p q o.wanted) among;
      unknown = ap (is_among u) (sym s) ∙ o.unknown;
      added = o.added ∙ ap (λ (l : List ℕ). l ++ u ∷ []) s;
    })
    users p (inr o) (inl t) = inr (record { wanted = o.wanted; unknown = o.unknown; added = t ∙ o.added })
    users p (inr o) (inr r) =
        absurd (true≢false (sym (ap (is_among u) o.added ∙ among_right u (users_of a p) (u ∷ []) (among_itself u)) ∙ r.unknown))

pub know_still : (a b : List Row) (u q : ℕ) (ps qs : List ℕ) → HaveMoreUsers u qs a b → AllKnow a u ps → AllKnow b u ps
know_still a b u q ps qs f k p e = known_still u p u qs a b f (k p e)

pub know_none : (rows : List Row) (u : ℕ) (ps : List ℕ) → AllKnow rows u (take 0 ps)
know_none rows u [] p e = absurd (true≢false (sym e))
know_none rows u (x ∷ ps) p e = absurd (true≢false (sym e))

-- those up to a place, and the one there
next_of : (p : ℕ) (xs : List ℕ) (n : ℕ) → n < length xs → is_among p (take (suc n) xs) ≡ true → (is_among p (take n xs) ≡ true) ⊎ (get_or xs n 0 ≡ p)
next_of p [] n l a = absurd (omega (arith, l))
next_of p (x ∷ xs) zero l a = by (x == p) refl a
  where
    by : (b : Bool) → (x == p) ≡ b → (b || is_among p (take 0 xs)) ≡ true → (is_among p (take 0 (x ∷ xs)) ≡ true) ⊎ (x ≡ p)
    by true e a = inr (eqb-true x p e)
    by false e a = absurd (none xs a)
      where
        none : (ys : List ℕ) → is_among p (take 0 ys) ≡ true → ⊥
        none [] h = true≢false (sym h)
        none (y ∷ ys) h = true≢false (sym h)
next_of p (x ∷ xs) (suc n) l a = by (x == p) a (next_of p xs n (omega (arith, l)))
  where
    by : (b : Bool) → (b || is_among p (take (suc n) xs)) ≡ true → (is_among p (take (suc n) xs) ≡ true → (is_among p (take n xs) ≡ true) ⊎ (get_or xs n 0 ≡ p))
        → ((b || is_among p (take n xs)) ≡ true) ⊎ (get_or xs n 0 ≡ p)
    by true a f = inl refl
    by false a f = f a

pub know_next : (rows : List Row) (u : ℕ) (ps : List ℕ) (i j : ℕ) → j ≡ i + 1 → i < length ps → AllKnow rows u (take i ps) → is_among u (users_of rows (get_or ps i 0)) ≡ true → AllKnow rows u (take j ps)
know_next rows u ps i j s h k e p a = by (next_of p ps i h (let t : j ≡ suc i = omega (arith, s) in subst (λ n. is_among p (take n ps) ≡ true) t a))
  where
    by : (is_among p (take i ps) ≡ true) ⊎ (get_or ps i 0 ≡ p) → is_among u (users_of rows p) ≡ true
    by (inl x) = k p x
    by (inr x) = subst (λ z. is_among u (users_of rows z) ≡ true) x e

-- ---- a place is noted

pub live_set : (l : List Bool) (p q : ℕ) → is_live l q ≡ true → is_live (slice_set l p true) q ≡ true
live_set [] p q h = h
live_set (b ∷ bs) zero zero h = refl
live_set (b ∷ bs) zero (suc q) h = h
live_set (b ∷ bs) (suc p) zero h = h
live_set (b ∷ bs) (suc p) (suc q) h = live_set bs p q h

pub live_before : (l : List Bool) (p q : ℕ) → p ≢ q → is_live (slice_set l p true) q ≡ true → is_live l q ≡ true
live_before [] p q n h = h
live_before (b ∷ bs) zero zero n h = absurd (n refl)
live_before (b ∷ bs) zero (suc q) n h = h
live_before (b ∷ bs) (suc p) zero n h = h
live_before (b ∷ bs) (suc p) (suc q) n h = live_before bs p q (λ e. n (ap suc e)) h

module _ (rows more : List Row) (live : List Bool) (place : ℕ) (r : Row) (within : place < length rows)
    (indexed : AreIndexed rows) (closed : AreClosed rows live) (grown : HaveMoreUsers place r.asked rows more)
    (known : AllKnow more place r.asked) (counts : (p : ℕ) → is_among p r.asked ≡ true → is_live live p ≡ true)
    (users : r.users ≡ users_of more place) where
  within_more : place < length more
  within_more = let l = grown.as_long in omega (arith, l, within)

  same_users : (p : ℕ) → users_of (slice_set more place r) p ≡ users_of more p
  same_users p = by (equal_or_not place p)
    where
      by : (place ≡ p) ⊎ (place ≢ p) → users_of (slice_set more place r) p ≡ users_of more p
      by (inl e) = subst (λ z. users_of (slice_set more place r) z ≡ users_of more z) e (ap users_in (there more place r within_more) ∙ users)
      by (inr n) = ap users_in (elsewhere more place p r n)

  asked_else : (u : ℕ) → place ≢ u → asked_of (slice_set more place r) u ≡ asked_of rows u
  asked_else u n = ap asked_in (elsewhere more place u r n) ∙ grown.asked u

  pub noted : IsNotedAt place r.asked rows (slice_set more place r) (slice_set live place true)
  noted = record {
    own = ap asked_in (there more place r within_more);
    others = λ u n. asked_else u (λ e. n (sym e));
    users = λ p. same_users p ∙ exact p (is_among p r.asked) refl (grown.users p);
    indexed = λ u p a. index u p a (equal_or_not place u);
    closed = λ u p l a. close u p l a (equal_or_not place u);
    as_long = as_long more place r ∙ grown.as_long;
  }
    where
      exact : (p : ℕ) → (b : Bool) → is_among p r.asked ≡ b → (users_of more p ≡ users_of rows p) ⊎ IsOneMore place r.asked p (users_of rows p) (users_of more p)
          → users_of more p ≡ cond b (with_user (users_of rows p) place) (users_of rows p)
      exact p true e (inl s) = s ∙ ap (λ b. cond b (users_of rows p) (users_of rows p ++ place ∷ [])) (sym (ap (is_among place) (sym s) ∙ known p e))
      exact p true e (inr o) = o.added ∙ ap (λ b. cond b (users_of rows p) (users_of rows p ++ place ∷ [])) (sym o.unknown)
      exact p false e (inl s) = s
      exact p false e (inr o) = absurd (true≢false (sym o.wanted ∙ e))

      index : (u p : ℕ) → Asks (slice_set more place r) u p → (place ≡ u) ⊎ (place ≢ u) → is_among u (users_of (slice_set more place r) p) ≡ true
      index u p a (inl e) = ap (is_among u) (same_users p)
          ∙ subst (λ z. is_among z (users_of more p) ≡ true) e
          (known p (ap (is_among p) (sym (ap asked_in (there more place r within_more))) ∙ subst (λ z. Asks (slice_set more place r) z p) (sym e) a))
      index u p a (inr n) = ap (is_among u) (same_users p) ∙ known_still place p u r.asked rows more grown (indexed u p (ap (is_among p) (sym (asked_else u n)) ∙ a))

      close : (u p : ℕ) → is_live (slice_set live place true) u ≡ true → Asks (slice_set more place r) u p → (place ≡ u) ⊎ (place ≢ u) → is_live (slice_set live place true) p ≡ true
      close u p l a (inl e) = live_set live place p
          (counts p (ap (is_among p) (sym (ap asked_in (there more place r within_more))) ∙ subst (λ z. Asks (slice_set more place r) z p) (sym e) a))
      close u p l a (inr n) = live_set live place p (closed u p (live_before live place u n l) (ap (is_among p) (sym (asked_else u n)) ∙ a))

-- who asked for the same before is known already
pub knew : (rows more : List Row) (place : ℕ) (asked : List ℕ) → more ≡ rows → AreIndexed rows → asked_of rows place ≡ asked
    → HaveMoreUsers place asked rows more × AllKnow more place asked
knew rows more place asked same indexed e =
    subst (λ z. HaveMoreUsers place asked rows z × AllKnow z place asked) (sym same) (none_more place asked rows, λ p a. indexed place p (ap (is_among p) e ∙ a))

-- who asked is known now
pub know_now : (rows more after : List Row) (place : ℕ) (asked places : List ℕ) → more ≡ after → places ≡ asked → HaveMoreUsers place places rows after
    → AllKnow after place places → HaveMoreUsers place asked rows more × AllKnow more place asked
know_now rows more after place asked places same places_are grown known =
    subst (λ z. HaveMoreUsers place asked rows z × AllKnow z place asked) (sym same)
    (subst (λ (l : List ℕ). HaveMoreUsers place l rows after) places_are grown, subst (λ (l : List ℕ). AllKnow after place l) places_are known)
