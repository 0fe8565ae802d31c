-- What slots hold.
use Rattle.std.proofs.Common.{◌≡◌, ℕ, zero, suc, ◌+◌, ◌^◌, ◌<◌, ◌≤◌, ◌==◌, nat_lt, Bool, true, false, cond, is_some, List, [], ◌∷◌, ◌++◌, Option, Some, None, refl, sym, ap, ◌∙◌, arith, length, slice_get, slice_set, slice_index_or, take, eq-eqb, eqb-true, if◌then◌else◌}
use Rattle.std.proofs.lemmas.Bool.Decides.{nat_tests}
use Rattle.module_tree.specs.Boxes.{box_of, last_after, with_box, without_box, seats_from, AreRising, Held, IsCounted, Seated, with_seats}

-- ---- tests

other : (m n : ℕ) → m < n → (n == m) ≡ false
other m n h = grind (arith, nat_tests)

another : (m n : ℕ) → m < n → (m == n) ≡ false
another m n h = grind (arith, nat_tests)

less : (m n : ℕ) → m < n → nat_lt m n ≡ true
less m n h = grind (arith, nat_tests)

not_less : (m n : ℕ) → n < m → nat_lt m n ≡ false
not_less m n h = grind (arith, nat_tests)

itself : (n : ℕ) → (n == n) ≡ true
itself n = eq-eqb n n refl

module _ {X : Type 0} where
  -- what two nested options say
  abbrev pub joined : Option (Option X) → Option X
  joined None = None
  joined (Some o) = o

  -- a smaller id is not there
  smaller_found : (n m : ℕ) (os : List (Option X)) → n < m → box_of n (seats_from m os) ≡ None
  smaller_found n m [] h = refl
  smaller_found n m (None ∷ os) h = smaller_found n (suc m) os (omega arith)
  smaller_found n m (Some x ∷ os) h = rw (other n m h) (smaller_found n (suc m) os (omega arith))

  smaller_out : (n m : ℕ) (os : List (Option X)) → n < m → without_box n (seats_from m os) ≡ seats_from m os
  smaller_out n m [] h = refl
  smaller_out n m (None ∷ os) h = smaller_out n (suc m) os (omega arith)
  smaller_out n m (Some x ∷ os) h = rw (other n m h) (ap (λ ss. record { id = m; box = x } ∷ ss) (smaller_out n (suc m) os (omega arith)))

  smaller_in : (n m : ℕ) (y : X) (os : List (Option X)) → n < m → with_box n y (seats_from m os) ≡ record { id = n; box = y } ∷ seats_from m os
  smaller_in n m y [] h = refl
  smaller_in n m y (None ∷ os) h = smaller_in n (suc m) y os (omega arith)
  smaller_in n m y (Some x ∷ os) h = rw (less n m h) refl

  -- the slot at the number of an id has its box
  found_from : (n k j : ℕ) (os : List (Option X)) → j ≡ n + k → box_of j (seats_from n os) ≡ joined (slice_get os k)
  found_from n k j [] e = refl
  found_from n zero j (None ∷ os) e = smaller_found j (suc n) os (omega arith)
  found_from n zero j (Some x ∷ os) e = rw (eq-eqb n j (omega arith)) refl
  found_from n (suc k) j (None ∷ os) e = found_from (suc n) k j os (omega arith)
  found_from n (suc k) j (Some x ∷ os) e = rw (another n j (omega arith)) (found_from (suc n) k j os (omega arith))

  pub found : (id : ℕ) (os : List (Option X)) → box_of id (seats_from 0 os) ≡ joined (slice_get os id)
  found id os = found_from 0 id id os (omega arith)

  -- a slot that is emptied
  out_from : (n k j : ℕ) (os : List (Option X)) → j ≡ n + k → seats_from n (slice_set os k None) ≡ without_box j (seats_from n os)
  out_from n k j [] e = refl
  out_from n zero j (None ∷ os) e = sym (smaller_out j (suc n) os (omega arith))
  out_from n zero j (Some x ∷ os) e = rw (eq-eqb n j (omega arith)) refl
  out_from n (suc k) j (None ∷ os) e = out_from (suc n) k j os (omega arith)
  out_from n (suc k) j (Some x ∷ os) e = rw (another n j (omega arith)) (ap (λ ss. record { id = n; box = x } ∷ ss) (out_from (suc n) k j os (omega arith)))

  pub emptied : (id : ℕ) (os : List (Option X)) → seats_from 0 (slice_set os id None) ≡ without_box id (seats_from 0 os)
  emptied id os = out_from 0 id id os (omega arith)

  -- an empty slot that is filled
  in_from : (n k j : ℕ) (y : X) (os : List (Option X)) → j ≡ n + k → slice_get os k ≡ Some None → seats_from n (slice_set os k (Some y)) ≡ with_box j y (seats_from n os)
  in_from n k j y [] e h = cc
  in_from n zero j y (None ∷ os) e h = sym (smaller_in j (suc n) y os (omega arith) ∙ ap (λ i. record { id = i; box = y } ∷ seats_from (suc n) os) (omega arith))
  in_from n zero j y (Some x ∷ os) e h = cc
  in_from n (suc k) j y (None ∷ os) e h = in_from (suc n) k j y os (omega arith) h
  in_from n (suc k) j y (Some x ∷ os) e h = rw (not_less j n (omega arith)) (ap (λ ss. record { id = n; box = x } ∷ ss) (in_from (suc n) k j y os (omega arith) h))

  pub filled : (id : ℕ) (y : X) (os : List (Option X)) → slice_get os id ≡ Some None → seats_from 0 (slice_set os id (Some y)) ≡ with_box id y (seats_from 0 os)
  filled id y os h = in_from 0 id id y os (omega arith) h

  -- a slot more
  pub wider : (n : ℕ) (os : List (Option X)) → seats_from n (os ++ None ∷ []) ≡ seats_from n os
  wider n [] = refl
  wider n (None ∷ os) = wider (suc n) os
  wider n (Some x ∷ os) = ap (λ ss. record { id = n; box = x } ∷ ss) (wider (suc n) os)

  empty_by : (k : ℕ) (os : List (Option X)) → k < length os → joined (slice_get os k) ≡ None → slice_get os k ≡ Some None
  empty_by k [] h e = absurd (omega (arith, h))
  empty_by zero (o ∷ os) h e = ap Some e
  empty_by (suc k) (o ∷ os) h e = empty_by k os (omega (arith, h)) e

  -- a slot that is there and whose module has no box is empty
  pub empty_slot : (id : ℕ) (os : List (Option X)) → id < length os → box_of id (seats_from 0 os) ≡ None → slice_get os id ≡ Some None
  empty_slot id os h free = empty_by id os h (sym (found id os) ∙ free)

  -- where no slot is, nothing is taken out
  set_past : (k : ℕ) (o : Option X) (os : List (Option X)) → slice_get os k ≡ None → slice_set os k o ≡ os
  set_past k o [] h = refl
  set_past zero o (p ∷ os) h = cc
  set_past (suc k) o (p ∷ os) h = ap (λ ps. p ∷ ps) (set_past k o os h)

  pub nothing_out : (id : ℕ) (os : List (Option X)) → slice_get os id ≡ None → without_box id (seats_from 0 os) ≡ seats_from 0 os
  nothing_out id os h = sym (emptied id os) ∙ ap (seats_from 0) (set_past id None os h)

  -- what stands at a number, as the calls of a list of slots say it
  get_is : (os : List (Option X)) (k : ℕ) (d : Option X) → k < length os → slice_get os k ≡ Some (slice_index_or os k d)
  get_is [] k d h = absurd (omega (arith, h))
  get_is (o ∷ os) zero d h = refl
  get_is (o ∷ os) (suc k) d h = get_is os k d (omega (arith, h))

  get_none : (os : List (Option X)) (k : ℕ) → length os ≤ k → slice_get os k ≡ None
  get_none [] k h = refl
  get_none (o ∷ os) zero h = absurd (omega (arith, h))
  get_none (o ∷ os) (suc k) h = get_none os k (omega (arith, h))

  pub taken : (os : List (Option X)) (k : ℕ) (o : Option X) → k < length os → o ≡ slice_index_or os k o → o ≡ box_of k (seats_from 0 os)
  taken os k o h is = ap joined (ap Some is ∙ sym (get_is os k o h)) ∙ sym (found k os)

  pub none_taken : (os : List (Option X)) (k : ℕ) → length os ≤ k → None ≡ box_of k (seats_from 0 os)
  none_taken os k h = ap joined (sym (get_none os k h)) ∙ sym (found k os)

  pub none_out : (os : List (Option X)) (k : ℕ) → length os ≤ k → seats_from 0 os ≡ without_box k (seats_from 0 os)
  none_out os k h = sym (nothing_out k os (get_none os k h))

  -- a box is put into a slot that is there
  length_set : (k : ℕ) (o : Option X) (os : List (Option X)) → length (slice_set os k o) ≡ length os
  length_set k o [] = refl
  length_set zero o (p ∷ os) = refl
  length_set (suc k) o (p ∷ os) = ap suc (length_set k o os)

  abbrev pub held_in : List (Option X) → Held X
  held_in os = record { seats = seats_from 0 os; room = length os }

  pub put : (id : ℕ) (y : X) (os : List (Option X)) (now : Held X) → held_in os ≡ now → id < now.room → box_of id now.seats ≡ None → held_in (slice_set os id (Some y)) ≡ with_seats (with_box id y now.seats) now
  put id y os now is there free =
      let long : length os ≡ now.room = ap (λ (h : Held X). h.room) is in
      let lt : id < length os = omega (arith, long, there) in
      let seats = filled id y os (empty_slot id os lt (ap (λ (h : Held X). box_of id h.seats) is ∙ free)) in
      let room = length_set id (Some y) os in
      let here : held_in (slice_set os id (Some y)) ≡ with_seats (with_box id y (seats_from 0 os)) (held_in os) = λ i. record { seats = seats i; room = room i } in
      here ∙ ap (λ (h : Held X). with_seats (with_box id y h.seats) h) is

  -- ---- the last box

  pub take_short : (k : ℕ) (os : List (Option X)) → k ≤ length os → length (take k os) ≡ k
  take_short zero os h = refl
  take_short (suc k) [] h = absurd (omega (arith, h))
  take_short (suc k) (o ∷ os) h = ap suc (take_short k os (omega (arith, h)))

  -- no slot
  pub none_at_all : (os : List (Option X)) → length os < 1 → None ≡ last_after None (seats_from 0 os)
  none_at_all [] h = refl
  none_at_all (o ∷ os) h = absurd (omega (arith, h))

  -- the last slot is empty
  pub last_none : (n : ℕ) (before : Option ℕ) (os : List (Option X)) (k : ℕ) (d : Option X) → length os ≡ suc k → is_some (slice_index_or os k d) ≡ false → last_after before (seats_from n (take k os)) ≡ last_after before (seats_from n os)
  last_none n before [] k d e h = absurd (omega (arith, e))
  last_none n before (None ∷ []) zero d e h = refl
  last_none n before (Some x ∷ []) zero d e h = cc
  last_none n before (p ∷ q ∷ os) zero d e h = absurd (omega (arith, e))
  last_none n before (None ∷ os) (suc k) d e h = last_none (suc n) before os k d (omega (arith, e)) h
  last_none n before (Some x ∷ os) (suc k) d e h = last_none (suc n) (Some n) os k d (omega (arith, e)) h

  -- it holds a box
  pub last_some : (n : ℕ) (before : Option ℕ) (os : List (Option X)) (k : ℕ) (d : Option X) → length os ≡ suc k → is_some (slice_index_or os k d) ≡ true → Some (n + k) ≡ last_after before (seats_from n os)
  last_some n before [] k d e h = absurd (omega (arith, e))
  last_some n before (None ∷ []) zero d e h = cc
  last_some n before (Some x ∷ []) zero d e h = ap Some (omega arith)
  last_some n before (p ∷ q ∷ os) zero d e h = absurd (omega (arith, e))
  last_some n before (None ∷ os) (suc k) d e h = ap Some (omega arith) ∙ last_some (suc n) before os k d (omega (arith, e)) h
  last_some n before (Some x ∷ os) (suc k) d e h = ap Some (omega arith) ∙ last_some (suc n) (Some n) os k d (omega (arith, e)) h

  -- ---- how many there are

  pub length_in : (id : ℕ) (y : X) (ss : List (Seated X)) → length (with_box id y ss) ≡ suc (length ss)
  length_in id y [] = refl
  length_in id y (s ∷ ss) = by (nat_lt id s.id) (length_in id y ss)
    where
      by : (t : Bool) → length (with_box id y ss) ≡ suc (length ss) → length (cond t (record { id = id; box = y } ∷ s ∷ ss) (s ∷ with_box id y ss)) ≡ suc (suc (length ss))
      by true later = refl
      by false later = ap suc later

  length_found : (id : ℕ) (ss : List (Seated X)) (x : X) → box_of id ss ≡ Some x → suc (length (without_box id ss)) ≡ length ss
  length_found id [] x e = cc
  length_found id (s ∷ ss) x e = by (s.id == id) (length_found id ss x) e
    where
      by : (t : Bool) → (box_of id ss ≡ Some x → suc (length (without_box id ss)) ≡ length ss) → cond t (Some s.box) (box_of id ss) ≡ Some x → suc (length (cond t ss (s ∷ without_box id ss))) ≡ suc (length ss)
      by true later e = refl
      by false later e = ap suc (later e)

  pub same_found : (id : ℕ) (ss : List (Seated X)) → box_of id ss ≡ None → without_box id ss ≡ ss
  same_found id [] e = refl
  same_found id (s ∷ ss) e = by (s.id == id) (same_found id ss) e
    where
      by : (t : Bool) → (box_of id ss ≡ None → without_box id ss ≡ ss) → cond t (Some s.box) (box_of id ss) ≡ None → cond t ss (s ∷ without_box id ss) ≡ s ∷ ss
      by true later e = cc
      by false later e = ap (λ ts. s ∷ ts) (later e)

  -- one is taken out
  pub one_out : (id : ℕ) (o : Option X) (ss left : List (Seated X)) → o ≡ box_of id ss → left ≡ without_box id ss → is_some o ≡ true → suc (length left) ≡ length ss
  one_out id None ss left e is h = cc
  one_out id (Some x) ss left e is h = ap (λ ts. suc (length ts)) is ∙ length_found id ss x (sym e)

  -- none was there
  pub none_left_out : (id : ℕ) (o : Option X) (ss left : List (Seated X)) → o ≡ box_of id ss → left ≡ without_box id ss → is_some o ≡ false → left ≡ ss
  none_left_out id None ss left e is h = is ∙ same_found id ss (sym e)
  none_left_out id (Some x) ss left e is h = cc

  -- no more than there are slots
  pub at_most : (n : ℕ) (os : List (Option X)) → length (seats_from n os) ≤ length os
  at_most n [] = omega arith
  at_most n (None ∷ os) = omega (arith, at_most (suc n) os)
  at_most n (Some x ∷ os) = omega (arith, at_most (suc n) os)

  -- ---- ids rise

  rise_earlier : (n m below : ℕ) (ss : List (Seated X)) → n ≤ m → AreRising m below ss → AreRising n below ss
  rise_earlier n m below [] h r = tt
  rise_earlier n m below (s ∷ ss) h r = (omega (arith, r.0), r.1, r.2)

  rise_from : (n : ℕ) (os : List (Option X)) (below : ℕ) → n + length os ≡ below → AreRising n below (seats_from n os)
  rise_from n [] below e = tt
  rise_from n (None ∷ os) below e = rise_earlier n (suc n) below (seats_from (suc n) os) (omega arith) (rise_from (suc n) os below (omega (arith, e)))
  rise_from n (Some x ∷ os) below e = (omega arith, omega (arith, e), rise_from (suc n) os below (omega (arith, e)))

  pub rise : (os : List (Option X)) → AreRising 0 (length os) (seats_from 0 os)
  rise os = rise_from 0 os (length os) (omega arith)

  -- ---- a box more

  -- what an empty slot that is filled makes of the count
  pub counted_in : (id count : ℕ) (y : X) (os : List (Option X)) → id < length os → box_of id (seats_from 0 os) ≡ None → IsCounted count os → IsCounted (count + 1) (slice_set os id (Some y))
  counted_in id count y os there free is =
      let more : length (seats_from 0 (slice_set os id (Some y))) ≡ suc (length (seats_from 0 os)) = ap length (filled id y os (empty_slot id os there free)) ∙ length_in id y (seats_from 0 os) in
      record { counted = omega (arith, more, is.counted); few = omega (arith, length_set id (Some y) os, is.few) }

  pub room_for_one : (count : ℕ) (os : List (Option X)) → IsCounted count os → count + 1 < 2 ^ 64
  room_for_one count os is = omega (arith, at_most 0 os, is.counted, is.few)

  -- ---- a box that is put back

  -- another box in the place of one
  abbrev pub another_in : ℕ → X → List (Seated X) → List (Seated X)
  another_in id y [] = []
  another_in id y (s ∷ ss) = if s.id == id then record { id = s.id; box = y } ∷ ss else s ∷ another_in id y ss

  -- an id that is found is none of the smaller ones
  found_above : (id below : ℕ) (x : X) (from : ℕ) (ss : List (Seated X)) → AreRising from below ss → box_of id ss ≡ Some x → from ≤ id
  found_above id below x from [] r e = cc
  found_above id below x from (s ∷ ss) r e = by (s.id == id) refl (found_above id below x (suc s.id) ss r.2) e
    where
      by : (t : Bool) → (s.id == id) ≡ t → (box_of id ss ≡ Some x → suc s.id ≤ id) → cond t (Some s.box) (box_of id ss) ≡ Some x → from ≤ id
      by true t later e = let same = eqb-true s.id id t in let l = r.0 in omega (arith, same, l)
      by false t later e = let h = later e in let l = r.0 in omega (arith, h, l)

  -- it goes before all that are greater
  in_front : (id below : ℕ) (y : X) (ss : List (Seated X)) → AreRising (suc id) below ss → with_box id y ss ≡ record { id = id; box = y } ∷ ss
  in_front id below y [] r = refl
  in_front id below y (s ∷ ss) r = rw (less id s.id (omega (arith, r.0))) refl

  pub put_again : (id below : ℕ) (x y : X) (from : ℕ) (ss : List (Seated X)) → AreRising from below ss → box_of id ss ≡ Some x → with_box id y (without_box id ss) ≡ another_in id y ss
  put_again id below x y from [] r e = cc
  put_again id below x y from (s ∷ ss) r e = by (s.id == id) refl (found_above id below x (suc s.id) ss r.2) (put_again id below x y (suc s.id) ss r.2) e
    where
      by : (t : Bool) → (s.id == id) ≡ t → (box_of id ss ≡ Some x → suc s.id ≤ id) → (box_of id ss ≡ Some x → with_box id y (without_box id ss) ≡ another_in id y ss) → cond t (Some s.box) (box_of id ss) ≡ Some x
          → with_box id y (cond t ss (s ∷ without_box id ss)) ≡ cond t (record { id = s.id; box = y } ∷ ss) (s ∷ another_in id y ss)
      by true t above later e =
          let same = eqb-true s.id id t in
          in_front id below y ss (rw (sym same) r.2) ∙ ap (λ i. record { id = i; box = y } ∷ ss) (sym same)
      by false t above later e = rw (not_less id s.id (above e)) (ap (λ ts. s ∷ ts) (later e))

  -- where it was taken out none is left
  none_above : (id below : ℕ) (from : ℕ) (ss : List (Seated X)) → AreRising from below ss → id < from → box_of id ss ≡ None
  none_above id below from [] r h = refl
  none_above id below from (s ∷ ss) r h = rw (other id s.id (omega (arith, r.0))) (none_above id below (suc s.id) ss r.2 (omega (arith, r.0)))

  pub gone : (id below : ℕ) (from : ℕ) (ss : List (Seated X)) → AreRising from below ss → box_of id (without_box id ss) ≡ None
  gone id below from [] r = refl
  gone id below from (s ∷ ss) r = by (s.id == id) refl (gone id below (suc s.id) ss r.2)
    where
      by : (t : Bool) → (s.id == id) ≡ t → box_of id (without_box id ss) ≡ None → box_of id (cond t ss (s ∷ without_box id ss)) ≡ None
      by true t later = let same = eqb-true s.id id t in none_above id below (suc s.id) ss r.2 (omega (arith, same))
      by false t later = rw t later
