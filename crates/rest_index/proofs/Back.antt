-- What was given up counts again.
use Rattle.std.proofs.Common.{ℕ, zero, suc, ◌≡◌, ◌≢◌, ◌<◌, refl, sym, ◌∙◌, ap, subst, Bool, true, false, true≢false, cond, ◌||◌, ◌==◌, eqb-true, eq-eqb, nat_lt, ◌⊎◌, inl, inr, List, [], ◌∷◌, ◌++◌, length, arith}
use Rattle.std.proofs.lemmas.Bool.{lt-ltb}
use Rattle.std.specs.Prelude.{slice_set}
use Rattle.rest_index.specs.declared.row.Row.{Row}
use Rattle.rest_index.specs.Following.{with_all, with_one}
use Rattle.rest_index.specs.Rests.{is_among, is_live, IsLeft}
use Rattle.rest_index.proofs.Lists.{among_either, among_itself, among_left, among_one, among_right, as_long_set, counted_before, live_within, that_one}
use Rattle.rest_index.proofs.Notes.{equal_or_not, live_before, live_set}

set_there : (l : List Bool) (p : ℕ) → p < length l → is_live (slice_set l p true) p ≡ true
set_there [] p h = absurd (omega (arith, h))
set_there (b ∷ bs) zero h = refl
set_there (b ∷ bs) (suc p) h = set_there bs p (omega (arith, h))

one_long : (l : List Bool) (p : ℕ) → length (with_one l p) ≡ length l
one_long l p = by (nat_lt p (length l))
  where
    by : (b : Bool) → length (cond b (slice_set l p true) l) ≡ length l
    by true = as_long_set l p true
    by false = refl

all_long : (l : List Bool) (ps : List ℕ) → length (with_all l ps) ≡ length l
all_long l [] = refl
all_long l (p ∷ ps) = all_long (with_one l p) ps ∙ one_long l p

one_stays : (l : List Bool) (p q : ℕ) → is_live l q ≡ true → is_live (with_one l p) q ≡ true
one_stays l p q h = by (nat_lt p (length l))
  where
    by : (b : Bool) → is_live (cond b (slice_set l p true) l) q ≡ true
    by true = live_set l p q h
    by false = h

all_stay : (l : List Bool) (ps : List ℕ) (q : ℕ) → is_live l q ≡ true → is_live (with_all l ps) q ≡ true
all_stay l [] q h = h
all_stay l (p ∷ ps) q h = all_stay (with_one l p) ps q (one_stays l p q h)

one_there : (l : List Bool) (p : ℕ) → p < length l → is_live (with_one l p) p ≡ true
one_there l p h = by (nat_lt p (length l)) refl
  where
    by : (b : Bool) → nat_lt p (length l) ≡ b → is_live (cond b (slice_set l p true) l) p ≡ true
    by true e = set_there l p h
    by false e = absurd (true≢false (sym (lt-ltb p (length l) h) ∙ e))

all_there : (l : List Bool) (ps : List ℕ) (q : ℕ) → q < length l → is_among q ps ≡ true → is_live (with_all l ps) q ≡ true
all_there l [] q h a = absurd (true≢false (sym a))
all_there l (p ∷ ps) q h a = by (p == q) refl a (all_there (with_one l p) ps q (let e = one_long l p in omega (arith, e, h)))
  where
    by : (b : Bool) → (p == q) ≡ b → (b || is_among q ps) ≡ true → (is_among q ps ≡ true → is_live (with_all (with_one l p) ps) q ≡ true) → is_live (with_all (with_one l p) ps) q ≡ true
    by true e a next = let s = eqb-true p q e in
        all_stay (with_one l p) ps q (subst (λ z. is_live (with_one l z) q ≡ true) (sym s) (one_there l q h))
    by false e a next = next a

one_else : (l : List Bool) (p q : ℕ) → p ≢ q → is_live (with_one l p) q ≡ true → is_live l q ≡ true
one_else l p q n = by (nat_lt p (length l))
  where
    by : (b : Bool) → is_live (cond b (slice_set l p true) l) q ≡ true → is_live l q ≡ true
    by true h = live_before l p q n h
    by false h = h

all_else : (l : List Bool) (ps : List ℕ) (q : ℕ) → is_among q ps ≡ false → is_live (with_all l ps) q ≡ true → is_live l q ≡ true
all_else l [] q a h = h
all_else l (p ∷ ps) q a h = by (p == q) refl a (λ e. all_else (with_one l p) ps q e h)
  where
    by : (b : Bool) → (p == q) ≡ b → (b || is_among q ps) ≡ false → (is_among q ps ≡ false → is_live (with_one l p) q ≡ true) → is_live l q ≡ true
    by true e a next = absurd (true≢false a)
    by false e a next = one_else l p q (λ s. true≢false (sym (eq-eqb p q s) ∙ e)) (next a)

-- flags that are the same at each place are the same
same_flags : (a b : List Bool) → length a ≡ length b → ((q : ℕ) → is_live a q ≡ is_live b q) → a ≡ b
same_flags [] [] l s = refl
same_flags [] (y ∷ b) l s = absurd (omega (arith, l))
same_flags (x ∷ a) [] l s = absurd (omega (arith, l))
same_flags (x ∷ a) (y ∷ b) l s =
    let h : x ≡ y = s 0 in let t : a ≡ b = same_flags a b (omega (arith, l)) (λ q. s (suc q)) in
    ap (λ z. z ∷ a) h ∙ ap (λ z. y ∷ z) t

pub as_before : (rows : List Row) (seeds : List ℕ) (before : List Bool) (given : List ℕ) (after : List Bool) → IsLeft rows seeds before given after → with_all after given ≡ before
as_before rows seeds before given after left =
    same_flags (with_all after given) before (all_long after given ∙ left.as_long) (λ q. by q (is_among q given) refl (is_live before q) refl (is_live (with_all after given) q) refl)
  where
    by : (q : ℕ) → (a : Bool) → is_among q given ≡ a → (b : Bool) → is_live before q ≡ b → (c : Bool) → is_live (with_all after given) q ≡ c → c ≡ b
    by q a e true f true g = refl
    by q a e false f false g = refl
    by q true e true f false g =
        let l = live_within before q f in let n = left.as_long in absurd (true≢false (sym (all_there after given q (omega (arith, l, n)) e) ∙ g))
    by q true e false f true g = absurd (true≢false (sym (left.was q e) ∙ f))
    by q false e true f false g = absurd (true≢false (sym (all_stay after given q (stays (is_live after q) refl)) ∙ g))
      where
        stays : (d : Bool) → is_live after q ≡ d → is_live after q ≡ true
        stays true h = h
        stays false h = absurd (true≢false (sym (left.listed q f h) ∙ e))
    by q false e false f true g = absurd (true≢false (sym (left.fewer q (all_else after given q e g)) ∙ f))

-- ---- one that is given up, and noted as such

still_live : (l : List Bool) (p q : ℕ) → p ≢ q → is_live l q ≡ true → is_live (slice_set l p false) q ≡ true
still_live l p q n h = by (is_live (slice_set l p false) q) refl
  where
    by : (b : Bool) → is_live (slice_set l p false) q ≡ b → b ≡ true
    by true e = refl
    by false e = absurd (n (that_one l p q h e))

among_last : (q p : ℕ) (ps : List ℕ) → is_among q ps ≡ false → p ≢ q → is_among q (ps ++ p ∷ []) ≡ false
among_last q p ps h n = by (is_among q (ps ++ p ∷ [])) refl
  where
    either : (is_among q ps ≡ true) ⊎ (is_among q (p ∷ []) ≡ true) → ⊥
    either (inl e) = true≢false (sym e ∙ h)
    either (inr e) = n (among_one q p e)

    by : (b : Bool) → is_among q (ps ++ p ∷ []) ≡ b → b ≡ false
    by true e = absurd (either (among_either q ps (p ∷ []) e))
    by false e = refl

pub back_one : (l : List Bool) (p : ℕ) (ps : List ℕ) → is_live l p ≡ true → with_all (slice_set l p false) (ps ++ p ∷ []) ≡ with_all l ps
back_one l p ps live =
    same_flags (with_all (slice_set l p false) (ps ++ p ∷ [])) (with_all l ps) (all_long (slice_set l p false) (ps ++ p ∷ []) ∙ as_long_set l p false ∙ sym (all_long l ps))
    (λ q. by q (is_live (with_all l ps) q) refl)
  where
    within : (q : ℕ) → is_live (with_all l ps) q ≡ true → q < length (slice_set l p false)
    within q h = let a = live_within (with_all l ps) q h in let b = all_long l ps in let c = as_long_set l p false in omega (arith, a, b, c)

    is_there : (q : ℕ) → is_live (with_all l ps) q ≡ true → (b : Bool) → is_among q ps ≡ b → (p ≡ q) ⊎ (p ≢ q) → is_live (with_all (slice_set l p false) (ps ++ p ∷ [])) q ≡ true
    is_there q h true e d = all_there (slice_set l p false) (ps ++ p ∷ []) q (within q h) (among_left q ps (p ∷ []) e)
    is_there q h false e (inl d) = all_there (slice_set l p false) (ps ++ p ∷ []) q (within q h) (among_right q ps (p ∷ []) (ap (λ z. is_among z (p ∷ [])) (sym d) ∙ among_itself p))
    is_there q h false e (inr d) = all_stay (slice_set l p false) (ps ++ p ∷ []) q (still_live l p q d (all_else l ps q e h))

    was_there : (q : ℕ) → is_live (with_all (slice_set l p false) (ps ++ p ∷ [])) q ≡ true → (b : Bool) → is_among q ps ≡ b → (p ≡ q) ⊎ (p ≢ q) → is_live (with_all l ps) q ≡ true
    was_there q h true e d = all_there l ps q (let a = live_within (with_all (slice_set l p false) (ps ++ p ∷ [])) q h in let b = all_long (slice_set l p false) (ps ++ p ∷ []) in let c = as_long_set l p false in omega (arith, a, b, c)) e
    was_there q h false e (inl d) = all_stay l ps q (ap (is_live l) (sym d) ∙ live)
    was_there q h false e (inr d) = all_stay l ps q (counted_before l p q (all_else (slice_set l p false) (ps ++ p ∷ []) q (among_last q p ps e d) h))

    by : (q : ℕ) → (b : Bool) → is_live (with_all l ps) q ≡ b → is_live (with_all (slice_set l p false) (ps ++ p ∷ [])) q ≡ is_live (with_all l ps) q
    by q true e = is_there q e (is_among q ps) refl (equal_or_not p q) ∙ sym e
    by q false e = not_there (is_live (with_all (slice_set l p false) (ps ++ p ∷ [])) q) refl ∙ sym e
      where
        not_there : (c : Bool) → is_live (with_all (slice_set l p false) (ps ++ p ∷ [])) q ≡ c → c ≡ false
        not_there true g = absurd (true≢false (sym (was_there q g (is_among q ps) refl (equal_or_not p q)) ∙ e))
        not_there false g = refl
