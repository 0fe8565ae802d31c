-- What a table has of a key, with more entries after.
use Rattle.std.proofs.Common.{ℕ, zero, suc, ◌≡◌, refl, sym, ◌∙◌, ap, Bool, true, false, cond, List, [], ◌∷◌, ◌++◌, length, map, slice_get, Option, Some, None, IsSome, Result, Ok, Err, OnErr, IfOk, Bor}
use Rattle.std.specs.Option.{option_copied}
use Rattle.std.specs.Map.{lookup, lookup_key}
use Rattle.param_following.proofs.Outcomes.{none_some}
use Rattle.param_engine.specs.declared.finished.Finished.{Finished}
use Rattle.param_engine.specs.Tables.{Entries, value_in, value_at, key_at, keys_at, key_of_entry, value_of_entry, known}

module _ {X : Type 0} where
  -- what stands at a place stays there
  pub slice_get_append : (xs ys : List X) (i : ℕ) (x : X) → slice_get xs i ≡ Some x → slice_get (xs ++ ys) i ≡ Some x
  slice_get_append [] ys i x h = absurd (none_some h)
  slice_get_append (y ∷ xs) ys zero x h = h
  slice_get_append (y ∷ xs) ys (suc i) x h = slice_get_append xs ys i x h

  pub slice_get_last : (xs : List X) (x : X) → slice_get (xs ++ x ∷ []) (length xs) ≡ Some x
  slice_get_last [] x = refl
  slice_get_last (y ∷ xs) x = slice_get_last xs x

module _ {K V : Type 0} (same : K → K → Bool) where
  pub known_stays : (es added : Entries K V) (q : K) (v : V) → known same es q ≡ Some v → known same (es ++ added) q ≡ Some v
  known_stays [] added q v h = absurd (none_some h)
  known_stays (e ∷ es) added q v h = by (same q e.0) h (known_stays es added q v)
    where
      by : (b : Bool) → value_in (cond b (Some e.1) (lookup (same q) es)) ≡ Some v → (known same es q ≡ Some v → known same (es ++ added) q ≡ Some v)
          → value_in (cond b (Some e.1) (lookup (same q) (es ++ added))) ≡ Some v
      by true h next = h
      by false h next = next h

  -- of a key that wasn't known the last entry decides
  pub known_new : (es : Entries K V) (x : K × Finished V) (q : K) → known same es q ≡ None
      → known same (es ++ x ∷ []) q ≡ cond (same q x.0) (Some x.1.value) None
  known_new [] x q h = by (same q x.0)
    where
      by : (b : Bool) → value_in (cond b (Some x.1) None) ≡ cond b (Some x.1.value) None
      by true = refl
      by false = refl
  known_new (e ∷ es) x q h = by (same q e.0) h (known_new es x q)
    where
      by : (b : Bool) → value_in (cond b (Some e.1) (lookup (same q) es)) ≡ None
          → (known same es q ≡ None → known same (es ++ x ∷ []) q ≡ cond (same q x.0) (Some x.1.value) None)
          → value_in (cond b (Some e.1) (lookup (same q) (es ++ x ∷ []))) ≡ cond (same q x.0) (Some x.1.value) None
      by true h next = absurd (none_some (sym h))
      by false h next = next h

  pub lookup_none : (es : Entries K V) (k : K) → known same es k ≡ None → lookup (same k) es ≡ None
  lookup_none es k = by (lookup (same k) es)
    where
      by : (o : Option (Finished V)) → value_in o ≡ None → o ≡ None
      by None h = refl
      by (Some f) h = absurd (none_some (sym h))

  -- the key that is found passes the test
  pub lookup_key_same : (es : Entries K V) (k x : K) → lookup_key (same k) es ≡ Some x → same k x ≡ true
  lookup_key_same [] k x h = absurd (none_some h)
  lookup_key_same (e ∷ es) k x h = by (same k e.0) refl h (lookup_key_same es k x)
    where
      by : (b : Bool) → same k e.0 ≡ b → cond b (Some e.0) (lookup_key (same k) es) ≡ Some x → (lookup_key (same k) es ≡ Some x → same k x ≡ true) → same k x ≡ true
      by true e h next = ap (same k) (let c : x ≡ _ = cc in c) ∙ e
      by false e h next = next h

-- the keys at places stay, when more entries come
pub keys_at_stay : {K V : Type 0} (es added : Entries K V) (places : List ℕ) (keys : List K) → keys_at es places ≡ map Some keys → keys_at (es ++ added) places ≡ map Some keys
keys_at_stay es added [] keys h = h
keys_at_stay es added (p ∷ ps) [] h = absurd (cc)
keys_at_stay {K} {V} es added (p ∷ ps) (k ∷ ks) h =
    let first : key_at es p ≡ Some k = cc in
    let rest : keys_at es ps ≡ map Some ks = cc in
    ap (λ o. o ∷ keys_at (es ++ added) ps) (by (slice_get es p) refl first) ∙ ap (λ l. Some k ∷ l) (keys_at_stay es added ps ks rest)
  where
    by : (o : Option (K × Finished V)) → slice_get es p ≡ o → key_of_entry o ≡ Some k → key_at (es ++ added) p ≡ Some k
    by None e f = absurd (none_some f)
    by (Some x) e f = ap key_of_entry (slice_get_append es added p x e) ∙ f

pub keys_at_push : {K V : Type 0} (es : Entries K V) (places : List ℕ) (keys : List K) (p : ℕ) (k : K) → keys_at es places ≡ map Some keys → key_at es p ≡ Some k
    → keys_at es (places ++ p ∷ []) ≡ map Some (keys ++ k ∷ [])
keys_at_push es [] [] p k h e = ap (λ o. o ∷ []) e
keys_at_push es [] (x ∷ ks) p k h e = absurd (cc)
keys_at_push es (q ∷ ps) [] p k h e = absurd (cc)
keys_at_push es (q ∷ ps) (x ∷ ks) p k h e =
    let first : key_at es q ≡ Some x = cc in
    let rest : keys_at es ps ≡ map Some ks = cc in
    ap (λ o. o ∷ keys_at es (ps ++ p ∷ [])) first ∙ ap (λ l. Some x ∷ l) (keys_at_push es ps ks p k rest e)

pub length_more : {X : Type 0} (xs : List X) (x : X) → length (xs ++ x ∷ []) ≡ suc (length xs)
length_more [] x = refl
length_more (y ∷ xs) x = ap suc (length_more xs x)

-- what a list ends with
pub last_is : {X : Type 0} (xs ys : List X) (x y : X) → xs ++ x ∷ [] ≡ ys ++ y ∷ [] → (xs ≡ ys) × (x ≡ y)
last_is [] [] x y h = (refl, cc)
last_is [] (z ∷ []) x y h = absurd (cc)
last_is [] (z ∷ w ∷ ys) x y h = absurd (cc)
last_is (z ∷ []) [] x y h = absurd (cc)
last_is (z ∷ w ∷ xs) [] x y h = absurd (cc)
last_is (z ∷ xs) (w ∷ ys) x y h = let e : xs ++ x ∷ [] ≡ ys ++ y ∷ [] = cc in let f : z ≡ w = cc in let r = last_is xs ys x y e in (cc, r.1)

pub some_from_copied : {X : Type 0} (o : Option (Bor X)) (x : X) → option_copied o ≡ Some x → IsSome o
some_from_copied None x h = absurd (none_some h)
some_from_copied (Some r) x h = refl

pub lent_is : {X : Type 0} (o : Option (Bor X)) (r : Bor X) (x : X) → o ≡ Some r → option_copied o ≡ Some x → r.now ≡ x
lent_is o r x p q = let e : Some r.now ≡ Some x = ap option_copied (sym p) ∙ q in let c : r.now ≡ x = cc in c

pub value_last : {K V : Type 0} (after es : Entries K V) (x : K × Finished V) (place : ℕ) → after ≡ es ++ x ∷ [] → place ≡ length es → value_at after place ≡ Some x.1.value
value_last after es x place p q = ap (λ l. value_at l place) p ∙ ap (value_at (es ++ x ∷ [])) q ∙ ap value_of_entry (slice_get_last es x)

pub on_err : {A E : Type 0} (r : Result A E) (P : Type 0) → P → OnErr r P
on_err (Ok a) P p = tt
on_err (Err e) P p = p

pub on_err_more : {A E : Type 0} (r : Result A E) (P Q : Type 0) → (P → Q) → OnErr r P → OnErr r Q
on_err_more (Ok a) P Q f h = tt
on_err_more (Err e) P Q f h = f h

pub if_ok_more : {A E : Type 0} (r : Result A E) (P Q : A → Type 0) → ((a : A) → P a → Q a) → IfOk r P → IfOk r Q
if_ok_more (Ok a) P Q f h = f a h
if_ok_more (Err e) P Q f h = tt
