-- Values that may be kept are found in as many steps as there are places.
use Rattle.std.proofs.Common.{ℕ, zero, suc, ◌+◌, ◌≡◌, ◌≤◌, ◌<◌, refl, sym, ◌∙◌, ap, Bool, true, false, true≢false, ◌&&◌, ◌⊎◌, inl, inr, is_some, List, [], ◌∷◌, length, Option, Some, None, Result, Ok, arith}
use Rattle.std.specs.Prelude.{slice_get}
use Rattle.param_following.specs.Asking.{Asking, Done, Ask, outcome, with_value}
use Rattle.param_following.specs.Edits.{answer_of}
use Rattle.param_following.specs.Following.{Rules, followed}
use Rattle.param_following.specs.Laws.{IsExact}
use Rattle.param_following.proofs.Circles.{followed_stays}
use Rattle.param_following.proofs.Outcomes.{none_some}
use Rattle.rest_index.specs.Rests.{is_live}
use Rattle.param_keeping.specs.Added.{StepsArePlaces}
use Rattle.param_keeping.specs.Stores.{Store, IsStored, known_in}
use Rattle.param_keeping.proofs.Places.{found}

fewer_or_more : (a b : ℕ) → (a ≤ b) ⊎ (b < a)
fewer_or_more zero b = inl (omega arith)
fewer_or_more (suc a) zero = inr (omega arith)
fewer_or_more (suc a) (suc b) = by (fewer_or_more a b)
  where
    by : (a ≤ b) ⊎ (b < a) → (suc a ≤ suc b) ⊎ (suc b < suc a)
    by (inl h) = inl (omega (arith, h))
    by (inr h) = inr (omega (arith, h))

-- ---- how many keys that count are of a kind

abbrev one_if : Bool → ℕ
one_if true = 1
one_if false = 0

module _ {K : Type 0} (f g : K → Bool) (within : (k : K) → f k ≡ true → g k ≡ true) where
  one_more : (b : Bool) (k : K) → one_if (b && f k) ≤ one_if (b && g k)
  one_more false k = omega arith
  one_more true k = by (f k) refl (g k) refl
    where
      by : (c : Bool) → f k ≡ c → (d : Bool) → g k ≡ d → one_if c ≤ one_if d
      by true e true h = omega arith
      by true e false h = absurd (true≢false (sym (within k e) ∙ h))
      by false e true h = omega arith
      by false e false h = omega arith

module _ {K V : Type 0} where
  abbrev how_many : (K → Bool) → List (K × V) → List Bool → ℕ
  how_many f [] bs = 0
  how_many f (e ∷ es) [] = 0
  how_many f (e ∷ es) (b ∷ bs) = one_if (b && f e.0) + how_many f es bs

  no_more : (f : K → Bool) (es : List (K × V)) (bs : List Bool) → how_many f es bs ≤ length es
  no_more f [] bs = omega arith
  no_more f (e ∷ es) [] = omega arith
  no_more f (e ∷ es) (b ∷ bs) = by (b && f e.0) (no_more f es bs)
    where
      by : (c : Bool) → how_many f es bs ≤ length es → one_if c + how_many f es bs ≤ suc (length es)
      by true h = omega (arith, h)
      by false h = omega (arith, h)

  module _ (f g : K → Bool) (within : (k : K) → f k ≡ true → g k ≡ true) where
    as_many : (es : List (K × V)) (bs : List Bool) → how_many f es bs ≤ how_many g es bs
    as_many [] bs = omega arith
    as_many (e ∷ es) [] = omega arith
    as_many (e ∷ es) (b ∷ bs) = let h = one_more f g within b e.0 in let m = as_many es bs in omega (arith, h, m)

    -- where there are no more of the one kind, those are of the other
    all_are : (es : List (K × V)) (bs : List Bool) → how_many g es bs ≤ how_many f es bs
        → (p : ℕ) (e : K × V) → slice_get es p ≡ Some e → is_live bs p ≡ true → g e.0 ≡ true → f e.0 ≡ true
    all_are [] bs few p x at l h = absurd (none_some at)
    all_are (e ∷ es) [] few p x at l h = absurd (true≢false (sym l))
    all_are (e ∷ es) (b ∷ bs) few zero x at l h =
        let c : e ≡ x = cc in
        let m = as_many es bs in
        let n : one_if (b && g e.0) ≤ one_if (b && f e.0) = omega (arith, few, m) in
        ap (λ (z : K × V). f z.0) (sym c) ∙ by b l (f e.0) refl (ap (λ (z : K × V). g z.0) c ∙ h) n
      where
        by : (b : Bool) → b ≡ true → (c : Bool) → f e.0 ≡ c → g e.0 ≡ true → one_if (b && g e.0) ≤ one_if (b && f e.0) → c ≡ true
        by true l true t h n = refl
        by true l false t h n = absurd (less (g e.0) h (f e.0) t n)
          where
            less : (d : Bool) → d ≡ true → (c : Bool) → c ≡ false → one_if d ≤ one_if c → ⊥
            less true i true j n = true≢false j
            less true i false j n = omega (arith, n)
            less false i c j n = true≢false (sym i)
        by false l c t h n = absurd (true≢false (sym l))
    all_are (e ∷ es) (b ∷ bs) few (suc p) x at l h =
        let m = one_more f g within b e.0 in let n : how_many g es bs ≤ how_many f es bs = omega (arith, few, m) in all_are es bs n p x at l h

-- ---- which are found in so many steps

module _ {K V F : Type 0} (rules : Rules K V F) (n : ℕ) (s : Store K V) (exact : IsExact rules) (stored : IsStored rules n s) where
  abbrev known : K → Option V
  known k = known_in rules.same s k

  abbrev ends : ℕ → K → Bool
  ends m k = is_some (followed rules m k)

  some_is : {A : Type 0} (o : Option A) → is_some o ≡ true → (x : A) × (o ≡ Some x)
  some_is None h = absurd (true≢false (sym h))
  some_is (Some x) h = (x, refl)

  ends_still : (m : ℕ) (k : K) → ends m k ≡ true → ends (suc m) k ≡ true
  ends_still m k h = let r = some_is (followed rules m k) h in ap is_some (followed_stays rules m (suc m) k r.0 (omega arith) r.1)

  -- with the value that is known
  with_that : (m : ℕ) (k : K) (v : V) → known k ≡ Some v → ends m k ≡ true → followed rules m k ≡ Some (Ok v)
  with_that m k v e h =
      let r = some_is (followed rules m k) h in
      let a : followed rules (m + n) k ≡ Some r.0 = followed_stays rules m (m + n) k r.0 (omega arith) r.1 in
      let b : followed rules (m + n) k ≡ Some (Ok v) = followed_stays rules n (m + n) k (Ok v) (omega arith) (stored.right k v e) in
      r.1 ∙ sym a ∙ b

  module _ (m : ℕ) (stable : (k : K) (v : V) → known k ≡ Some v → ends (suc m) k ≡ true → ends m k ≡ true) where
    comes_as_well : (d : ℕ) → ((j : K) (u : V) → known j ≡ Some u → ends d j ≡ true → ends m j ≡ true)
        → (t : Asking K V F V) (r : Result V F) → outcome (λ j. answer_of (known j)) t ≡ Some r → is_some (outcome (followed rules d) t) ≡ true
        → is_some (outcome (followed rules m) t) ≡ true
    comes_as_well d before (Done x) r h i = refl
    comes_as_well d before (Ask j rest) r h i = by (known j) refl h (followed rules d j) refl i (λ u. comes_as_well d before (rest u) r)
      where
        by : (o : Option V) → known j ≡ o → with_value (answer_of o) (λ v. outcome (λ i. answer_of (known i)) (rest v)) ≡ Some r
            → (a : Option (Result V F)) → followed rules d j ≡ a → is_some (with_value a (λ v. outcome (followed rules d) (rest v))) ≡ true
            → ((u : V) → outcome (λ i. answer_of (known i)) (rest u) ≡ Some r → is_some (outcome (followed rules d) (rest u)) ≡ true → is_some (outcome (followed rules m) (rest u)) ≡ true)
            → is_some (with_value (followed rules m j) (λ v. outcome (followed rules m) (rest v))) ≡ true
        by None e h a f i next = absurd (none_some h)
        by (Some u) e h None f i next = absurd (true≢false (sym i))
        by (Some u) e h (Some x) f i next =
            let at_d : followed rules d j ≡ Some (Ok u) = with_that d j u e (ap is_some f) in
            let at_m : followed rules m j ≡ Some (Ok u) = with_that m j u e (before j u e (ap is_some f)) in
            let x_is : Some x ≡ Some (Ok u) = sym f ∙ at_d in
            ap (λ z. is_some (with_value z (λ v. outcome (followed rules m) (rest v)))) at_m
            ∙ next u h (sym (ap (λ z. is_some (with_value z (λ v. outcome (followed rules d) (rest v)))) x_is) ∙ i)

    -- where one step more finds nothing, no number of steps does
    pub no_more_steps : (d : ℕ) (k : K) (v : V) → known k ≡ Some v → ends d k ≡ true → ends m k ≡ true
    no_more_steps zero k v e h = absurd (true≢false (sym h))
    no_more_steps (suc d) k v e h =
        stable k v e (comes_as_well d (λ j u f i. no_more_steps d j u f i) (rules.asking k) (Ok v) (stored.shut k v e) h)

  abbrev AllEnd : ℕ → Type 0
  AllEnd m = (k : K) (v : V) → known k ≡ Some v → ends m k ≡ true

  abbrev many : ℕ → ℕ
  many m = how_many (ends m) s.entries s.live

  all_or_many : (m : ℕ) → AllEnd m ⊎ (m ≤ many m)
  all_or_many zero = inr (omega arith)
  all_or_many (suc m) = by (all_or_many m)
    where
      stable : many (suc m) ≤ many m → (k : K) (v : V) → known k ≡ Some v → ends (suc m) k ≡ true → ends m k ≡ true
      stable few k v e h = let r = found rules exact s.entries s.live k v e in
          all_are (ends m) (ends (suc m)) (ends_still m) s.entries s.live few r.0 (k, v) r.1 r.2 h

      compare : m ≤ many m → (many (suc m) ≤ many m) ⊎ (many m < many (suc m)) → AllEnd (suc m) ⊎ (suc m ≤ many (suc m))
      compare h (inl few) = inl (λ k v e. ends_still m k (no_more_steps m (stable few) n k v e (ap is_some (stored.right k v e))))
      compare h (inr more) = inr (omega (arith, h, more))

      by : AllEnd m ⊎ (m ≤ many m) → AllEnd (suc m) ⊎ (suc m ≤ many (suc m))
      by (inl all) = inl (λ k v e. ends_still m k (all k v e))
      by (inr h) = compare h (fewer_or_more (many (suc m)) (many m))

  all_end : AllEnd (length s.entries)
  all_end = by (all_or_many (length s.entries))
    where
      by : AllEnd (length s.entries) ⊎ (length s.entries ≤ many (length s.entries)) → AllEnd (length s.entries)
      by (inl all) = all
      by (inr h) = λ k v e.
          let r = found rules exact s.entries s.live k v e in
          let l = no_more (λ _. true) s.entries s.live in
          all_are (ends (length s.entries)) (λ _. true) (λ _ _. refl) s.entries s.live (omega (arith, h, l)) r.0 (k, v) r.1 r.2 refl

  pub in_places : IsStored rules (length s.entries) s
  in_places = record {
    right = λ k v e. with_that (length s.entries) k v e (all_end k v e);
    shut = stored.shut;
    asked = stored.asked;
    shaped = stored.shaped;
  }

pub steps_places : {K V F : Type 0} (rules : Rules K V F) → StepsArePlaces rules
steps_places rules n s exact stored = in_places rules n s exact stored
