-- The walk over the compound modules of a network.
use Rattle.std.proofs.Common.{◌≡◌, ◌⊎◌, inl, inr, ℕ, zero, suc, ◌<◌, List, [], ◌∷◌, ◌++◌, length, reverse, arith, ap, sym, subst, ◌∙◌}
use Rattle.std.proofs.lemmas.List.{reverse-append}
use Rattle.std.proofs.lemmas.List.Elements.{All-cons, All-nil}
use Rattle.std.specs.List.{All}
use Rattle.inside_keys.specs.Settings.{ModuleRules}
use Rattle.ned_types.specs.WellFormed.{IsAmong}
use Rattle.model_answers.specs.Kept.{compounds_in, itself, walked, within, StandsIn, WalkMeetsAll}

among_front : {X : Type 0} (x : X) (xs ys : List X) → IsAmong x xs → IsAmong x (xs ++ ys)
among_front x [] ys h = absurd h
among_front x (z ∷ xs) ys (inl e) = inl e
among_front x (z ∷ xs) ys (inr h) = inr (among_front x xs ys h)

among_back : {X : Type 0} (x : X) (xs ys : List X) → IsAmong x ys → IsAmong x (xs ++ ys)
among_back x [] ys h = h
among_back x (z ∷ xs) ys h = inr (among_back x xs ys h)

among_reverse : {X : Type 0} (x : X) (xs : List X) → IsAmong x xs → IsAmong x (reverse xs)
among_reverse x [] h = absurd h
among_reverse x (z ∷ xs) (inl e) = subst (IsAmong x) (sym (reverse-append (z ∷ []) xs)) (among_back x (reverse xs) (z ∷ []) (inl e))
among_reverse x (z ∷ xs) (inr h) = subst (IsAmong x) (sym (reverse-append (z ∷ []) xs)) (among_front x (reverse xs) (z ∷ []) (among_reverse x xs h))

module _ (s : ModuleRules) where
  -- each of the paths
  meets : (n : ℕ) (paths : List (List ℕ)) (path : List ℕ) → length (walked s n paths) < n → IsAmong path paths → IsAmong path (walked s n paths)
  unfolding walked
  meets zero paths path few h = absurd (omega (arith, few))
  meets (suc n) [] path few h = absurd h
  meets (suc n) (p ∷ ps) path few (inl e) = inl e
  meets (suc n) (p ∷ ps) path few (inr h) =
      inr (meets n (reverse (compounds_in s p) ++ ps) path (omega (arith, few)) (among_back path (reverse (compounds_in s p)) ps h))

  -- and each compound module in one that it meets
  meets_inner : (n : ℕ) (paths : List (List ℕ)) (path inner : List ℕ) → length (walked s n paths) < n → IsAmong path (walked s n paths)
      → IsAmong inner (compounds_in s path) → IsAmong inner (walked s n paths)
  unfolding walked
  meets_inner zero paths path inner few h i = absurd (omega (arith, few))
  meets_inner (suc n) [] path inner few h i = absurd h
  meets_inner (suc n) (p ∷ ps) path inner few (inl e) i =
      inr (meets n (reverse (compounds_in s p) ++ ps) inner (omega (arith, few))
      (among_front inner (reverse (compounds_in s p)) ps (among_reverse inner (compounds_in s p) (subst (λ (q : List ℕ). IsAmong inner (compounds_in s q)) e i))))
  meets_inner (suc n) (p ∷ ps) path inner few (inr h) i =
      inr (meets_inner n (reverse (compounds_in s p) ++ ps) path inner (omega (arith, few)) h i)

  meets_all : (n : ℕ) (paths : List (List ℕ)) (path : List ℕ) → length (walked s n paths) < n → StandsIn s paths path → IsAmong path (walked s n paths)
  meets_all n paths _ few (itself path h) = meets n paths path few h
  meets_all n paths _ few (within outer path h i) = meets_inner n paths outer path few (meets_all n paths outer few h) i

pub walk_meets_all : WalkMeetsAll
walk_meets_all s n paths path few stands = meets_all s n paths path few stands

-- ---- what holds of all that it comes to

module _ (s : ModuleRules) (P : List ℕ → Type 0) where
  -- one more that it comes to
  pub walk_on : (n k : ℕ) (p : List ℕ) (rest old new : List (List ℕ)) → n ≡ suc k → old ≡ rest ++ p ∷ [] → new ≡ rest ++ compounds_in s p → P p
      → All P (walked s k (reverse new)) → All P (walked s n (reverse old))
  unfolding walked
  walk_on n k p rest old new e was is own all =
      subst (λ (l : List (List ℕ)). All P (walked s n l)) (sym (ap reverse was ∙ reverse-append rest (p ∷ [])))
      (subst (λ (m : ℕ). All P (walked s m (p ∷ reverse rest))) (sym e)
      (All-cons P p (walked s k (reverse (compounds_in s p) ++ reverse rest)) own
      (subst (λ (l : List (List ℕ)). All P (walked s k l)) (ap reverse is ∙ reverse-append rest (compounds_in s p)) all)))

  -- where nothing is left, and where it may come to no more
  pub walk_none : (n : ℕ) (paths : List (List ℕ)) → paths ≡ [] → All P (walked s n (reverse paths))
  unfolding walked
  walk_none zero paths e = All-nil P
  walk_none (suc n) paths e = subst (λ (l : List (List ℕ)). All P (walked s (suc n) (reverse l))) (sym e) (All-nil P)

  pub walk_over : (n : ℕ) (paths : List (List ℕ)) → n ≡ 0 → All P (walked s n paths)
  unfolding walked
  walk_over n paths e = subst (λ (m : ℕ). All P (walked s m paths)) (sym e) (All-nil P)
