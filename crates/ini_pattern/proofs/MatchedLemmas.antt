-- The test whether a pattern matches a name is the relation.
use Rattle.std.proofs.Common.{◌≡◌, ◌↔◌, ℕ, ◌⊎◌, inl, inr, Bool, true, false, not, ◌&&◌, ◌||◌, eqb, Option, Some, None, List, [], ◌∷◌, ◌++◌, refl, sym, ap, subst}
use Rattle.std.proofs.lemmas.Bool.{and_parts, and_from, false≢true}
use Rattle.ini_pattern.specs.declared.piece.Piece.{Piece}
use Rattle.ini_pattern.specs.declared.piece.Piece.TheVariants.{AnyPath, AnyName, AnyChar, Char, Set, Number}
use Rattle.ini_pattern.specs.Matched.{any_end, any_near_end, left_passes, is_matched}
use Rattle.ini_pattern.specs.Matches.{has_no_dot, Covers}
use Rattle.ini_pattern.specs.Reading.{is_fixed, left_by}
use Rattle.ini_pattern.proofs.CoverLemmas.{left_covers, covers_left}

either : (a b : Bool) → a || b ≡ true → (a ≡ true) ⊎ (b ≡ true)
either true b h = inl refl
either false b h = inr h

or_first : (a b : Bool) → a ≡ true → a || b ≡ true
or_first a b h = rw h refl

or_second : (a b : Bool) → b ≡ true → a || b ≡ true
or_second true b h = refl
or_second false b h = h

-- an end of a name passes
abbrev AnEnd : (List ℕ → Bool) → List ℕ → Type 0
AnEnd passes name = (front end : List ℕ) × (name ≡ front ++ end) × (passes end ≡ true)

end_found : (passes : List ℕ → Bool) (name : List ℕ) → any_end passes name ≡ true → AnEnd passes name
end_found passes [] h = ([], [], refl, h)
end_found passes (c ∷ cs) h =
    elim (either (passes (c ∷ cs)) (any_end passes cs) h) [
      | inl here ↦ ([], c ∷ cs, refl, here)
      | inr later ↦
          let more = end_found passes cs later in
          (c ∷ more.0, more.1, ap (λ l. c ∷ l) more.2, more.3)
    ]

end_here : (passes : List ℕ → Bool) (end : List ℕ) → passes end ≡ true → any_end passes end ≡ true
end_here passes [] h = h
end_here passes (c ∷ cs) h = or_first _ _ h

end_passes : (passes : List ℕ → Bool) (front end : List ℕ) → passes end ≡ true → any_end passes (front ++ end) ≡ true
end_passes passes [] end h = end_here passes end h
end_passes passes (c ∷ front) end h = or_second _ _ (end_passes passes front end h)

-- an end that stands after no dot, or before the first one
abbrev ANearEnd : (List ℕ → Bool) → List ℕ → Type 0
ANearEnd passes name = (front end : List ℕ) × (name ≡ front ++ end) × (has_no_dot front ≡ true) × (passes end ≡ true)

near_found : (passes : List ℕ → Bool) (name : List ℕ) → any_near_end passes name ≡ true → ANearEnd passes name
near_found passes [] h = ([], [], refl, refl, h)
near_found passes (c ∷ cs) h =
    elim (either (passes (c ∷ cs)) (not (eqb c 46) && any_near_end passes cs) h) [
      | inl here ↦ ([], c ∷ cs, refl, refl, here)
      | inr later ↦
          let parts = and_parts (not (eqb c 46)) (any_near_end passes cs) later in
          let more = near_found passes cs parts.1 in
          (c ∷ more.0, more.1, ap (λ l. c ∷ l) more.2, and_from _ _ parts.0 more.3, more.4)
    ]

near_here : (passes : List ℕ → Bool) (end : List ℕ) → passes end ≡ true → any_near_end passes end ≡ true
near_here passes [] h = h
near_here passes (c ∷ cs) h = or_first _ _ h

near_passes : (passes : List ℕ → Bool) (front end : List ℕ) → has_no_dot front ≡ true → passes end ≡ true → any_near_end passes (front ++ end) ≡ true
near_passes passes [] end apart h = near_here passes end h
near_passes passes (c ∷ front) end apart h =
    let parts = and_parts (not (eqb c 46)) (has_no_dot front) apart in
    or_second _ _ (and_from _ _ parts.0 (near_passes passes front end parts.1 h))

-- what a piece that is no star leaves
left_found : (passes : List ℕ → Bool) (left : Option (List ℕ)) → left_passes passes left ≡ true → (rest : List ℕ) × (left ≡ Some rest) × (passes rest ≡ true)
left_found passes None h = absurd (false≢true h)
left_found passes (Some rest) h = (rest, refl, h)

fixed_found : (p : Piece) (ps : List Piece) (n : List ℕ) → left_passes (is_matched ps) (left_by p n) ≡ true → ((m : List ℕ) → is_matched ps m ≡ true → Covers ps m []) → Covers (p ∷ ps) n []
fixed_found p ps n h rest =
    let found = left_found (is_matched ps) (left_by p n) h in
    let one = left_covers p n found.0 found.1 in
    (one.0, one.1, one.2, one.3, rest one.1 (subst (λ m. is_matched ps m ≡ true) (sym one.4) found.2))

-- what the test finds is a match
pub test_matches : (ps : List Piece) (n : List ℕ) → is_matched ps n ≡ true → Covers ps n []
test_matches [] [] h = refl
test_matches [] (c ∷ cs) h = absurd (false≢true h)
test_matches (AnyPath ∷ ps) n h =
    let found = end_found (is_matched ps) n h in
    (found.0, found.1, found.2, tt, test_matches ps found.1 found.3)
test_matches (AnyName ∷ ps) n h =
    let found = near_found (is_matched ps) n h in
    (found.0, found.1, found.2, found.3, test_matches ps found.1 found.4)
test_matches (AnyChar ∷ ps) n h = fixed_found AnyChar ps n h (λ m. test_matches ps m)
test_matches (Char c ∷ ps) n h = fixed_found (Char c) ps n h (λ m. test_matches ps m)
test_matches (Set negated ranges ∷ ps) n h = fixed_found (Set negated ranges) ps n h (λ m. test_matches ps m)
test_matches (Number low high ∷ ps) n h = fixed_found (Number low high) ps n h (λ m. test_matches ps m)

fixed_passes : (p : Piece) (ps : List Piece) (n : List ℕ) → is_fixed p ≡ true → (w : Covers (p ∷ ps) n []) → is_matched ps w.1 ≡ true → left_passes (is_matched ps) (left_by p n) ≡ true
fixed_passes p ps n fixed w h =
    let left = covers_left p n w.1 fixed (w.0, w.1, w.2, w.3, refl) in
    rw left h

-- what matches passes the test
pub matches_test : (ps : List Piece) (n : List ℕ) → Covers ps n [] → is_matched ps n ≡ true
matches_test [] n w = rw w refl
matches_test (AnyPath ∷ ps) n w = rw w.2 (end_passes (is_matched ps) w.0 w.1 (matches_test ps w.1 w.4))
matches_test (AnyName ∷ ps) n w = rw w.2 (near_passes (is_matched ps) w.0 w.1 w.3 (matches_test ps w.1 w.4))
matches_test (AnyChar ∷ ps) n w = fixed_passes AnyChar ps n refl w (matches_test ps w.1 w.4)
matches_test (Char c ∷ ps) n w = fixed_passes (Char c) ps n refl w (matches_test ps w.1 w.4)
matches_test (Set negated ranges ∷ ps) n w = fixed_passes (Set negated ranges) ps n refl w (matches_test ps w.1 w.4)
matches_test (Number low high ∷ ps) n w = fixed_passes (Number low high) ps n refl w (matches_test ps w.1 w.4)

-- two tests of one question answer alike
same_answer : (a b : Bool) → (a ≡ true → b ≡ true) → (b ≡ true → a ≡ true) → a ≡ b
same_answer true b there back = sym (there refl)
same_answer false true there back = back refl
same_answer false false there back = refl

pub test_of : (ps : List Piece) (n : List ℕ) (b : Bool) → (b ≡ true) ↔ Covers ps n [] → b ≡ is_matched ps n
test_of ps n b h = same_answer b (is_matched ps n) (λ t. matches_test ps n (h.0 t)) (λ t. h.1 (test_matches ps n t))
