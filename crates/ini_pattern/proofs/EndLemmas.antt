-- Where a `**` stands, only the longest rest of what stands before it matters.
use Rattle.std.proofs.Common.{◌≡◌, ◌↔◌, ℕ, ◌+◌, inl, inr, true, false, ltb, Option, Some, None, List, [], ◌∷◌, ◌++◌, length, take, drop, refl, sym, ap, subst, ◌∙◌}
use Rattle.std.specs.Prelude.{position, MatchOption, is_some}
use Rattle.std.specs.List.{list_all, position_or_len}
use Rattle.std.proofs.lemmas.Bool.{cases_Bool, false≢true, ltb-true, ltb-false}
use Rattle.std.proofs.lemmas.List.Sums.{split_at_first, passes_at_first}
use Rattle.ini_pattern.specs.declared.piece.Piece.{Piece}
use Rattle.ini_pattern.specs.declared.piece.Piece.TheVariants.{AnyPath, AnyName, AnyChar, Char, Set, Number}
use Rattle.ini_pattern.specs.Matches.{Covers, Matches}
use Rattle.ini_pattern.specs.Reading.{is_any_path, EndsWith, MatchesEnd, IsLongestRest, HasNoRest, IsLongestAnywhere, HasNoRestAnywhere}
use Rattle.ini_pattern.specs.Places.{is_no_path}
use Rattle.ini_pattern.proofs.SteadyLemmas.{front_passes, all_pass}
use Rattle.ini_pattern.proofs.CoverLemmas.{covers_append, covers_split, ends_trans, some_same, none_some}

is_path : (p : Piece) → is_any_path p ≡ true → p ≡ AnyPath
is_path AnyPath h = refl
is_path AnyName h = absurd (false≢true h)
is_path AnyChar h = absurd (false≢true h)
is_path (Char c) h = absurd (false≢true h)
is_path (Set negated ranges) h = absurd (false≢true h)
is_path (Number low high) h = absurd (false≢true h)

-- the pieces about the first `**`
pub no_path : (ps : List Piece) → position is_any_path ps ≡ None → list_all is_no_path ps ≡ true
no_path ps h =
    elim (cases_Bool (ltb (position_or_len is_any_path ps) (length ps))) [
      | inl t ↦ let wrong : Some (position_or_len is_any_path ps) ≡ None = rw t at h in absurd (none_some (sym wrong))
      | inr f ↦ all_pass is_no_path ps (ltb-false (position_or_len is_any_path ps) (length ps) f)
    ]

pub about_path : (ps : List Piece) (at : ℕ) → position is_any_path ps ≡ Some at → (list_all is_no_path (take at ps) ≡ true) × (ps ≡ take at ps ++ (AnyPath ∷ drop (at + 1) ps))
about_path ps at h =
    elim (cases_Bool (ltb (position_or_len is_any_path ps) (length ps))) [
      | inr f ↦ let wrong : None ≡ Some at = rw f at h in absurd (none_some wrong)
      | inl t ↦
          let found : Some (position_or_len is_any_path ps) ≡ Some at = rw t at h in
          let place : position_or_len is_any_path ps ≡ at = some_same found in
          let within = ltb-true (position_or_len is_any_path ps) (length ps) t in
          let cut = split_at_first is_any_path ps AnyPath within in
          let path = is_path _ (passes_at_first is_any_path ps AnyPath within) in (
            subst (λ k. list_all is_no_path (take k ps) ≡ true) place (front_passes is_no_path ps),
            subst (λ k. ps ≡ take k ps ++ (AnyPath ∷ drop (k + 1) ps)) place
                (cut ∙ ap (λ p. take (position_or_len is_any_path ps) ps ++ (p ∷ drop (position_or_len is_any_path ps + 1) ps)) path),
          )
    ]

-- what is after a `**` may begin at any end of what is left
behind_path : (back : List Piece) (m r : List ℕ) → EndsWith r m → Covers (AnyPath ∷ back) m [] → MatchesEnd back r
behind_path back m r ends w = (w.1, ends_trans r m w.1 ends (w.0, w.2), w.4)

pub whole_step : (ps front back : List Piece) (n r : List ℕ) → ps ≡ front ++ (AnyPath ∷ back) → IsLongestRest front false n r → Matches ps n ↔ MatchesEnd back r
whole_step ps front back n r e found = (
  λ w.
      let parts = covers_split front (AnyPath ∷ back) n [] (subst (λ l. Covers l n []) e w) in
      behind_path back parts.0 r (found.longest parts.0 parts.1 tt) parts.2,
  λ w. subst (λ l. Covers l n []) (sym e) (covers_append front (AnyPath ∷ back) n r [] found.covers (w.1.0, w.0, w.1.1, tt, w.2)),
)

pub whole_none : (ps front back : List Piece) (n : List ℕ) → ps ≡ front ++ (AnyPath ∷ back) → HasNoRest front false n → Matches ps n → ⊥
whole_none ps front back n e none w =
    let parts = covers_split front (AnyPath ∷ back) n [] (subst (λ l. Covers l n []) e w) in
    none parts.0 parts.1 tt

pub end_step : (ps front back : List Piece) (n r : List ℕ) → ps ≡ front ++ (AnyPath ∷ back) → IsLongestAnywhere front false n r → MatchesEnd ps n ↔ MatchesEnd back r
end_step ps front back n r e found = (
  λ w.
      let parts = covers_split front (AnyPath ∷ back) w.0 [] (subst (λ l. Covers l w.0 []) e w.2) in
      behind_path back parts.0 r (found.longest w.0 parts.0 w.1 parts.1 tt) parts.2,
  λ w. (found.start, found.within, subst (λ l. Covers l found.start []) (sym e) (covers_append front (AnyPath ∷ back) found.start r [] found.covers (w.1.0, w.0, w.1.1, tt, w.2))),
)

pub end_none : (ps front back : List Piece) (n : List ℕ) → ps ≡ front ++ (AnyPath ∷ back) → HasNoRestAnywhere front false n → MatchesEnd ps n → ⊥
end_none ps front back n e none w =
    let parts = covers_split front (AnyPath ∷ back) w.0 [] (subst (λ l. Covers l w.0 []) e w.2) in
    none w.0 parts.0 w.1 parts.1 tt

-- with no `**` left
pub last_whole : {A : Type 0} (view : A → List ℕ) (ps : List Piece) (n : List ℕ) (r : Option A) → MatchOption r (HasNoRest ps true n) (λ x. IsLongestRest ps true n (view x)) → (is_some r ≡ true) ↔ Matches ps n
last_whole view ps n None h = (λ t. absurd (false≢true t), λ w. absurd (h [] w refl))
last_whole view ps n (Some x) h = (λ t. subst (λ l. Covers ps n l) h.ends h.covers, λ w. refl)

pub last_end : {A : Type 0} (view : A → List ℕ) (ps : List Piece) (n : List ℕ) (r : Option A) → MatchOption r (HasNoRestAnywhere ps true n) (λ x. IsLongestAnywhere ps true n (view x)) → (is_some r ≡ true) ↔ MatchesEnd ps n
last_end view ps n None h = (λ t. absurd (false≢true t), λ w. absurd (h w.0 [] w.1 w.2 refl))
last_end view ps n (Some x) h = (λ t. (h.start, h.within, subst (λ l. Covers ps h.start l) h.ends h.covers), λ w. refl)
