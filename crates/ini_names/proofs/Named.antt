-- A pattern that ends in a dot and a name.
use Rattle.std.proofs.Common.{◌≡◌, ℕ, zero, suc, ◌+◌, ◌-◌, ◌<◌, ◌≤◌, ◌==◌, eqb-true, Bool, true, false, true≢false, not, ◌&&◌, ◌||◌, List, [], ◌∷◌, ◌++◌, map, Some, None, length, drop, get_or, refl, sym, subst, ap, ◌∙◌, arith, if◌then◌else◌}
use Rattle.std.proofs.lemmas.Str.{chars-IsAscii}
use Rattle.std.specs.Char.{is_ascii_digit}
use Rattle.ini_pattern.specs.Matched.{any_end, any_near_end, is_matched, left_passes, passes_behind}
use Rattle.ini_pattern.specs.Matches.{in_ranges}
use Rattle.ini_pattern.specs.PatternOf.{after_digits, digits_front}
use Rattle.ini_pattern.specs.Reading.{is_number_in, left_by_char}
use Rattle.ini_pattern.specs.declared.piece.Piece.{Piece}
use Rattle.ini_pattern.specs.declared.piece.Piece.TheVariants.{AnyPath, AnyName, AnyChar, Char, Set, Number}
use Rattle.ini_trees.proofs.ScanLaws.{last_name_is}
use Rattle.ini_trees.specs.Entries.{last_name}
use Rattle.ini_names.specs.Named.{HasNoDot, LastNameIsLiteral, literal_end}

-- ---- the last name of a path

without_at : (own : List ℕ) → HasNoDot own → (k : ℕ) → k < length own → get_or own k 0 ≡ 46 → ⊥
without_at [] h k p e = absurd (omega (arith, p))
without_at (c ∷ cs) h zero p e = h.0 e
without_at (c ∷ cs) h (suc k) p e = without_at cs h.1 k (omega (arith, p)) e

past : (p own : List ℕ) → HasNoDot own → (k : ℕ) → suc (length p) ≤ k → k < length (p ++ 46 ∷ own) → get_or (p ++ 46 ∷ own) k 0 ≡ 46 → ⊥
past [] own h zero low high e = absurd (omega (arith, low))
past [] own h (suc k) low high e = without_at own h k (omega (arith, high)) e
past (c ∷ p) own h zero low high e = absurd (omega (arith, low))
past (c ∷ p) own h (suc k) low high e = past p own h k (omega (arith, low)) (omega (arith, high)) e

dot_at : (p own : List ℕ) → get_or (p ++ 46 ∷ own) (length p) 0 ≡ 46
dot_at [] own = refl
dot_at (c ∷ p) own = dot_at p own

behind_dot : (p own : List ℕ) → drop (suc (length p)) (p ++ 46 ∷ own) ≡ own
behind_dot [] own = refl
behind_dot (c ∷ p) own = behind_dot p own

length_with : (p own : List ℕ) → length (p ++ 46 ∷ own) ≡ suc (length p + length own)
length_with [] own = omega arith
length_with (c ∷ p) own = omega (arith, length_with p own)

less_one : (n : ℕ) → n ≡ suc n - 1
less_one n = omega arith

last_is : (p own : List ℕ) → HasNoDot own → last_name (p ++ 46 ∷ own) ≡ own
last_is p own h =
    sym (last_name_is (p ++ 46 ∷ own) (suc (length p)) (omega (arith, length_with p own)) (λ k low high e. past p own h k low high e) (λ positive. subst (λ (k : ℕ). get_or (p ++ 46 ∷ own) k 0 ≡ 46) (less_one (length p)) (dot_at p own)))
    ∙ behind_dot p own

-- ---- ends of a text

-- an end of a text passes
abbrev EndPasses : (List ℕ → Bool) → List ℕ → Type 0
EndPasses passes text = (front end : List ℕ) × (text ≡ front ++ end) × (passes end ≡ true)

longer : (passes : List ℕ → Bool) (c : ℕ) (cs : List ℕ) → EndPasses passes cs → EndPasses passes (c ∷ cs)
longer passes c cs h = (c ∷ h.0, h.1, ap (λ (l : List ℕ). c ∷ l) h.2, h.3)

whole : (passes : List ℕ → Bool) (text : List ℕ) → passes text ≡ true → EndPasses passes text
whole passes text h = ([], text, refl, h)

any_passes : (passes : List ℕ → Bool) (text : List ℕ) → any_end passes text ≡ true → EndPasses passes text
any_passes passes [] h = whole passes [] h
any_passes passes (c ∷ cs) h = by (passes (c ∷ cs)) refl h (any_passes passes cs)
  where
    by : (b : Bool) → passes (c ∷ cs) ≡ b → (b || any_end passes cs) ≡ true → (any_end passes cs ≡ true → EndPasses passes cs) → EndPasses passes (c ∷ cs)
    by true e h next = whole passes (c ∷ cs) e
    by false e h next = longer passes c cs (next h)

near_passes : (passes : List ℕ → Bool) (text : List ℕ) → any_near_end passes text ≡ true → EndPasses passes text
near_passes passes [] h = whole passes [] h
near_passes passes (c ∷ cs) h = by (passes (c ∷ cs)) refl (not (c == 46)) h (near_passes passes cs)
  where
    by : (b : Bool) → passes (c ∷ cs) ≡ b → (d : Bool) → (b || (d && any_near_end passes cs)) ≡ true → (any_near_end passes cs ≡ true → EndPasses passes cs) → EndPasses passes (c ∷ cs)
    by true e d h next = whole passes (c ∷ cs) e
    by false e true h next = longer passes c cs (next h)
    by false e false h next = absurd (true≢false (sym h))

char_passes : (takes : ℕ → Bool) (passes : List ℕ → Bool) (text : List ℕ) → left_passes passes (left_by_char takes text) ≡ true → EndPasses passes text
char_passes takes passes [] h = absurd (true≢false (sym h))
char_passes takes passes (c ∷ cs) h = by (takes c) h
  where
    by : (b : Bool) → left_passes passes (if b then Some cs else None) ≡ true → EndPasses passes (c ∷ cs)
    by true h = longer passes c cs (whole passes cs h)
    by false h = absurd (true≢false (sym h))

digits_pass : (passes : List ℕ → Bool) (text : List ℕ) → passes (after_digits text) ≡ true → EndPasses passes text
digits_pass passes [] h = whole passes [] h
digits_pass passes (c ∷ cs) h = by (is_ascii_digit c) h (digits_pass passes cs)
  where
    by : (b : Bool) → passes (if b then after_digits cs else c ∷ cs) ≡ true → (passes (after_digits cs) ≡ true → EndPasses passes cs) → EndPasses passes (c ∷ cs)
    by true h next = longer passes c cs (next h)
    by false h next = whole passes (c ∷ cs) h

piece_passes : (passes : List ℕ → Bool) (piece : Piece) (text : List ℕ) → passes_behind passes piece text ≡ true → EndPasses passes text
piece_passes passes AnyPath text h = any_passes passes text h
piece_passes passes AnyName text h = near_passes passes text h
piece_passes passes AnyChar text h = char_passes (λ c. not (c == 46)) passes text h
piece_passes passes (Char wanted) text h = char_passes (λ c. c == wanted) passes text h
piece_passes passes (Set negated ranges) text h = char_passes (λ c. if negated then not (in_ranges ranges c) else in_ranges ranges c) passes text h
piece_passes passes (Number low high) text h = by (is_number_in low high (digits_front text)) h
  where
    by : (b : Bool) → left_passes passes (if b then Some (after_digits text) else None) ≡ true → EndPasses passes text
    by true h = digits_pass passes text h
    by false h = absurd (true≢false (sym h))

joined : (xs ys zs : List ℕ) → (xs ++ ys) ++ zs ≡ xs ++ (ys ++ zs)
joined [] ys zs = refl
joined (x ∷ xs) ys zs = ap (λ (l : List ℕ). x ∷ l) (joined xs ys zs)

-- pieces behind others match an end
behind : (front back : List Piece) (text : List ℕ) → is_matched (front ++ back) text ≡ true → EndPasses (is_matched back) text
behind [] back text h = whole (is_matched back) text h
behind (piece ∷ front) back text h =
    let a = piece_passes (is_matched (front ++ back)) piece text h in
    let b = behind front back a.1 a.3 in
    (a.0 ++ b.0, b.1, a.2 ∙ ap (λ (l : List ℕ). a.0 ++ l) b.2 ∙ sym (joined a.0 b.0 b.1), b.3)

-- characters match themselves
spelled : (name text : List ℕ) → is_matched (map Char name) text ≡ true → text ≡ name
spelled [] [] h = refl
spelled [] (c ∷ cs) h = absurd (true≢false (sym h))
spelled (n ∷ name) [] h = absurd (true≢false (sym h))
spelled (n ∷ name) (c ∷ cs) h = by (c == n) refl h (spelled name cs)
  where
    by : (b : Bool) → (c == n) ≡ b → left_passes (is_matched (map Char name)) (if b then Some cs else None) ≡ true → (is_matched (map Char name) cs ≡ true → cs ≡ name) → (c ∷ cs) ≡ n ∷ name
    by true e h next = ap (λ (x : ℕ). x ∷ cs) (eqb-true c n e) ∙ ap (λ (l : List ℕ). n ∷ l) (next h)
    by false e h next = absurd (true≢false (sym h))

pub literal_last : LastNameIsLiteral
literal_last front name path ascii no_dot h =
    let m = behind front (literal_end name) path (ap (is_matched (front ++ literal_end name)) (sym (chars-IsAscii path ascii)) ∙ h) in
    let e = spelled (46 ∷ name) m.1 m.3 in
    ap last_name (m.2 ∙ ap (λ (l : List ℕ). m.0 ++ l) e) ∙ last_is m.0 name no_dot
