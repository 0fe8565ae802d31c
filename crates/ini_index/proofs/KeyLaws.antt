-- Laws of keys.
use Rattle.std.proofs.Common.{◌≡◌, ◌≢◌, ◌⊎◌, inl, inr, ℕ, zero, suc, ◌<◌, ◌≤◌, ◌==◌, drop, slice_get, eqb-true, Bool, true, false, ◌&&◌, ◌||◌, List, [], ◌∷◌, ◌++◌, map, Option, Some, None, refl, sym, ap, ◌∙◌, arith, rules, tests, if◌then◌else◌}
use Rattle.std.specs.Char.{is_ascii}
use Rattle.std.specs.List.{list_all, list_any}
use Rattle.std.specs.Str.{IsAscii, bytes_eq, chars}
use Rattle.std.proofs.lemmas.Bool.{and_parts, or_parts, true≢false}
use Rattle.std.proofs.lemmas.Slice.Eq.{bytes_eq-Decides}
use Rattle.std.proofs.lemmas.Str.{chars-IsAscii, encode_ascii}
use Rattle.ini_pattern.specs.Matched.{is_matched, left_passes}
use Rattle.ini_pattern.specs.declared.piece.Piece.{Piece}
use Rattle.ini_pattern.specs.declared.piece.Piece.TheVariants as piece
use Rattle.ini_names.specs.Named.{HasNoDot, LastNameIsLiteral, literal_end}
use Rattle.ini_trees.specs.declared.lines.IniEntry.{IniEntry}
use Rattle.ini_trees.specs.declared.entry.EntryMeaning.{EntryMeaning}
use Rattle.ini_trees.specs.declared.entry.EntryMeaning.TheVariants as meaning
use Rattle.ini_trees.specs.Entries.{is_parameter_name, last_name, speaks, speaks_of}
use Rattle.ini_trees.specs.Words.{word_typename}
use Rattle.ini_index.specs.Indexed.{first_from, is_found, sooner}
use Rattle.ini_index.specs.Keys.{behind_last, has_key, is_dot, is_literal, key_in, key_of, literal_text, pieces_of, text_of}
use Rattle.ini_index.proofs.Firsts.{first_same, sooner_alone, sooner_of_two}

-- ---- pieces that are characters

dot_is : (p : Piece) → is_dot p ≡ true → p ≡ piece.Char 46
dot_is (piece.Char c) h = ap piece.Char (eqb-true c 46 h)
dot_is piece.AnyPath h = absurd (true≢false (sym h))
dot_is piece.AnyName h = absurd (true≢false (sym h))
dot_is piece.AnyChar h = absurd (true≢false (sym h))
dot_is (piece.Set negated ranges) h = absurd (true≢false (sym h))
dot_is (piece.Number low high) h = absurd (true≢false (sym h))

below : (c : ℕ) → is_ascii c ≡ true → c < 128
below c h = search (rules, tests)

characters : (ps : List Piece) → list_all is_literal ps ≡ true → ps ≡ map piece.Char (text_of ps)
characters [] h = refl
characters (piece.Char c ∷ ps) h =
    let parts = and_parts (is_ascii c) (list_all is_literal ps) h in
    ap (λ (l : List Piece). piece.Char c ∷ l) (characters ps parts.1)
    ∙ ap (λ (t : List ℕ). map piece.Char (t ++ text_of ps)) (sym (encode_ascii c (below c parts.0)))
characters (piece.AnyPath ∷ ps) h = absurd (true≢false (sym h))
characters (piece.AnyName ∷ ps) h = absurd (true≢false (sym h))
characters (piece.AnyChar ∷ ps) h = absurd (true≢false (sym h))
characters (piece.Set negated ranges ∷ ps) h = absurd (true≢false (sym h))
characters (piece.Number low high ∷ ps) h = absurd (true≢false (sym h))

-- characters match themselves alone
spelled : (name text : List ℕ) → is_matched (map piece.Char name) text ≡ true → text ≡ name
spelled [] [] h = refl
spelled [] (c ∷ cs) h = absurd (true≢false (sym h))
spelled (n ∷ name) [] h = absurd (true≢false (sym h))
spelled (n ∷ name) (c ∷ cs) h = by (c == n) refl h (spelled name cs)
  where
    by : (b : Bool) → (c == n) ≡ b → left_passes (is_matched (map piece.Char name)) (if b then Some cs else None) ≡ true → (is_matched (map piece.Char name) cs ≡ true → cs ≡ name) → (c ∷ cs) ≡ n ∷ name
    by true e h next = ap (λ (x : ℕ). x ∷ cs) (eqb-true c n e) ∙ ap (λ (l : List ℕ). n ∷ l) (next h)
    by false e h next = absurd (true≢false (sym h))

-- ---- what stands after the last dot

behind_split : (ps : List Piece) → list_any is_dot ps ≡ true → (front : List Piece) × (ps ≡ front ++ (piece.Char 46 ∷ behind_last is_dot ps))
behind_split [] h = absurd (true≢false (sym h))
behind_split (p ∷ ps) h = by (list_any is_dot ps) refl (is_dot p) refl h (behind_split ps)
  where
    by : (t : Bool) → list_any is_dot ps ≡ t → (d : Bool) → is_dot p ≡ d → (d || t) ≡ true → (list_any is_dot ps ≡ true → (front : List Piece) × (ps ≡ front ++ (piece.Char 46 ∷ behind_last is_dot ps)))
        → (front : List Piece) × ((p ∷ ps) ≡ front ++ (piece.Char 46 ∷ (if t then behind_last is_dot ps else (if d then ps else p ∷ ps))))
    by true e d g h next = let w = next e in (p ∷ w.0, ap (λ (l : List Piece). p ∷ l) w.1)
    by false e true g h next = ([], ap (λ (q : Piece). q ∷ ps) (dot_is p g))
    by false e false g h next = absurd (true≢false (sym h))

no_dot_behind : (ps : List Piece) → list_any is_dot (behind_last is_dot ps) ≡ false
no_dot_behind [] = refl
no_dot_behind (p ∷ ps) = by (list_any is_dot ps) refl (is_dot p) refl (no_dot_behind ps)
  where
    by : (t : Bool) → list_any is_dot ps ≡ t → (d : Bool) → is_dot p ≡ d → list_any is_dot (behind_last is_dot ps) ≡ false → list_any is_dot (if t then behind_last is_dot ps else (if d then ps else p ∷ ps)) ≡ false
    by true e d g next = next
    by false e true g next = e
    by false e false g next = ap (λ (b : Bool). b || list_any is_dot ps) g ∙ e

all_behind : (ps : List Piece) → list_any is_dot ps ≡ false → behind_last is_dot ps ≡ ps
all_behind [] h = refl
all_behind (p ∷ ps) h =
    let parts = or_parts (is_dot p) (list_any is_dot ps) h in
    ap (λ (t : Bool). if t then behind_last is_dot ps else (if is_dot p then ps else p ∷ ps)) parts.1
    ∙ ap (λ (d : Bool). if d then ps else p ∷ ps) parts.0

without_dot : (name : List ℕ) → list_any is_dot (map piece.Char name) ≡ false → HasNoDot name
without_dot [] h = tt
without_dot (c ∷ cs) h =
    let parts = or_parts (c == 46) (list_any is_dot (map piece.Char cs)) h in
    (other parts.0, without_dot cs parts.1)
  where
    other : (c == 46) ≡ false → c ≢ 46
    other e = search (rules, tests)

no_piece : (p : Piece) → None ≡ Some p → ⊥
no_piece p h = cc

same_piece : (p q : Piece) → Some p ≡ Some q → p ≡ q
same_piece p q h = cc

no_dots : (ps : List Piece) → ((k : ℕ) (p : Piece) → slice_get ps k ≡ Some p → is_dot p ≡ false) → list_any is_dot ps ≡ false
no_dots [] h = refl
no_dots (p ∷ ps) h = ap (λ (b : Bool). b || list_any is_dot ps) (h 0 p refl) ∙ no_dots ps (λ k q g. h (suc k) q g)

or_right : (a b : Bool) → b ≡ true → (a || b) ≡ true
or_right true b h = refl
or_right false b h = h

dot_among : (ps : List Piece) (k : ℕ) (q : Piece) → slice_get ps k ≡ Some q → is_dot q ≡ true → list_any is_dot ps ≡ true
dot_among [] k q h d = absurd (no_piece q h)
dot_among (p ∷ ps) zero q h d = ap (λ (b : Bool). b || list_any is_dot ps) (ap is_dot (same_piece p q h) ∙ d)
dot_among (p ∷ ps) (suc k) q h d = or_right (is_dot p) (list_any is_dot ps) (dot_among ps k q h d)

-- no dot stands from there on, and one right before it
pub behind_is : (ps : List Piece) (start : ℕ) → ((k : ℕ) (p : Piece) → start ≤ k → slice_get ps k ≡ Some p → is_dot p ≡ false) → ((before : ℕ) → start ≡ suc before → (p : Piece) × (slice_get ps before ≡ Some p) × (is_dot p ≡ true)) → drop start ps ≡ behind_last is_dot ps
behind_is [] zero past at = refl
behind_is [] (suc s) past at = refl
behind_is (p ∷ ps) zero past at = sym (all_behind (p ∷ ps) (no_dots (p ∷ ps) (λ k q h. past k q (omega arith) h)))
behind_is (p ∷ ps) (suc zero) past at =
    let w = at zero refl in
    let none : list_any is_dot ps ≡ false = no_dots ps (λ k q h. past (suc k) q (omega arith) h) in
    let dot : is_dot p ≡ true = ap is_dot (same_piece p w.0 w.1) ∙ w.2 in
    sym (ap (λ (t : Bool). if t then behind_last is_dot ps else (if is_dot p then ps else p ∷ ps)) none ∙ ap (λ (d : Bool). if d then ps else p ∷ ps) dot)
behind_is (p ∷ ps) (suc (suc s)) past at =
    let w = at (suc s) refl in
    let some : list_any is_dot ps ≡ true = dot_among ps s w.0 w.1 w.2 in
    behind_is ps (suc s) (λ k q low h. past (suc k) q (omega (arith, low)) h) (λ before e. at (suc before) (ap suc e))
    ∙ sym (ap (λ (t : Bool). if t then behind_last is_dot ps else (if is_dot p then ps else p ∷ ps)) some)

-- ---- the key of a pattern that matches a path

-- the key is the path, or its last name, or empty
abbrev pub IsAsked : List ℕ → List ℕ → Type 0
IsAsked key path = (key ≡ path) ⊎ ((key ≡ last_name path) ⊎ (key ≡ []))

by_name : LastNameIsLiteral → (ps : List Piece) (path : List ℕ) → IsAscii path → is_matched ps (chars path) ≡ true → list_all is_literal ps ≡ false → list_all is_literal (behind_last is_dot ps) ≡ true → last_name path ≡ text_of (behind_last is_dot ps)
by_name law ps path ascii m some all = by (list_any is_dot ps) refl
  where
    own : behind_last is_dot ps ≡ map piece.Char (text_of (behind_last is_dot ps))
    own = characters (behind_last is_dot ps) all

    by : (t : Bool) → list_any is_dot ps ≡ t → last_name path ≡ text_of (behind_last is_dot ps)
    by true e =
        let w = behind_split ps e in
        let whole : ps ≡ w.0 ++ literal_end (text_of (behind_last is_dot ps)) = w.1 ∙ ap (λ (l : List Piece). w.0 ++ (piece.Char 46 ∷ l)) own in
        law w.0 (text_of (behind_last is_dot ps)) path ascii (without_dot (text_of (behind_last is_dot ps)) (ap (list_any is_dot) (sym own) ∙ no_dot_behind ps)) (ap (λ (l : List Piece). is_matched l (chars path)) (sym whole) ∙ m)
    by false e = absurd (true≢false (sym all ∙ ap (list_all is_literal) (all_behind ps e) ∙ some))

pub key_asked : LastNameIsLiteral → (ps : List Piece) (path : List ℕ) → IsAscii path → is_matched ps (chars path) ≡ true → IsAsked (key_in ps) path
key_asked law ps path ascii m = by (list_all is_literal ps) refl
  where
    named : (b : Bool) → list_all is_literal ps ≡ false → list_all is_literal (behind_last is_dot ps) ≡ b → IsAsked (if b then text_of (behind_last is_dot ps) else []) path
    named true e f = inr (inl (sym (by_name law ps path ascii m e f)))
    named false e f = inr (inr refl)

    by : (b : Bool) → list_all is_literal ps ≡ b → IsAsked (if b then text_of ps else literal_text (behind_last is_dot ps)) path
    by true e = inl (sym (spelled (text_of ps) (chars path) (ap (λ (l : List Piece). is_matched l (chars path)) (sym (characters ps e)) ∙ m)) ∙ chars-IsAscii path ascii)
    by false e = named (list_all is_literal (behind_last is_dot ps)) e refl

-- ---- entries that speak of a path

matched_by : (path : List ℕ) (m : EntryMeaning) → speaks path m ≡ true → is_matched (pieces_of m) (chars path) ≡ true
matched_by path (meaning.Parameter p) h = (and_parts (is_parameter_name (last_name path)) (is_matched p.pattern (chars path)) h).1
matched_by path (meaning.Type p) h = (and_parts (bytes_eq (last_name path) word_typename) (is_matched p.pattern (chars path)) h).1
matched_by path (meaning.Object o) h = (and_parts (bytes_eq o.option (last_name path)) (is_matched o.pattern (chars path)) h).1
matched_by path (meaning.Network name) h = absurd (true≢false (sym h))
matched_by path (meaning.Extends names) h = absurd (true≢false (sym h))
matched_by path (meaning.TimeLimit ps) h = absurd (true≢false (sym h))
matched_by path meaning.Other h = absurd (true≢false (sym h))

one_of_three : (a b c s : Bool) → (s ≡ true → (a ≡ true) ⊎ ((b ≡ true) ⊎ (c ≡ true))) → (((a && s) || (b && s)) || (c && s)) ≡ s
one_of_three true true true true h = refl
one_of_three true true false true h = refl
one_of_three true false true true h = refl
one_of_three true false false true h = refl
one_of_three false true true true h = refl
one_of_three false true false true h = refl
one_of_three false false true true h = refl
one_of_three false false false true h = elim (h refl) [
  | inl e ↦ e
  | inr r ↦ elim r [
    | inl e ↦ e
    | inr e ↦ e
  ]
]
one_of_three true true true false h = refl
one_of_three true true false false h = refl
one_of_three true false true false h = refl
one_of_three true false false false h = refl
one_of_three false true true false h = refl
one_of_three false true false false h = refl
one_of_three false false true false h = refl
one_of_three false false false false h = refl

asked_keys : (path key : List ℕ) → IsAsked key path → (bytes_eq key path ≡ true) ⊎ ((bytes_eq key (last_name path) ≡ true) ⊎ (bytes_eq key [] ≡ true))
asked_keys path key h = elim h [
  | inl e ↦ inl ((bytes_eq-Decides key path).1 e)
  | inr r ↦ elim r [
    | inl e ↦ inr (inl ((bytes_eq-Decides key (last_name path)).1 e))
    | inr e ↦ inr (inr ((bytes_eq-Decides key []).1 e))
  ]
]

-- an entry speaks of a path if it does so and has one of the three keys
found_by_keys : LastNameIsLiteral → (path : List ℕ) → IsAscii path → (e : IniEntry) → ((is_found path path e || is_found (last_name path) path e) || is_found [] path e) ≡ speaks_of path e
found_by_keys law path ascii e =
    one_of_three (has_key path e) (has_key (last_name path) e) (has_key [] e) (speaks_of path e)
    (λ s. asked_keys path (key_of e.meaning) (key_asked law (pieces_of e.meaning) path ascii (matched_by path e.meaning s)))

-- the first of three keys is the first of all
pub first_by_keys : LastNameIsLiteral → (path name : List ℕ) (es : List IniEntry) (whole named found : Option ℕ) → IsAscii path → name ≡ last_name path
    → whole ≡ sooner None (first_from (is_found path path) 0 es) → named ≡ sooner whole (first_from (is_found name path) 0 es) → found ≡ sooner named (first_from (is_found [] path) 0 es)
    → found ≡ first_from (speaks_of path) 0 es
first_by_keys law path name es whole named found ascii same one two three =
    three
    ∙ ap (λ o. sooner o (first_from (is_found [] path) 0 es)) (two ∙ ap (λ o. sooner o (first_from (is_found name path) 0 es)) (one ∙ sooner_alone (first_from (is_found path path) 0 es)) ∙ ap (λ n. sooner (first_from (is_found path path) 0 es) (first_from (is_found n path) 0 es)) same ∙ sooner_of_two (is_found path path) (is_found (last_name path) path) es 0)
    ∙ sooner_of_two (λ e. is_found path path e || is_found (last_name path) path e) (is_found [] path) es 0
    ∙ first_same (λ e. (is_found path path e || is_found (last_name path) path e) || is_found [] path e) (speaks_of path) (found_by_keys law path ascii) es 0
