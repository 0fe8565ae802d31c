-- A submodule stands where its path says.
use Rattle.std.proofs.Common.{◌≡◌, ◌≢◌, ℕ, zero, suc, ◌+◌, ◌-◌, ◌*◌, ◌^◌, ◌<◌, ◌≤◌, ◌==◌, ◌||◌, pos, Bool, true, false, List, [], ◌∷◌, ◌++◌, Option, Some, None, option_map, nat_lt, length, take, drop, get_or, decimal, refl, sym, subst, ap, ◌∙◌, arith, length-append, if◌then◌else◌}
use Rattle.std.proofs.Math.Seq.{drop-append_seam, take-append_seam}
use Rattle.std.proofs.lemmas.Bool.{ne_eqb, lt-ltb, le-ltb}
use Rattle.std.proofs.lemmas.Fmt.{decimal_is_IsNumeral}
use Rattle.std.proofs.lemmas.Str.{digit_value_digit}
use Rattle.std.proofs.lemmas.Str.Parse.{digit_from_value}
use Rattle.std.specs.Char.{digit_value}
use Rattle.std.specs.List.{position, position_or_len}
use Rattle.std.specs.Str.Parse.{AllDigits, digits_value, digits_value_after}
use Rattle.ini_trees.proofs.ScanLaws.{last_name_is}
use Rattle.ini_trees.specs.Entries.{last_name}
use Rattle.inside_keys.specs.Keys.{child, own_name}
use Rattle.inside_keys.specs.Settings.{Whereabouts}
use Rattle.inside_keys.specs.declared.key.Module.{Module}
use Rattle.model_settings.specs.Standings.{before_last, bracket_of, index_after, index_behind, index_in, name_before, name_in, standing_of, ChildrenStand, HasFewBits, IsPlain}

-- no byte of a list is that one
abbrev Without : ℕ → List ℕ → Type 0
Without b [] = Unit {0}
Without b (c ∷ cs) = (c ≢ b) × Without b cs

without_join : (b : ℕ) (xs ys : List ℕ) → Without b xs → Without b ys → Without b (xs ++ ys)
without_join b [] ys h k = k
without_join b (x ∷ xs) ys h k = (h.0, without_join b xs ys h.1 k)

plain_dots : (name : List ℕ) → IsPlain name → Without 46 name
plain_dots [] h = tt
plain_dots (c ∷ cs) h = ((h 0 0 (omega arith)).0, plain_dots cs (λ k d p. h (suc k) d (omega (arith, p))))

plain_brackets : (name : List ℕ) → IsPlain name → Without 91 name
plain_brackets [] h = tt
plain_brackets (c ∷ cs) h = ((h 0 0 (omega arith)).1, plain_brackets cs (λ k d p. h (suc k) d (omega (arith, p))))

digits_dots : (ds : List ℕ) → AllDigits 10 ds → Without 46 ds
digits_dots [] h = tt
digits_dots (c ∷ cs) h = ((λ e. absurd (omega (arith, subst (λ (d : ℕ). digit_value d < 10) e h.0))), digits_dots cs h.1)

-- ---- the last name of a path

without_at : (own : List ℕ) → Without 46 own → (k : ℕ) → k < length own → get_or own k 0 ≡ 46 → ⊥
without_at [] h k p e = absurd (omega (arith, p))
without_at (c ∷ cs) h zero p e = h.0 e
without_at (c ∷ cs) h (suc k) p e = without_at cs h.1 k (omega (arith, p)) e

past : (p own : List ℕ) → Without 46 own → (k : ℕ) → suc (length p) ≤ k → k < length (p ++ 46 ∷ own) → get_or (p ++ 46 ∷ own) k 0 ≡ 46 → ⊥
past [] own h zero low high e = absurd (omega (arith, low))
past [] own h (suc k) low high e = without_at own h k (omega (arith, high)) e
past (c ∷ p) own h zero low high e = absurd (omega (arith, low))
past (c ∷ p) own h (suc k) low high e = past p own h k (omega (arith, low)) (omega (arith, high)) e

dot_at : (p own : List ℕ) → get_or (p ++ 46 ∷ own) (length p) 0 ≡ 46
dot_at [] own = refl
dot_at (c ∷ p) own = dot_at p own

behind_dot : (p own : List ℕ) → drop (suc (length p)) (p ++ 46 ∷ own) ≡ own
behind_dot [] own = refl
behind_dot (c ∷ p) own = behind_dot p own

length_with : (p own : List ℕ) → length (p ++ 46 ∷ own) ≡ suc (length p + length own)
length_with [] own = omega arith
length_with (c ∷ p) own = omega (arith, length_with p own)

less_one : (n : ℕ) → n ≡ suc n - 1
less_one n = omega arith

last_is : (p own : List ℕ) → Without 46 own → last_name (p ++ 46 ∷ own) ≡ own
last_is p own h =
    sym (last_name_is (p ++ 46 ∷ own) (suc (length p)) (omega (arith, length_with p own)) (λ k low high e. past p own h k low high e) (λ positive. subst (λ (k : ℕ). get_or (p ++ 46 ∷ own) k 0 ≡ 46) (less_one (length p)) (dot_at p own)))
    ∙ behind_dot p own

-- ---- what is before it

before_by : (own path : List ℕ) → last_name path ≡ own → length own < length path → before_last path ≡ Some (take (length path - suc (length own)) path)
before_by own path e less =
    ap (λ (l : List ℕ). if nat_lt (length l) (length path) then Some (take (length path - suc (length l)) path) else None) e
    ∙ ap (λ (b : Bool). if b then Some (take (length path - suc (length own)) path) else None) (lt-ltb (length own) (length path) less)

before_is : (p own : List ℕ) → Without 46 own → before_last (p ++ 46 ∷ own) ≡ Some p
before_is p own h =
    let len = length_with p own in
    let front : length (p ++ 46 ∷ own) - suc (length own) ≡ length p = omega (arith, len) in
    before_by own (p ++ 46 ∷ own) (last_is p own h) (omega (arith, len))
    ∙ ap (λ (n : ℕ). Some (take n (p ++ 46 ∷ own))) front
    ∙ ap Some (take-append_seam p (46 ∷ own))

-- ---- names and indexes

one_more : (n : ℕ) → 1 + n ≡ suc n
one_more n = omega arith

no_bracket : (name : List ℕ) → Without 91 name → position_or_len (λ (c : ℕ). c == 91) name ≡ length name
no_bracket [] h = refl
no_bracket (c ∷ cs) h = rw (ne_eqb c 91 h.0) (ap (λ (n : ℕ). 1 + n) (no_bracket cs h.1) ∙ one_more (length cs))

bracket_behind : (name rest : List ℕ) → Without 91 name → position_or_len (λ (c : ℕ). c == 91) (name ++ 91 ∷ rest) ≡ length name
bracket_behind [] rest h = refl
bracket_behind (c ∷ cs) rest h = rw (ne_eqb c 91 h.0) (ap (λ (n : ℕ). 1 + n) (bracket_behind cs rest h.1) ∙ one_more (length cs))

length_behind : (name rest : List ℕ) → length name < length (name ++ 91 ∷ rest)
length_behind [] rest = omega arith
length_behind (c ∷ cs) rest = omega (arith, length_behind cs rest)

bracket_none : (name : List ℕ) → Without 91 name → bracket_of name ≡ None
bracket_none name h =
    ap (λ (n : ℕ). if nat_lt n (length name) then Some n else None) (no_bracket name h)
    ∙ ap (λ (b : Bool). if b then Some (length name) else None) (le-ltb (length name) (length name) (omega arith))

bracket_some : (name rest : List ℕ) → Without 91 name → bracket_of (name ++ 91 ∷ rest) ≡ Some (length name)
bracket_some name rest h =
    ap (λ (n : ℕ). if nat_lt n (length (name ++ 91 ∷ rest)) then Some n else None) (bracket_behind name rest h)
    ∙ ap (λ (b : Bool). if b then Some (length name) else None) (lt-ltb (length name) (length (name ++ 91 ∷ rest)) (length_behind name rest))

behind_bracket : (name rest : List ℕ) → drop (suc (length name)) (name ++ 91 ∷ rest) ≡ rest
behind_bracket [] rest = refl
behind_bracket (c ∷ cs) rest = behind_bracket cs rest

-- the digits of a number make it no smaller
no_smaller : (n : ℕ) (ds : List ℕ) → n ≤ digits_value_after 10 n ds
no_smaller n [] = omega arith
no_smaller n (c ∷ cs) = omega (arith, no_smaller (n * 10 + digit_value c) cs)

three_false : {X : Type 0} (a b c : Bool) (x y z rest : X) → a ≡ false → b ≡ false → c ≡ false → (if a then x else if b then y else if c then z else rest) ≡ rest
three_false a b c x y z rest e f g = rw e (rw f (rw g refl))

both_false : (a b : Bool) → a ≡ false → b ≡ false → (a || b) ≡ false
both_false a b e f = rw e f

one_digit : (n c : ℕ) (rest : List ℕ) → digit_value c < 10 → n * 10 + (c - 48) < 2 ^ 32 → index_after n (c ∷ rest) ≡ index_after (n * 10 + (c - 48)) rest
one_digit n c rest digit small =
    let range = digit_from_value c digit in
    three_false (c == 93) (nat_lt c 48 || nat_lt 57 c) (nat_lt (2 ^ 32 - 1) (n * 10 + (c - 48))) (Some n) None None (index_after (n * 10 + (c - 48)) rest)
    (ne_eqb c 93 (λ e. omega (arith, e, range.0, range.1)))
    (both_false (nat_lt c 48) (nat_lt 57 c) (le-ltb c 48 (omega (arith, range.0, range.1))) (le-ltb 57 c (omega (arith, range.0, range.1))))
    (le-ltb (2 ^ 32 - 1) (n * 10 + (c - 48)) (omega (arith, small)))

index_read : (n : ℕ) (ds : List ℕ) → AllDigits 10 ds → digits_value_after 10 n ds < 2 ^ 32 → index_after n (ds ++ 93 ∷ []) ≡ Some (digits_value_after 10 n ds)
index_read n [] digits small = refl
index_read n (c ∷ cs) digits small =
    let same : digit_value c ≡ c - 48 = omega (arith, digit_value_digit c (digit_from_value c digits.0)) in
    let later : digits_value_after 10 (n * 10 + (c - 48)) cs < 2 ^ 32 = subst (λ (d : ℕ). digits_value_after 10 (n * 10 + d) cs < 2 ^ 32) same small in
    one_digit n c (cs ++ 93 ∷ []) digits.0 (omega (arith, no_smaller (n * 10 + (c - 48)) cs, later))
    ∙ index_read (n * 10 + (c - 48)) cs digits.1 later
    ∙ ap (λ (d : ℕ). Some (digits_value_after 10 (n * 10 + d) cs)) (sym same)

index_is : (k : ℕ) → k < 2 ^ 32 → index_after 0 (decimal k ++ 93 ∷ []) ≡ Some k
index_is k small =
    let numeral = decimal_is_IsNumeral k (omega (arith, small)) in
    index_read 0 (decimal k) numeral.0.1 (subst (λ (n : ℕ). n < 2 ^ 32) (sym numeral.1) small)
    ∙ ap Some numeral.1

-- ---- a submodule

stands_by : (m : Module) (name own : List ℕ) (index : Option ℕ) → Without 46 own → name_in own ≡ name → index_in own ≡ index
    → standing_of (record { created = m.created; path = m.path ++ 46 ∷ own }) ≡ record { around = Some m; name = name; index = option_map pos index; is_declared = true }
stands_by m name own index dots named indexed =
    ap (λ (o : Option (List ℕ)). made (option_map (λ (path : List ℕ). record { created = m.created; path = path }) o) (name_in (last_name (m.path ++ 46 ∷ own))) (index_in (last_name (m.path ++ 46 ∷ own)))) (before_is m.path own dots)
    ∙ ap (λ (l : List ℕ). made (Some m) (name_in l) (index_in l)) (last_is m.path own dots)
    ∙ ap (λ (n : List ℕ). made (Some m) n (index_in own)) named
    ∙ ap (λ (i : Option ℕ). made (Some m) name i) indexed
  where
    made : Option Module → List ℕ → Option ℕ → Whereabouts
    made around n i = record { around = around; name = n; index = option_map pos i; is_declared = true }

pub children_stand : ChildrenStand
children_stand m name None plain few =
    let brackets = bracket_none name (plain_brackets name plain) in
    stands_by m name name None (plain_dots name plain) (ap (name_before name) brackets) (ap (index_behind name) brackets)
children_stand m name (Some k) plain few =
    let rest = decimal k ++ 93 ∷ [] in
    let own = name ++ 91 ∷ rest in
    let digits = (decimal_is_IsNumeral k (omega (arith, few))).0.1 in
    let brackets = bracket_some name rest (plain_brackets name plain) in
    let dots : Without 46 own = without_join 46 name (91 ∷ rest) (plain_dots name plain) ((λ e. absurd (omega (arith, e))), without_join 46 (decimal k) (93 ∷ []) (digits_dots (decimal k) digits) ((λ e. absurd (omega (arith, e))), tt)) in
    stands_by m name own (Some k) dots
    (ap (name_before own) brackets ∙ take-append_seam name (91 ∷ rest))
    (ap (index_behind own) brackets ∙ ap (index_after 0) (behind_bracket name rest) ∙ index_is k few)
