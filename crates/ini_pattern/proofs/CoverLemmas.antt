-- What pieces take of a name, and what they leave.
use Rattle.std.proofs.Common.{◌≡◌, ◌≢◌, ℕ, ◌≤◌, ◌⊎◌, inl, inr, Bool, true, false, not, ◌&&◌, cond, eqb, leb, ltb, Option, Some, None, List, [], ◌∷◌, ◌++◌, length, append_assoc, refl, sym, ap, subst, ◌∙◌}
use Rattle.std.specs.Prelude.{option_and_then, IfSome}
use Rattle.std.specs.Char.{is_ascii_digit}
use Rattle.std.specs.List.{list_all}
use Rattle.std.specs.Str.Parse.{digits_value}
use Rattle.std.proofs.lemmas.Bool.{and_parts, and_from, cases_Bool, not-true, eqb-true, eqb-false, eq-eqb, ne_eqb, leb-true, ltb-true, le-leb, lt-ltb, false≢true}
use Rattle.ini_pattern.specs.declared.piece.CharRange.{CharRange}
use Rattle.ini_pattern.specs.declared.piece.Piece.{Piece}
use Rattle.ini_pattern.specs.declared.piece.Piece.TheVariants.{AnyPath, AnyName, AnyChar, Char, Set, Number}
use Rattle.ini_pattern.specs.Matches.{in_ranges, begins_with_digit, IsNumberIn, Covers}
use Rattle.ini_pattern.specs.PatternOf.{digits_front, after_digits}
use Rattle.ini_pattern.specs.Reading.{is_fixed, left_by_char, is_up_to, is_number_in, left_by, left_by_all, EndsWith}

-- two ways to cut a text: one front goes further than the other
pub cuts : (f s g t : List ℕ) → f ++ s ≡ g ++ t → ((z : List ℕ) × (g ≡ f ++ z) × (s ≡ z ++ t)) ⊎ ((z : List ℕ) × (f ≡ g ++ z) × (t ≡ z ++ s))
cuts [] s g t e = inl (g, refl, e)
cuts (x ∷ f) s [] t e = inr (x ∷ f, refl, sym e)
cuts (x ∷ f) s (y ∷ g) t e =
    let heads : x ≡ y = cc in
    let tails : f ++ s ≡ g ++ t = cc in
    elim (cuts f s g t tails) [
      | inl w ↦ inl (w.0, cc, w.2)
      | inr w ↦ inr (w.0, cc, w.2)
    ]

pub ends_more : (f n r : List ℕ) → EndsWith n r → EndsWith (f ++ n) r
ends_more f n r w = (f ++ w.0, rw w.1 (sym (append_assoc f w.0 r)))

pub ends_trans : (a b c : List ℕ) → EndsWith a b → EndsWith b c → EndsWith a c
ends_trans a b c v w = (v.0 ++ w.0, v.1 ∙ ap (λ l. v.0 ++ l) w.1 ∙ sym (append_assoc v.0 w.0 c))

-- pieces one after another
pub covers_append : (ps qs : List Piece) (n m r : List ℕ) → Covers ps n m → Covers qs m r → Covers (ps ++ qs) n r
covers_append [] qs n m r v w = rw v w
covers_append (p ∷ ps) qs n m r v w = (v.0, v.1, v.2, v.3, covers_append ps qs v.1 m r v.4 w)

pub covers_split : (ps qs : List Piece) (n r : List ℕ) → Covers (ps ++ qs) n r → (m : List ℕ) × Covers ps n m × Covers qs m r
covers_split [] qs n r w = (n, refl, w)
covers_split (p ∷ ps) qs n r w =
    let rest = covers_split ps qs w.1 r w.4 in
    (rest.0, (w.0, w.1, w.2, w.3, rest.1), rest.2)

pub covers_end : (ps : List Piece) (n r : List ℕ) → Covers ps n r → EndsWith n r
covers_end [] n r w = ([], w)
covers_end (p ∷ ps) n r w =
    let rest = covers_end ps w.1 r w.4 in
    rw w.2 (ends_more w.0 w.1 r rest)

-- digits at the front
cut_digit : (c : ℕ) (cs : List ℕ) (b : Bool) → is_ascii_digit c ≡ b → cs ≡ digits_front cs ++ after_digits cs → c ∷ cs ≡ digits_front (c ∷ cs) ++ after_digits (c ∷ cs)
cut_digit c cs true h rest = rw h (ap (λ l. c ∷ l) rest)
cut_digit c cs false h rest = rw h refl

pub split_digits : (n : List ℕ) → n ≡ digits_front n ++ after_digits n
split_digits [] = refl
split_digits (c ∷ cs) = cut_digit c cs (is_ascii_digit c) refl (split_digits cs)

digits_more : (c : ℕ) (cs : List ℕ) (b : Bool) → is_ascii_digit c ≡ b → list_all is_ascii_digit (digits_front cs) ≡ true → list_all is_ascii_digit (digits_front (c ∷ cs)) ≡ true
digits_more c cs true h rest = rw (h, h) rest
digits_more c cs false h rest = rw h refl

pub front_is_digits : (n : List ℕ) → list_all is_ascii_digit (digits_front n) ≡ true
front_is_digits [] = refl
front_is_digits (c ∷ cs) = digits_more c cs (is_ascii_digit c) refl (front_is_digits cs)

after_more : (c : ℕ) (cs : List ℕ) (b : Bool) → is_ascii_digit c ≡ b → begins_with_digit (after_digits cs) ≡ false → begins_with_digit (after_digits (c ∷ cs)) ≡ false
after_more c cs true h rest = rw h rest
after_more c cs false h rest = rw h h

pub no_digit_after : (n : List ℕ) → begins_with_digit (after_digits n) ≡ false
no_digit_after [] = refl
no_digit_after (c ∷ cs) = after_more c cs (is_ascii_digit c) refl (no_digit_after cs)

-- a text that is digits, and then something else, is cut there
pub only_digits : (run rest : List ℕ) → list_all is_ascii_digit run ≡ true → begins_with_digit rest ≡ false → (digits_front (run ++ rest) ≡ run) × (after_digits (run ++ rest) ≡ rest)
only_digits [] [] h e = (refl, refl)
only_digits [] (c ∷ cs) h e = (rw e refl, rw e refl)
only_digits (c ∷ run) rest h e =
    let parts = and_parts (is_ascii_digit c) (list_all is_ascii_digit run) h in
    let more = only_digits run rest parts.1 e in
    (rw (parts.0, more.0) refl, rw (parts.0, more.1) refl)

-- what one piece leaves
char_leaves : (takes : ℕ → Bool) (n r : List ℕ) → left_by_char takes n ≡ Some r → (c : ℕ) × (n ≡ c ∷ r) × (takes c ≡ true)
char_leaves takes [] r h = cc
char_leaves takes (c ∷ cs) r h =
    elim (cases_Bool (takes c)) [
      | inl t ↦ let e : Some cs ≡ Some r = rw t at h in let same : cs ≡ r = cc in (c, ap (λ l. c ∷ l) same, t)
      | inr f ↦ let e : None ≡ Some r = rw f at h in cc
    ]

char_left : (takes : ℕ → Bool) (c : ℕ) (r : List ℕ) → takes c ≡ true → left_by_char takes (c ∷ r) ≡ Some r
char_left takes c r h = rw h refl

up_to : (n : ℕ) (high : Option ℕ) → is_up_to n high ≡ true → IfSome high (λ most. n ≤ most)
up_to n None h = tt
up_to n (Some most) h = leb-true n most h

up_to_from : (n : ℕ) (high : Option ℕ) → IfSome high (λ most. n ≤ most) → is_up_to n high ≡ true
up_to_from n None h = refl
up_to_from n (Some most) h = le-leb n most h

number_parts : (low : ℕ) (high : Option ℕ) (n : List ℕ) → is_number_in low high (digits_front n) ≡ true → IsNumberIn low high (digits_front n) (after_digits n)
number_parts low high n h =
    let ds = digits_front n in
    let two = and_parts (ltb 0 (length ds) && leb (length ds) 18) (leb low (digits_value 10 ds) && is_up_to (digits_value 10 ds) high) h in
    let sizes = and_parts (ltb 0 (length ds)) (leb (length ds) 18) two.0 in
    let bounds = and_parts (leb low (digits_value 10 ds)) (is_up_to (digits_value 10 ds) high) two.1 in
    record {
      digits = front_is_digits n;
      some = ltb-true 0 (length ds) sizes.0;
      short = leb-true (length ds) 18 sizes.1;
      whole = no_digit_after n;
      above = leb-true low (digits_value 10 ds) bounds.0;
      below = up_to (digits_value 10 ds) high bounds.1;
    }

number_from : (low : ℕ) (high : Option ℕ) (run rest : List ℕ) → IsNumberIn low high run rest → is_number_in low high run ≡ true
number_from low high run rest w =
    and_from _ _
    (and_from _ _ (lt-ltb 0 (length run) w.some) (le-leb (length run) 18 w.short))
    (and_from _ _ (le-leb low (digits_value 10 run) w.above) (up_to_from (digits_value 10 run) high w.below))

set_takes : (negated : Bool) (ranges : List CharRange) (c : ℕ) → cond negated (not (in_ranges ranges c)) (in_ranges ranges c) ≡ true → in_ranges ranges c ≡ not negated
set_takes true ranges c h = not-true _ h
set_takes false ranges c h = h

set_from : (negated : Bool) (ranges : List CharRange) (c : ℕ) → in_ranges ranges c ≡ not negated → cond negated (not (in_ranges ranges c)) (in_ranges ranges c) ≡ true
set_from true ranges c h = rw h refl
set_from false ranges c h = h

not_eqb : (c d : ℕ) → not (eqb c d) ≡ true → c ≢ d
not_eqb c d h = eqb-false c d (not-true _ h)

number_leaves : (low : ℕ) (high : Option ℕ) (n r : List ℕ) → left_by (Number low high) n ≡ Some r → Covers (Number low high ∷ []) n r
number_leaves low high n r h =
    elim (cases_Bool (is_number_in low high (digits_front n))) [
      | inl t ↦
          let e : Some (after_digits n) ≡ Some r = rw t at h in
          let same : after_digits n ≡ r = cc in
          (digits_front n, after_digits n, split_digits n, number_parts low high n t, same)
      | inr f ↦ let e : None ≡ Some r = rw f at h in cc
    ]

pub left_covers : (p : Piece) (n r : List ℕ) → left_by p n ≡ Some r → Covers (p ∷ []) n r
left_covers AnyPath n r h = cc
left_covers AnyName n r h = cc
left_covers AnyChar n r h =
    let w = char_leaves (λ c. not (eqb c 46)) n r h in
    (w.0 ∷ [], r, w.1, (w.0, refl, not_eqb w.0 46 w.2), refl)
left_covers (Char wanted) n r h =
    let w = char_leaves (λ c. eqb c wanted) n r h in
    (w.0 ∷ [], r, w.1, ap (λ c. c ∷ []) (eqb-true w.0 wanted w.2), refl)
left_covers (Set negated ranges) n r h =
    let w = char_leaves (λ c. cond negated (not (in_ranges ranges c)) (in_ranges ranges c)) n r h in
    (w.0 ∷ [], r, w.1, (w.0, refl, set_takes negated ranges w.0 w.2), refl)
left_covers (Number low high) n r h = number_leaves low high n r h

taken_one : (takes : ℕ → Bool) (n taken left r : List ℕ) (c : ℕ) → n ≡ taken ++ left → taken ≡ c ∷ [] → takes c ≡ true → left ≡ r → left_by_char takes n ≡ Some r
taken_one takes n taken left r c e one t same = rw (e, one, t, same) refl

pub covers_left : (p : Piece) (n r : List ℕ) → is_fixed p ≡ true → Covers (p ∷ []) n r → left_by p n ≡ Some r
covers_left AnyPath n r h w = absurd (false≢true h)
covers_left AnyName n r h w = absurd (false≢true h)
covers_left AnyChar n r h w = taken_one _ n w.0 w.1 r w.3.0 w.2 w.3.1 (rw (ne_eqb w.3.0 46 w.3.2) refl) w.4
covers_left (Char wanted) n r h w = taken_one _ n w.0 w.1 r wanted w.2 w.3 (eq-eqb wanted wanted refl) w.4
covers_left (Set negated ranges) n r h w = taken_one _ n w.0 w.1 r w.3.0 w.2 w.3.1 (set_from negated ranges w.3.0 w.3.2) w.4
covers_left (Number low high) n r h w =
    let cut = only_digits w.0 w.1 w.3.digits w.3.whole in
    rw (w.2, cut.0, cut.1, number_from low high w.0 w.1 w.3) (ap Some w.4)

-- what fixed pieces leave
go : (p : Piece) (ps : List Piece) (n r : List ℕ) (o : Option (List ℕ)) → left_by p n ≡ o → option_and_then (left_by_all ps) o ≡ Some r → ((m : List ℕ) → left_by_all ps m ≡ Some r → Covers ps m r) → Covers (p ∷ ps) n r
go p ps n r None e h rest = cc
go p ps n r (Some m) e h rest = covers_append (p ∷ []) ps n m r (left_covers p n m e) (rest m h)

pub left_all_covers : (ps : List Piece) (n r : List ℕ) → left_by_all ps n ≡ Some r → Covers ps n r
left_all_covers [] n r h = cc
left_all_covers (p ∷ ps) n r h = go p ps n r (left_by p n) refl h (λ m. left_all_covers ps m r)

pub covers_left_all : (ps : List Piece) (n r : List ℕ) → list_all is_fixed ps ≡ true → Covers ps n r → left_by_all ps n ≡ Some r
covers_left_all [] n r h w = ap Some w
covers_left_all (p ∷ ps) n r h w =
    let parts = and_parts (is_fixed p) (list_all is_fixed ps) h in
    let first = covers_left p n w.1 parts.0 (w.0, w.1, w.2, w.3, refl) in
    rw first (covers_left_all ps w.1 r parts.1 w.4)

pub some_same : {A : Type 0} {x y : A} → Some x ≡ Some y → x ≡ y
some_same h = cc

pub none_some : {A : Type 0} {x : A} → None ≡ Some x → ⊥
none_some h = cc

-- an end of a text is the text, or an end of what stands after its first character
pub ends_split : (from m : List ℕ) → EndsWith from m → (from ≡ m) ⊎ ((c : ℕ) × (more : List ℕ) × (from ≡ c ∷ more) × EndsWith more m)
ends_split from m ([], e) = inl e
ends_split from m (c ∷ f, e) = inr (c, f ++ m, e, (f, refl))

pub ends_next : (from m more : List ℕ) (c : ℕ) → EndsWith from m → from ≡ c ∷ more → (from ≡ m → ⊥) → EndsWith more m
ends_next from m more c w e apart =
    elim (ends_split from m w) [
      | inl same ↦ absurd (apart same)
      | inr v ↦ let same : v.1 ≡ more = cc (v.2, e) in subst (λ l. EndsWith l m) same v.3
    ]

pub ends_none : (from m : List ℕ) → EndsWith from m → from ≡ [] → from ≡ m
ends_none from m w e =
    elim (ends_split from m w) [
      | inl same ↦ same
      | inr v ↦ let wrong : v.0 ∷ v.1 ≡ [] = sym v.2 ∙ e in cc
    ]
