-- Tokens in their standard spelling are read as themselves.
use Rattle.std.proofs.Common.{◌≡◌, ℕ, ◌+◌, ◌*◌, ◌^◌, ◌<◌, ◌≤◌, Bool, true, false, cond, eqb, ltb, leb, ◌&&◌, ◌||◌, [], ◌∷◌, ◌++◌, length, Option, Some, None, ◌⊎◌, inl, inr, refl, sym, ap, subst, ◌∙◌, append_assoc, append-nil, arith, length-append, decimal, IsUtf8}
use Rattle.std.specs.Str.Parse.{AllDigits, digits_value_after}
use Rattle.std.specs.Char.{digit_value}
use Rattle.std.proofs.lemmas.Str.{digit_value_digit, IsUtf8-append, IsUtf8-from_is_utf8}
use Rattle.std.proofs.lemmas.Str.Parse.{digit_from_value}
use Rattle.std.proofs.lemmas.Fmt.{decimal_is_IsNumeral}
use Rattle.std.proofs.lemmas.Bool.{eqb-true, false≢true, ne_eqb, leb-true, ltb-true, ltb-false, lt-leb, le-leb, and_right}
use Rattle.sim_values.specs.declared.value.Dimension.{Dimension}
use Rattle.sim_values.specs.declared.value.Dimension.TheVariants as dimension
use Rattle.ned_tokens.specs.declared.runs.Class.{Class}
use Rattle.ned_tokens.specs.declared.runs.Class.TheVariants as class
use Rattle.ned_tokens.specs.declared.token.Keyword.{Keyword}
use Rattle.ned_tokens.specs.declared.token.Keyword.TheVariants as k
use Rattle.ned_tokens.specs.declared.token.Mark.{Mark}
use Rattle.ned_tokens.specs.declared.token.Mark.TheVariants as m
use Rattle.ned_tokens.specs.declared.token.Token.{Token}
use Rattle.ned_tokens.specs.declared.token.Token.TheVariants as token
use Rattle.ned_tokens.specs.Runs.{Bytes, is_in, is_letter, is_digit, run, behind, begins}
use Rattle.ned_tokens.specs.Words.{keyword_of, head_word, section_word, member_word, value_word}
use Rattle.ned_tokens.specs.Marks.{arrow_of, pair_of, bracket_of, operator_of, mark_of, mark_at}
use Rattle.ned_tokens.specs.Digits.{digit_of, value_from, value_of, below_limit}
use Rattle.sim_values.specs.Units.{time_unit}
use Rattle.ned_tokens.specs.Units.{unit_of, rate_unit, length_unit}
use Rattle.ned_tokens.specs.Quantities.{begins_quantity, piece_from, fraction_at, piece_at, row_from, row_token, quantity_at}
use Rattle.ned_tokens.specs.Numbers.{behind_prefix, number_of, number_at}
use Rattle.ned_tokens.specs.Literals.{literal_from}
use Rattle.ned_tokens.specs.Lexing.{named, word_at, token_at, token_of, next, is_open}
use Rattle.ned_read_back.proofs.Utf8Lemmas.{all_ascii, ascii_text, before_ascii, after_ascii, around_ascii}
use Rattle.ned_tokens.proofs.QuantityLemmas.{row_end}
use Rattle.ned_read_back.specs.Tokens.{word_text, mark_text, unit_text, quoted, token_text, is_number, is_opening, is_closing, all_in, begins_name, HasSpelling}

-- ---- what stands after a token

-- the byte is one of these
abbrev OneOf : ℕ → Bytes → Type 0
OneOf b [] = ⊥
OneOf b (c ∷ cs) = (b ≡ c) ⊎ OneOf b cs

-- P holds of each
abbrev Each : (ℕ → Type 0) → Bytes → Type 0
Each P [] = Unit {0}
Each P (b ∷ bs) = P b × Each P bs

-- what holds of each holds of one of them
each_of : (P : ℕ → Type 0) (b : ℕ) (cs : Bytes) → Each P cs → OneOf b cs → P b
each_of P b [] all h = absurd h
each_of P b (c ∷ cs) all (inl e) = subst P (sym e) all.0
each_of P b (c ∷ cs) all (inr h) = each_of P b cs all.1 h

-- a space, and `(`, `)`, `,`, `:`, `;`, `?`, `[` and `]`, with which no token goes on
abbrev pub parting : Bytes
parting = 32 ∷ 40 ∷ 41 ∷ 44 ∷ 58 ∷ 59 ∷ 63 ∷ 91 ∷ 93 ∷ []

-- the line ends, or goes on with a byte that parts tokens
abbrev pub Parted : Bytes → Type 0
Parted [] = Unit {0}
Parted (b ∷ bs) = OneOf b parting

-- a byte that passes a test is none that doesn't
differs : (p : ℕ → Bool) (b c : ℕ) → p b ≡ true → p c ≡ false → eqb b c ≡ false
differs p b c pass fail = go (eqb b c) refl
  where
    go : (t : Bool) → eqb b c ≡ t → t ≡ false
    go true e = let same : p b ≡ p c = ap p (eqb-true b c e) in absurd cc
    go false e = refl

-- a class without the bytes that part tokens
abbrev Apart : Class → Type 0
Apart c = Each (λ b. is_in c b ≡ false) parting

-- names have none of them
name_apart : Apart class.Name
name_apart = (refl, (refl, (refl, (refl, (refl, (refl, (refl, (refl, (refl, tt)))))))))

-- digits are none of them
digit_apart : Apart class.Digit
digit_apart = (refl, (refl, (refl, (refl, (refl, (refl, (refl, (refl, (refl, tt)))))))))

-- letters are none of them
letter_apart : Apart class.Letter
letter_apart = (refl, (refl, (refl, (refl, (refl, (refl, (refl, (refl, (refl, tt)))))))))

-- what parts tokens begins no run of the class
parted_begins : (c : Class) (us : Bytes) → Apart c → Parted us → begins c us ≡ false
parted_begins c [] none h = refl
parted_begins c (b ∷ bs) none h = each_of (λ b. is_in c b ≡ false) b parting none h

-- bytes of a class and then none of it are a run
run_is : (c : Class) (text us : Bytes) → all_in c text ≡ true → begins c us ≡ false → run c (text ++ us) ≡ text
run_is c [] [] all ends = refl
run_is c [] (u ∷ us) all ends = rw ends refl
run_is c (b ∷ bs) us all ends = go (is_in c b) all (λ h. run_is c bs us h ends)
  where
    go : (t : Bool) → cond t (all_in c bs) false ≡ true → (all_in c bs ≡ true → run c (bs ++ us) ≡ bs) → cond t (b ∷ run c (bs ++ us)) [] ≡ b ∷ bs
    go true h ih = ap (λ (l : Bytes). b ∷ l) (ih h)
    go false h ih = absurd cc

-- after that run the rest is left
behind_is : (c : Class) (text us : Bytes) → all_in c text ≡ true → begins c us ≡ false → behind c (text ++ us) ≡ us
behind_is c [] [] all ends = refl
behind_is c [] (u ∷ us) all ends = rw ends refl
behind_is c (b ∷ bs) us all ends = go (is_in c b) all (λ h. behind_is c bs us h ends)
  where
    go : (t : Bool) → cond t (all_in c bs) false ≡ true → (all_in c bs ≡ true → behind c (bs ++ us) ≡ us) → cond t (behind c (bs ++ us)) (b ∷ (bs ++ us)) ≡ us
    go true h ih = ih h
    go false h ih = absurd cc

-- ---- marks

-- a mark at the end of its line is read
mark_ends : (w : Mark) → next (mark_text w) ≡ Some (token.Mark w, [])
unfolding mark_text token_of token_at mark_at mark_of arrow_of pair_of bracket_of operator_of
mark_ends m.Open = refl
mark_ends _ = refl

-- a mark is read before each byte that parts tokens
mark_parts : (w : Mark) (us : Bytes) → Each (λ b. next (mark_text w ++ b ∷ us) ≡ Some (token.Mark w, b ∷ us)) parting
unfolding mark_text token_of token_at mark_at mark_of arrow_of pair_of bracket_of operator_of
mark_parts m.Open us = (refl, (refl, (refl, (refl, (refl, (refl, (refl, (refl, (refl, tt)))))))))
mark_parts _ us = (refl, (refl, (refl, (refl, (refl, (refl, (refl, (refl, (refl, tt)))))))))

-- a mark is read
mark_reads : (w : Mark) (us : Bytes) → Parted us → next (mark_text w ++ us) ≡ Some (token.Mark w, us)
mark_reads w [] h = ap next (append-nil (mark_text w)) ∙ mark_ends w
mark_reads w (u ∷ us) h = each_of (λ b. next (mark_text w ++ b ∷ us) ≡ Some (token.Mark w, b ∷ us)) u parting (mark_parts w us) h

-- after `@`, `(` and `[` anything may stand
pub opening_reads : (t : Token) → is_opening t ≡ true → (us : Bytes) → next (token_text t ++ us) ≡ Some (t, us)
unfolding mark_text token_of token_at mark_at mark_of arrow_of pair_of bracket_of operator_of
opening_reads (token.Mark m.At) h us = refl
opening_reads (token.Mark m.LeftParen) h us = refl
opening_reads (token.Mark m.LeftBracket) h us = refl
opening_reads (token.Mark _) h us = absurd (false≢true h)
opening_reads _ h us = absurd (false≢true h)

-- ---- words and names

-- a word is read as itself
keyword_is : (w : Keyword) → keyword_of (word_text w) ≡ Some w
unfolding word_text keyword_of head_word section_word member_word value_word
keyword_is k.Package = refl
keyword_is _ = refl

-- a word begins as a name does
word_begins : (w : Keyword) → begins_name (word_text w) ≡ true
unfolding word_text
word_begins k.Package = refl
word_begins _ = refl

-- a word has a name's bytes
word_all : (w : Keyword) → all_in class.Name (word_text w) ≡ true
unfolding word_text
word_all k.Package = refl
word_all _ = refl

-- a letter or `_`
abbrev begins_word : ℕ → Bool
begins_word b = is_letter b || eqb b 95

-- a name or a word is read
name_reads : (text us : Bytes) → begins_name text ≡ true → all_in class.Name text ≡ true → Parted us → next (text ++ us) ≡ Some (named (keyword_of text) text, us)
unfolding token_of token_at word_at
name_reads [] us begun all parted = absurd cc
name_reads (b ∷ bs) us begun all parted =
    let ends = parted_begins class.Name us name_apart parted in
    let no_space = differs begins_word b 32 begun refl in
    let no_tab = differs begins_word b 9 begun refl in
    let no_return = differs begins_word b 13 begun refl in
    let no_slash = differs begins_word b 47 begun refl in
    let is = run_is class.Name (b ∷ bs) us all ends in
    let after = behind_is class.Name (b ∷ bs) us all ends in
    rw (no_space, no_tab, no_return, no_slash, begun, is, after) refl

-- a word is read
word_reads : (w : Keyword) (us : Bytes) → Parted us → next (word_text w ++ us) ≡ Some (token.Word w, us)
word_reads w us parted = name_reads (word_text w) us (word_begins w) (word_all w) parted ∙ rw (keyword_is w) refl

-- ---- numbers

-- a digit is at most `9`
digit_below : (b : ℕ) → is_digit b ≡ true → b ≤ 57
digit_below b e = go (leb 48 b) (leb b 57) refl e
  where
    go : (p q : Bool) → leb b 57 ≡ q → p && q ≡ true → b ≤ 57
    go true true eq h = leb-true b 57 eq
    go true false eq h = absurd cc
    go false q eq h = absurd cc

-- a digit is no letter and no `_`
digit_is : (b : ℕ) → is_digit b ≡ true → begins_word b ≡ false
digit_is b e =
    let low = digit_below b e in
    let big : leb 65 b ≡ false = lt-leb 65 b (omega (arith, low)) in
    let small : leb 97 b ≡ false = lt-leb 97 b (omega (arith, low)) in
    let line : eqb b 95 ≡ false = differs is_digit b 95 e refl in
    rw (big, small, line) refl

-- the `x` of `0x`
abbrev begins_x : Bytes → Bool
begins_x [] = false
begins_x (b ∷ bs) = eqb b 120

-- what parts tokens is no `x`
parted_no_x : (us : Bytes) → Parted us → begins_x us ≡ false
parted_no_x [] h = refl
parted_no_x (u ∷ us) h = each_of (λ b. eqb b 120 ≡ false) u parting (refl, (refl, (refl, (refl, (refl, (refl, (refl, (refl, (refl, tt))))))))) h

-- decimal digits have no `x` after their first
no_prefix : (d : ℕ) (ds us : Bytes) → all_in class.Digit ds ≡ true → begins_x us ≡ false → behind_prefix (d ∷ (ds ++ us)) ≡ None
no_prefix d [] [] all ends = refl
no_prefix d [] (u ∷ us) all ends = rw (and_right (eqb d 48) (eqb u 120) ends) refl
no_prefix d (e ∷ ds) us all ends = go (is_digit e) refl all
  where
    go : (t : Bool) → is_digit e ≡ t → cond t (all_in class.Digit ds) false ≡ true → cond (eqb d 48 && eqb e 120) (Some (ds ++ us)) None ≡ None
    go true et h = rw (and_right (eqb d 48) (eqb e 120) (differs is_digit e 120 et refl)) refl
    go false et h = absurd cc

-- what parts tokens makes no quantity of digits
no_quantity : (us : Bytes) → Parted us → begins_quantity us ≡ false
no_quantity [] h = refl
no_quantity (u ∷ us) h = each_of (λ b. begins_quantity (b ∷ us) ≡ false) u parting (refl, (refl, (refl, (refl, (refl, (refl, (refl, (refl, (refl, tt))))))))) h

-- digits are read as their value
number_reads : (text us : Bytes) (n : ℕ) → 0 < length text → all_in class.Digit text ≡ true → below_limit (value_of class.Digit text) ≡ Some n → Parted us → next (text ++ us) ≡ Some (token.Number n, us)
unfolding token_of token_at number_at number_of
number_reads [] us n some all value parted = absurd (omega (arith, some))
number_reads (d ∷ ds) us n some all value parted = go (is_digit d) refl all
  where
    go : (t : Bool) → is_digit d ≡ t → cond t (all_in class.Digit ds) false ≡ true → next (d ∷ (ds ++ us)) ≡ Some (token.Number n, us)
    go false e h = absurd cc
    go true e h =
        let ends = parted_begins class.Digit us digit_apart parted in
        let no_space = differs is_digit d 32 e refl in
        let no_tab = differs is_digit d 9 e refl in
        let no_return = differs is_digit d 13 e refl in
        let no_slash = differs is_digit d 47 e refl in
        let plain = no_prefix d ds us h (parted_no_x us parted) in
        let is = run_is class.Digit (d ∷ ds) us all ends in
        let after = behind_is class.Digit (d ∷ ds) us all ends in
        let quantity = no_quantity us parted in
        rw (no_space, no_tab, no_return, no_slash, digit_is d e, e, plain, after, quantity, is, value) refl

-- ---- decimal digits

-- digits by value are digits by class
digits_all : (ds : Bytes) → AllDigits 10 ds → all_in class.Digit ds ≡ true
digits_all [] h = refl
digits_all (d ∷ ds) h =
    let range = digit_from_value d h.0 in
    let low : leb 48 d ≡ true = le-leb 48 d range.0 in
    let high : leb d 57 ≡ true = le-leb d 57 range.1 in
    rw (low, high) (digits_all ds h.1)

-- both ways to count digits agree
digits_same : (n : ℕ) (ds : Bytes) → AllDigits 10 ds → value_from 10 n ds ≡ digits_value_after 10 n ds
digits_same n [] h = refl
digits_same n (d ∷ ds) h =
    let range = digit_from_value d h.0 in
    let high : leb d 57 ≡ true = le-leb d 57 range.1 in
    let same : digit_of d ≡ digit_value d = rw high (omega (arith, digit_value_digit d range)) in
    ap (λ (k : ℕ). value_from 10 (n * 10 + k) ds) same ∙ digits_same (n * 10 + digit_value d) ds h.1

module _ (n : ℕ) (h : ltb n (2 ^ 63) ≡ true) where
  -- a number below the limit has decimal digits
  decimal_small : n < 2 ^ 64
  decimal_small = omega (arith, ltb-true n (2 ^ 63) h)

  -- at least one digit
  decimal_some : 0 < length (decimal n)
  decimal_some = (decimal_is_IsNumeral n decimal_small).0.0

  -- nothing but digits
  decimal_all : all_in class.Digit (decimal n) ≡ true
  decimal_all = digits_all (decimal n) (decimal_is_IsNumeral n decimal_small).0.1

  -- they count the number
  decimal_value : value_of class.Digit (decimal n) ≡ n
  decimal_value = digits_same 0 (decimal n) (decimal_is_IsNumeral n decimal_small).0.1 ∙ (decimal_is_IsNumeral n decimal_small).1

  -- which is below the limit
  decimal_limit : below_limit (value_of class.Digit (decimal n)) ≡ Some n
  decimal_limit = ap below_limit decimal_value ∙ rw h refl

  -- and is read
  decimal_reads : (us : Bytes) → Parted us → next (decimal n ++ us) ≡ Some (token.Number n, us)
  decimal_reads us parted = number_reads (decimal n) us n decimal_some decimal_all decimal_limit parted

-- ---- quantities

-- the unit after a quantity's digits, and what is after it
record IsUnit (d : Dimension) (us : Bytes) : Type 0 where
  is_quantity : begins_quantity (unit_text d ++ us) ≡ true
  no_digit : begins class.Digit (unit_text d ++ us) ≡ false
  no_x : begins_x (unit_text d ++ us) ≡ false
  no_fraction : fraction_at (unit_text d ++ us) ≡ ([], unit_text d ++ us)
  word : run class.Letter (unit_text d ++ us) ≡ unit_text d
  after : behind class.Letter (unit_text d ++ us) ≡ us
  unit : unit_of (unit_text d) ≡ Some (d, 1)

-- a unit is letters
unit_all : (d : Dimension) → all_in class.Letter (unit_text d) ≡ true
unfolding unit_text
unit_all dimension.Time = refl
unit_all _ = refl

-- the smallest unit is read, and is one
unit_is : (d : Dimension) (us : Bytes) → Parted us → IsUnit d us
unfolding unit_text unit_of time_unit rate_unit length_unit
unit_is d us parted = go d (run_is class.Letter (unit_text d) us (unit_all d) ends) (behind_is class.Letter (unit_text d) us (unit_all d) ends)
  where
    ends : begins class.Letter us ≡ false
    ends = parted_begins class.Letter us letter_apart parted

    go : (d : Dimension) → run class.Letter (unit_text d ++ us) ≡ unit_text d → behind class.Letter (unit_text d ++ us) ≡ us → IsUnit d us
    go dimension.Time word after = record { is_quantity = refl; no_digit = refl; no_x = refl; no_fraction = refl; word = word; after = after; unit = refl }
    go dimension.Rate word after = record { is_quantity = refl; no_digit = refl; no_x = refl; no_fraction = refl; word = word; after = after; unit = refl }
    go dimension.Length word after = record { is_quantity = refl; no_digit = refl; no_x = refl; no_fraction = refl; word = word; after = after; unit = refl }

-- digits and then a unit are one quantity
module _ (d : Dimension) (text us : Bytes) (n : ℕ) (all : all_in class.Digit text ≡ true) (value : value_of class.Digit text ≡ n) (limit : below_limit n ≡ Some n) (is : IsUnit d us) where
  -- they are a quantity
  piece_is : piece_at (text ++ (unit_text d ++ us)) ≡ (Some (d, n), us)
  piece_is =
      let digits = run_is class.Digit text (unit_text d ++ us) all is.no_digit in
      let rest = behind_is class.Digit text (unit_text d ++ us) all is.no_digit in
      let sum : n * 1 + 0 ≡ n = omega arith in
      ap (λ (l : Bytes). piece_from l (fraction_at (behind class.Digit (text ++ (unit_text d ++ us))))) digits
      ∙ ap (λ (l : Bytes). piece_from text (fraction_at l)) rest
      ∙ ap (piece_from text) is.no_fraction
      ∙ rw (is.word, is.after, is.unit, value, sum, limit) refl

  -- with nothing to sum it is the token
  quantity_is : begins class.Digit (behind class.Space us) ≡ false → quantity_at (text ++ (unit_text d ++ us)) ≡ (token.Quantity d n, us)
  unfolding quantity_at
  quantity_is over = ap (λ (p : Option (Dimension × ℕ) × Bytes). row_token (row_from p.0 p.1)) piece_is ∙ ap row_token (row_end (Some (d, n)) us over)

-- a quantity is read, where no number comes after it
quantity_reads : (d : Dimension) (text us : Bytes) (n : ℕ) → 0 < length text → all_in class.Digit text ≡ true → value_of class.Digit text ≡ n → below_limit n ≡ Some n → begins class.Digit (behind class.Space us) ≡ false → IsUnit d us → next (text ++ (unit_text d ++ us)) ≡ Some (token.Quantity d n, us)
unfolding token_of token_at number_at
quantity_reads d [] us n some all value limit over is = absurd (omega (arith, some))
quantity_reads d (c ∷ cs) us n some all value limit over is = go (is_digit c) refl all
  where
    go : (t : Bool) → is_digit c ≡ t → cond t (all_in class.Digit cs) false ≡ true → next (c ∷ (cs ++ (unit_text d ++ us))) ≡ Some (token.Quantity d n, us)
    go false e h = absurd cc
    go true e h =
        let no_space = differs is_digit c 32 e refl in
        let no_tab = differs is_digit c 9 e refl in
        let no_return = differs is_digit c 13 e refl in
        let no_slash = differs is_digit c 47 e refl in
        let plain = no_prefix c cs (unit_text d ++ us) h is.no_x in
        let after = behind_is class.Digit (c ∷ cs) (unit_text d ++ us) all is.no_digit in
        let quantity = quantity_is d (c ∷ cs) us n all value limit is over in
        rw (no_space, no_tab, no_return, no_slash, digit_is c e, e, plain, after, is.is_quantity, quantity) refl

-- ---- texts in quotes

-- after any bytes so far, these bytes and a rest are read as the text and the rest
abbrev to_literal : Bytes → Bytes → Bytes → Type 0
to_literal text rest us = (acc : Bytes) → literal_from false (Some acc) (rest ++ us) ≡ (token.Literal (acc ++ text), us)

-- a text in quotes is read from its escapes
literal_is : (text us : Bytes) → to_literal text (quoted text) us
literal_is [] us acc = ap (λ (l : Bytes). (token.Literal l, us)) (sym (append-nil acc))
literal_is (b ∷ bs) us acc = go (eqb b 34) refl (eqb b 92) refl (eqb b 10) refl (eqb b 9) refl (literal_is bs us (acc ++ b ∷ []))
  where
    go : (p : Bool) → eqb b 34 ≡ p → (q : Bool) → eqb b 92 ≡ q → (r : Bool) → eqb b 10 ≡ r → (s : Bool) → eqb b 9 ≡ s → literal_from false (Some (acc ++ b ∷ [])) (quoted bs ++ us) ≡ (token.Literal ((acc ++ b ∷ []) ++ bs), us) → literal_from false (Some acc) ((cond p (92 ∷ 34 ∷ []) (cond q (92 ∷ 92 ∷ []) (cond r (92 ∷ 110 ∷ []) (cond s (92 ∷ 116 ∷ []) (b ∷ [])))) ++ quoted bs) ++ us) ≡ (token.Literal (acc ++ b ∷ bs), us)
    go true ep q eq r er s es ih = subst (λ (c : ℕ). literal_from false (Some (acc ++ c ∷ [])) (quoted bs ++ us) ≡ (token.Literal (acc ++ b ∷ bs), us)) (eqb-true b 34 ep) (ih ∙ ap (λ (l : Bytes). (token.Literal l, us)) (append_assoc acc (b ∷ []) bs))
    go false ep true eq r er s es ih = subst (λ (c : ℕ). literal_from false (Some (acc ++ c ∷ [])) (quoted bs ++ us) ≡ (token.Literal (acc ++ b ∷ bs), us)) (eqb-true b 92 eq) (ih ∙ ap (λ (l : Bytes). (token.Literal l, us)) (append_assoc acc (b ∷ []) bs))
    go false ep false eq true er s es ih = subst (λ (c : ℕ). literal_from false (Some (acc ++ c ∷ [])) (quoted bs ++ us) ≡ (token.Literal (acc ++ b ∷ bs), us)) (eqb-true b 10 er) (ih ∙ ap (λ (l : Bytes). (token.Literal l, us)) (append_assoc acc (b ∷ []) bs))
    go false ep false eq false er true es ih = subst (λ (c : ℕ). literal_from false (Some (acc ++ c ∷ [])) (quoted bs ++ us) ≡ (token.Literal (acc ++ b ∷ bs), us)) (eqb-true b 9 es) (ih ∙ ap (λ (l : Bytes). (token.Literal l, us)) (append_assoc acc (b ∷ []) bs))
    go false ep false eq false er false es ih = rw (ep, eq) (ih ∙ ap (λ (l : Bytes). (token.Literal l, us)) (append_assoc acc (b ∷ []) bs))

-- a text in quotes is read
literal_reads : (text us : Bytes) → next (34 ∷ (quoted text ++ us)) ≡ Some (token.Literal text, us)
unfolding token_of token_at
literal_reads text us = ap (λ (p : Token × Bytes). Some p) (literal_is text us [])

-- ---- the bytes of a token end no line, and are a text

-- no byte ends a line
abbrev pub no_end : Bytes → Bool
no_end [] = true
no_end (b ∷ bs) = cond (eqb b 10) false (no_end bs)

-- two in a row end no line either
no_end-append : (a c : Bytes) → no_end a ≡ true → no_end c ≡ true → no_end (a ++ c) ≡ true
no_end-append [] c h e = e
no_end-append (b ∷ a) c h e = go (eqb b 10) h (λ h. no_end-append a c h e)
  where
    go : (t : Bool) → cond t false (no_end a) ≡ true → (no_end a ≡ true → no_end (a ++ c) ≡ true) → cond t false (no_end (a ++ c)) ≡ true
    go true h ih = absurd cc
    go false h ih = ih h

-- a class without LF ends no line
class_line : (c : Class) (text : Bytes) → is_in c 10 ≡ false → all_in c text ≡ true → no_end text ≡ true
class_line c [] none h = refl
class_line c (b ∷ bs) none h = go (is_in c b) refl h (class_line c bs none)
  where
    go : (t : Bool) → is_in c b ≡ t → cond t (all_in c bs) false ≡ true → (all_in c bs ≡ true → no_end bs ≡ true) → cond (eqb b 10) false (no_end bs) ≡ true
    go true e h ih = rw (differs (is_in c) b 10 e none) (ih h)
    go false e h ih = absurd cc

-- a class of ASCII is ASCII
class_ascii : (c : Class) (text : Bytes) → ((b : ℕ) → is_in c b ≡ true → ltb b 128 ≡ true) → all_in c text ≡ true → all_ascii text ≡ true
class_ascii c [] low h = refl
class_ascii c (b ∷ bs) low h = go (is_in c b) refl h (class_ascii c bs low)
  where
    go : (t : Bool) → is_in c b ≡ t → cond t (all_in c bs) false ≡ true → (all_in c bs ≡ true → all_ascii bs ≡ true) → cond (ltb b 128) (all_ascii bs) false ≡ true
    go true e h ih = rw (low b e) (ih h)
    go false e h ih = absurd cc

-- what passes a test only below 128
low_from : (p : ℕ → Bool) (b : ℕ) → (128 ≤ b → p b ≡ false) → p b ≡ true → ltb b 128 ≡ true
low_from p b high pass = go (ltb b 128) refl
  where
    go : (t : Bool) → ltb b 128 ≡ t → t ≡ true
    go true e = refl
    go false e = let fails = high (ltb-false b 128 e) in absurd cc

-- no digit is above ASCII
digit_high : (b : ℕ) → 128 ≤ b → is_in class.Digit b ≡ false
digit_high b h = and_right (leb 48 b) (leb b 57) (lt-leb b 57 (omega (arith, h)))

-- no byte of a name is above ASCII
name_high : (b : ℕ) → 128 ≤ b → is_in class.Name b ≡ false
name_high b h =
    let upper : (leb 65 b && leb b 90) ≡ false = and_right (leb 65 b) (leb b 90) (lt-leb b 90 (omega (arith, h))) in
    let lower : (leb 97 b && leb b 122) ≡ false = and_right (leb 97 b) (leb b 122) (lt-leb b 122 (omega (arith, h))) in
    let digit : (leb 48 b && leb b 57) ≡ false = digit_high b h in
    let line : eqb b 95 ≡ false = ne_eqb b 95 (λ e. omega (arith, h, e)) in
    rw (upper, lower, digit, line) refl

-- a name is a text
name_text : (text : Bytes) → all_in class.Name text ≡ true → IsUtf8 text
name_text text h = ascii_text text (class_ascii class.Name text (λ b. low_from (is_in class.Name) b (name_high b)) h)

-- digits are a text
digits_text : (text : Bytes) → all_in class.Digit text ≡ true → IsUtf8 text
digits_text text h = ascii_text text (class_ascii class.Digit text (λ b. low_from (is_in class.Digit) b (digit_high b)) h)

-- a mark ends no line
mark_line : (w : Mark) → no_end (mark_text w) ≡ true
unfolding mark_text
mark_line m.Open = refl
mark_line _ = refl

-- a mark is ASCII
mark_ascii : (w : Mark) → all_ascii (mark_text w) ≡ true
unfolding mark_text
mark_ascii m.Open = refl
mark_ascii _ = refl

-- a unit ends no line
unit_line : (d : Dimension) → no_end (unit_text d) ≡ true
unfolding unit_text
unit_line dimension.Time = refl
unit_line _ = refl

-- a unit is ASCII
unit_ascii : (d : Dimension) → all_ascii (unit_text d) ≡ true
unfolding unit_text
unit_ascii dimension.Time = refl
unit_ascii _ = refl

-- LF has an escape, so that a text in quotes ends no line
quoted_line : (text : Bytes) → no_end (quoted text) ≡ true
quoted_line [] = refl
quoted_line (b ∷ bs) = go (eqb b 34) (eqb b 92) (eqb b 10) refl (eqb b 9) (quoted_line bs)
  where
    go : (p q r : Bool) → eqb b 10 ≡ r → (s : Bool) → no_end (quoted bs) ≡ true → no_end (cond p (92 ∷ 34 ∷ []) (cond q (92 ∷ 92 ∷ []) (cond r (92 ∷ 110 ∷ []) (cond s (92 ∷ 116 ∷ []) (b ∷ [])))) ++ quoted bs) ≡ true
    go true q r er s h = h
    go false true r er s h = h
    go false false true er s h = h
    go false false false er true h = h
    go false false false er false h = rw er h

-- a text, an escape and a text
with_escape : (seen rest bs : Bytes) (b c : ℕ) → ltb b 128 ≡ true → ltb c 128 ≡ true → IsUtf8 (seen ++ b ∷ bs) → (IsUtf8 bs → IsUtf8 rest) → IsUtf8 (seen ++ 92 ∷ c ∷ rest)
with_escape seen rest bs b c low small h more =
    let ascii = ltb-true b 128 low in
    around_ascii seen (c ∷ rest) 92 refl (before_ascii seen bs b ascii h) (around_ascii [] rest c small (ascii_text [] refl) (more (after_ascii seen bs b ascii h)))

-- a text and then a text in quotes, of which so much was seen
quoted_text : (seen text : Bytes) → IsUtf8 (seen ++ text) → IsUtf8 (seen ++ quoted text)
quoted_text seen [] h = around_ascii seen [] 34 refl (subst IsUtf8 (append-nil seen) h) (ascii_text [] refl)
quoted_text seen (b ∷ bs) h = go (eqb b 34) refl (eqb b 92) refl (eqb b 10) refl (eqb b 9) refl (λ c. quoted_text (seen ++ c) bs) (quoted_text [] bs)
  where
    low : (c : ℕ) → ltb c 128 ≡ true → eqb b c ≡ true → ltb b 128 ≡ true
    low c small e = ap (λ (n : ℕ). ltb n 128) (eqb-true b c e) ∙ small

    go : (p : Bool) → eqb b 34 ≡ p → (q : Bool) → eqb b 92 ≡ q → (r : Bool) → eqb b 10 ≡ r → (s : Bool) → eqb b 9 ≡ s → ((c : Bytes) → IsUtf8 ((seen ++ c) ++ bs) → IsUtf8 ((seen ++ c) ++ quoted bs)) → (IsUtf8 bs → IsUtf8 (quoted bs)) → IsUtf8 (seen ++ (cond p (92 ∷ 34 ∷ []) (cond q (92 ∷ 92 ∷ []) (cond r (92 ∷ 110 ∷ []) (cond s (92 ∷ 116 ∷ []) (b ∷ [])))) ++ quoted bs))
    go true ep q eq r er s es ih rest = with_escape seen (quoted bs) bs b 34 (low 34 refl ep) refl h rest
    go false ep true eq r er s es ih rest = with_escape seen (quoted bs) bs b 92 (low 92 refl eq) refl h rest
    go false ep false eq true er s es ih rest = with_escape seen (quoted bs) bs b 110 (low 10 refl er) refl h rest
    go false ep false eq false er true es ih rest = with_escape seen (quoted bs) bs b 116 (low 9 refl es) refl h rest
    go false ep false eq false er false es ih rest = subst IsUtf8 (append_assoc seen (b ∷ []) (quoted bs)) (ih (b ∷ []) (subst IsUtf8 (sym (append_assoc seen (b ∷ []) bs)) h))

-- ---- one token

-- a word ends no line
word_line : (w : Keyword) → no_end (word_text w) ≡ true
word_line w = class_line class.Name (word_text w) refl (word_all w)

-- no token ends its line
pub token_line : (t : Token) → HasSpelling t → no_end (token_text t) ≡ true
token_line (token.Word w) h = word_line w
token_line (token.Mark w) h = mark_line w
token_line (token.Name text) h = class_line class.Name text refl h.1
token_line (token.Number n) h = class_line class.Digit (decimal n) refl (decimal_all n h)
token_line (token.Quantity d n) h = no_end-append (decimal n) (unit_text d) (class_line class.Digit (decimal n) refl (decimal_all n h)) (unit_line d)
token_line (token.Literal text) h = quoted_line text
token_line _ h = refl

-- each token is a text
pub token_is_text : (t : Token) → HasSpelling t → IsUtf8 (token_text t)
token_is_text (token.Word w) h = name_text (word_text w) (word_all w)
token_is_text (token.Mark w) h = ascii_text (mark_text w) (mark_ascii w)
token_is_text (token.Name text) h = name_text text h.1
token_is_text (token.Number n) h = digits_text (decimal n) (decimal_all n h)
token_is_text (token.Quantity d n) h = IsUtf8-append (decimal n) (unit_text d) (digits_text (decimal n) (decimal_all n h)) (ascii_text (unit_text d) (unit_ascii d))
token_is_text (token.Literal text) h = around_ascii [] (quoted text) 34 refl (ascii_text [] refl) (quoted_text [] text (IsUtf8-from_is_utf8 text h))
token_is_text _ h = ascii_text [] refl

-- no digit comes after the spaces
abbrev pub NoNumber : Bytes → Type 0
NoNumber us = begins class.Digit (behind class.Space us) ≡ false

-- a quantity has no number after it
abbrev pub Over : Token → Bytes → Type 0
Over (token.Quantity d n) us = NoNumber us
Over _ us = Unit {0}

-- each token is read, before what parts it
pub token_reads : (t : Token) → HasSpelling t → (us : Bytes) → Parted us → Over t us → next (token_text t ++ us) ≡ Some (t, us)
token_reads (token.Word w) h us parted over = word_reads w us parted
token_reads (token.Mark w) h us parted over = mark_reads w us parted
token_reads (token.Name text) h us parted over = name_reads text us h.0 h.1 parted ∙ rw (h.2) refl
token_reads (token.Number n) h us parted over = decimal_reads n h us parted
token_reads (token.Quantity d n) h us parted over = ap next (append_assoc (decimal n) (unit_text d) us) ∙ quantity_reads d (decimal n) us n (decimal_some n h) (decimal_all n h) (decimal_value n h) (rw h refl) over (unit_is d us parted)
token_reads (token.Literal text) h us parted over = literal_reads text us
token_reads _ h us parted over = absurd h

-- no mark begins with a digit
mark_front : (w : Mark) (us : Bytes) → NoNumber (mark_text w ++ us)
unfolding mark_text
mark_front m.Open us = refl
mark_front _ us = refl

-- no name begins with a digit
name_front : (text us : Bytes) → begins_name text ≡ true → NoNumber (text ++ us)
name_front [] us h = absurd cc
name_front (b ∷ bs) us h =
    let no_space = differs begins_word b 32 h refl in
    let no_tab = differs begins_word b 9 h refl in
    rw (no_space, no_tab) (go (is_digit b) refl)
  where
    go : (t : Bool) → is_digit b ≡ t → t ≡ false
    go true e = let not_word = digit_is b e in absurd cc
    go false e = refl

-- only a number begins with a digit
pub token_front : (t : Token) → HasSpelling t → is_number t ≡ false → (us : Bytes) → NoNumber (token_text t ++ us)
token_front (token.Word w) h plain us = name_front (word_text w) us (word_begins w)
token_front (token.Mark w) h plain us = mark_front w us
token_front (token.Name text) h plain us = name_front text us h.0
token_front (token.Number n) h plain us = absurd cc
token_front (token.Quantity d n) h plain us = absurd cc
token_front (token.Literal text) h plain us = refl
token_front _ h plain us = absurd h

-- no token with a spelling goes on after its line
pub closed : (t : Token) → HasSpelling t → is_open t ≡ false
closed token.OpenLiteral h = absurd h
closed _ h = refl

-- what needs no space before it parts the tokens
pub closing_parts : (t : Token) → is_closing t ≡ true → (us : Bytes) → Parted (token_text t ++ us)
unfolding mark_text
closing_parts (token.Mark m.LeftParen) h us = inr (inl refl)
closing_parts (token.Mark m.RightParen) h us = inr (inr (inl refl))
closing_parts (token.Mark m.Comma) h us = inr (inr (inr (inl refl)))
closing_parts (token.Mark m.Colon) h us = inr (inr (inr (inr (inl refl))))
closing_parts (token.Mark m.Semi) h us = inr (inr (inr (inr (inr (inl refl)))))
closing_parts (token.Mark m.Question) h us = inr (inr (inr (inr (inr (inr (inl refl))))))
closing_parts (token.Mark m.LeftBracket) h us = inr (inr (inr (inr (inr (inr (inr (inl refl)))))))
closing_parts (token.Mark m.RightBracket) h us = inr (inr (inr (inr (inr (inr (inr (inr (inl refl))))))))
closing_parts (token.Mark _) h us = absurd (false≢true h)
closing_parts _ h us = absurd (false≢true h)

-- a mark has a byte
mark_some : (w : Mark) → 0 < length (mark_text w)
unfolding mark_text
mark_some m.Open = omega arith
mark_some _ = omega arith

-- a name has a byte
name_some : (text : Bytes) → begins_name text ≡ true → 0 < length text
name_some [] h = absurd cc
name_some (b ∷ bs) h = omega arith

-- each token has a byte
pub token_some : (t : Token) → HasSpelling t → 0 < length (token_text t)
token_some (token.Word w) h = name_some (word_text w) (word_begins w)
token_some (token.Mark w) h = mark_some w
token_some (token.Name text) h = name_some text h.0
token_some (token.Number n) h = decimal_some n h
token_some (token.Quantity d n) h = omega (arith, decimal_some n h, length-append (decimal n) (unit_text d))
token_some (token.Literal text) h = omega arith
token_some _ h = absurd h
