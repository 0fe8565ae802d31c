-- Each token of a text has a spelling, unless it is a stray one.
use Rattle.std.proofs.Common.{◌≡◌, ℕ, zero, suc, ◌+◌, ◌*◌, ◌^◌, Bool, true, false, cond, eqb, ltb, ◌&&◌, ◌||◌, List, [], ◌∷◌, ◌++◌, length, drop, Option, Some, None, option_map, refl, sym, ap, subst, ◌∙◌, append_assoc, append-nil, IsUtf8}
use Rattle.std.specs.Str.{is_utf8}
use Rattle.std.proofs.lemmas.Bool.{eqb-true, ltb-true}
use Rattle.std.proofs.lemmas.Str.{IsUtf8-from_is_utf8, is_utf8-from_IsUtf8}
use Rattle.sim_values.specs.declared.value.Dimension.{Dimension}
use Rattle.ned_tokens.specs.declared.runs.Class.{Class}
use Rattle.ned_tokens.specs.declared.runs.Class.TheVariants as class
use Rattle.ned_tokens.specs.declared.token.Keyword.{Keyword}
use Rattle.ned_tokens.specs.declared.token.Mark.{Mark}
use Rattle.ned_tokens.specs.declared.token.Token.{Token}
use Rattle.ned_tokens.specs.declared.token.Token.TheVariants as token
use Rattle.ned_tokens.specs.Runs.{Bytes, is_in, is_letter, is_digit, run, behind, begins}
use Rattle.ned_tokens.specs.Words.{keyword_of}
use Rattle.ned_tokens.specs.Digits.{value_of, below_limit}
use Rattle.ned_tokens.specs.Units.{unit_of}
use Rattle.ned_tokens.specs.Quantities.{and_then, begins_quantity, begins_fraction, rest_of, fraction_at, part_of, amount_of, measured, piece_at, same_dimension, added, pieces_from, row_from, quantity_token, quantity_at}
use Rattle.ned_tokens.specs.Marks.{mark_of, marked, mark_at}
use Rattle.ned_tokens.specs.Numbers.{numbered, number_of, behind_prefix, number_from, number_at}
use Rattle.ned_tokens.specs.Literals.{escaped, literal_token, with_byte, literal_from}
use Rattle.ned_tokens.specs.Lexing.{named, word_at, token_at, is_slash_next, token_of, next, one_more, scan, scanned, behind_literal, line_tokens, ends_open}
use Rattle.ned_tokens.specs.Lines.{lines_of, tokens_of_lines, tokens_of}
use Rattle.ned_read_back.specs.Tokens.{all_in, begins_name, HasSpelling, HaveSpelling, is_stray, NoneStray, IsReadBack}
use Rattle.ned_read_back.proofs.Utf8Lemmas.{before_ascii, after_ascii, around_ascii}
use Rattle.ned_read_back.proofs.SpellingLaws.{read_back}

-- the token is a stray one, or has a spelling
abbrev pub IsSound : Token → Type 0
IsSound t = is_stray t ≡ false → HasSpelling t

-- each is sound
abbrev pub AreSound : List Token → Type 0
AreSound [] = Unit {0}
AreSound (t ∷ ts) = IsSound t × AreSound ts

-- those of two lists in a row are sound
pub AreSound-append : (ts us : List Token) → AreSound ts → AreSound us → AreSound (ts ++ us)
AreSound-append [] us h k = k
AreSound-append (t ∷ ts) us h k = (h.0, AreSound-append ts us h.1 k)

-- ---- what is after a token is the end of what was before it

-- the bytes end with these
record IsEnd (us bs : Bytes) : Type 0 where
  front : Bytes
  parts : bs ≡ front ++ us

-- all of the bytes
end_all : (bs : Bytes) → IsEnd bs bs
end_all bs = record { front = []; parts = refl }

-- with one byte more in front
end_cons : (b : ℕ) (us bs : Bytes) → IsEnd us bs → IsEnd us (b ∷ bs)
end_cons b us bs h = record { front = b ∷ h.front; parts = ap (λ (l : Bytes). b ∷ l) h.parts }

-- the end of an end
end_trans : (us bs cs : Bytes) → IsEnd us bs → IsEnd bs cs → IsEnd us cs
end_trans us bs cs h k = record { front = k.front ++ h.front; parts = k.parts ∙ ap (λ (l : Bytes). k.front ++ l) h.parts ∙ sym (append_assoc k.front h.front us) }

-- nothing
end_nil : (bs : Bytes) → IsEnd [] bs
end_nil bs = record { front = bs; parts = sym (append-nil bs) }

-- without the first bytes
end_drop : (n : ℕ) (bs : Bytes) → IsEnd (drop n bs) bs
end_drop zero bs = end_all bs
end_drop (suc n) [] = end_all []
end_drop (suc n) (b ∷ bs) = end_cons b (drop n bs) bs (end_drop n bs)

-- after a run
end_behind : (c : Class) (bs : Bytes) → IsEnd (behind c bs) bs
end_behind c [] = end_all []
end_behind c (b ∷ bs) = go (is_in c b) (end_behind c bs)
  where
    go : (t : Bool) → IsEnd (behind c bs) bs → IsEnd (cond t (behind c bs) (b ∷ bs)) (b ∷ bs)
    go true h = end_cons b (behind c bs) bs h
    go false h = end_all (b ∷ bs)

-- after a text in quotes
end_literal : (odd : Bool) (text : Option Bytes) (bs : Bytes) → IsEnd (literal_from odd text bs).1 bs
end_literal true text [] = end_all []
end_literal false text [] = end_all []
end_literal true text (b ∷ bs) = end_cons b (literal_from false (with_byte text (escaped b)) bs).1 bs (end_literal false (with_byte text (escaped b)) bs)
end_literal false text (b ∷ bs) = go (eqb b 34) (eqb b 92) (end_literal true text bs) (end_literal false (with_byte text (Some b)) bs)
  where
    go : (p q : Bool) → IsEnd (literal_from true text bs).1 bs → IsEnd (literal_from false (with_byte text (Some b)) bs).1 bs → IsEnd (cond {A = Token × Bytes} p (literal_token text, bs) (cond q (literal_from true text bs) (literal_from false (with_byte text (Some b)) bs))).1 (b ∷ bs)
    go true q h k = end_cons b bs bs (end_all bs)
    go false true h k = end_cons b (literal_from true text bs).1 bs h
    go false false h k = end_cons b (literal_from false (with_byte text (Some b)) bs).1 bs k

-- after a mark
end_mark : (b : ℕ) (bs : Bytes) → IsEnd (mark_at b bs).1 bs
unfolding mark_at
end_mark b bs = go (mark_of b bs)
  where
    go : (o : Option (Mark × ℕ)) → IsEnd (marked o b bs).1 bs
    go None = end_all bs
    go (Some k) = end_drop k.1 bs

-- after the digits that follow a point
end_fraction : (bs : Bytes) → IsEnd (fraction_at bs).1 bs
end_fraction bs = go (begins_fraction bs)
  where
    rest : (bs : Bytes) → IsEnd (rest_of bs) bs
    rest [] = end_all []
    rest (b ∷ bs) = end_cons b bs bs (end_all bs)

    go : (t : Bool) → IsEnd (cond {A = Bytes × Bytes} t (run class.Digit (rest_of bs), behind class.Digit (rest_of bs)) ([], bs)).1 bs
    go true = end_trans (behind class.Digit (rest_of bs)) (rest_of bs) bs (end_behind class.Digit (rest_of bs)) (rest bs)
    go false = end_all bs

-- after a quantity
end_piece : (bs : Bytes) → IsEnd (piece_at bs).1 bs
end_piece bs =
    let digits = behind class.Digit bs in
    let unit = (fraction_at digits).1 in
    end_trans (behind class.Letter unit) unit bs (end_behind class.Letter unit) (end_trans unit digits bs (end_fraction digits) (end_behind class.Digit bs))

-- after quantities that are summed
end_pieces : (n : ℕ) (sum : Option (Dimension × ℕ)) (bs : Bytes) → IsEnd (pieces_from n sum bs).1 bs
unfolding pieces_from
end_pieces zero sum bs = end_all bs
end_pieces (suc n) sum bs = go (begins class.Digit (behind class.Space bs)) (end_pieces n (added sum (piece_at (behind class.Space bs)).0) (piece_at (behind class.Space bs)).1)
  where
    go : (t : Bool) → IsEnd (pieces_from n (added sum (piece_at (behind class.Space bs)).0) (piece_at (behind class.Space bs)).1).1 (piece_at (behind class.Space bs)).1 → IsEnd (cond {A = Option (Dimension × ℕ) × Bytes} t (pieces_from n (added sum (piece_at (behind class.Space bs)).0) (piece_at (behind class.Space bs)).1) (sum, bs)).1 bs
    go true h = end_trans (pieces_from n (added sum (piece_at (behind class.Space bs)).0) (piece_at (behind class.Space bs)).1).1 (piece_at (behind class.Space bs)).1 bs h (end_trans (piece_at (behind class.Space bs)).1 (behind class.Space bs) bs (end_piece (behind class.Space bs)) (end_behind class.Space bs))
    go false h = end_all bs

-- after quantities in a row
end_quantity : (bs : Bytes) → IsEnd (quantity_at bs).1 bs
unfolding quantity_at row_from
end_quantity bs = end_trans (pieces_from (length (piece_at bs).1) (piece_at bs).0 (piece_at bs).1).1 (piece_at bs).1 bs (end_pieces (length (piece_at bs).1) (piece_at bs).0 (piece_at bs).1) (end_piece bs)

-- after `0x`
end_prefix : (bs hex : Bytes) → behind_prefix bs ≡ Some hex → IsEnd hex bs
end_prefix [] hex e = absurd cc
end_prefix (a ∷ []) hex e = absurd cc
end_prefix (a ∷ b ∷ bs) hex e = go (eqb a 48 && eqb b 120) e
  where
    go : (t : Bool) → cond t (Some bs) None ≡ Some hex → IsEnd hex (a ∷ b ∷ bs)
    go true h = let same : bs ≡ hex = cc in record { front = a ∷ b ∷ []; parts = ap (λ (l : Bytes). a ∷ b ∷ l) same }
    go false h = absurd cc

-- after a number or quantities
end_number : (bs : Bytes) → IsEnd (number_at bs).1 bs
unfolding number_at
end_number bs = go (behind_prefix bs) refl (begins_quantity (behind class.Digit bs))
  where
    plain : (t : Bool) → IsEnd (cond {A = Token × Bytes} t (quantity_at bs) (number_of class.Digit (run class.Digit bs), behind class.Digit bs)).1 bs
    plain true = end_quantity bs
    plain false = end_behind class.Digit bs

    go : (o : Option Bytes) → behind_prefix bs ≡ o → (t : Bool) → IsEnd (number_from o bs).1 bs
    go (Some hex) e t = end_trans (behind class.Hex hex) hex bs (end_behind class.Hex hex) (end_prefix bs hex e)
    go None e t = plain (begins_quantity (behind class.Digit bs))

-- after a word or a name
end_word : (b : ℕ) (bs : Bytes) → is_in class.Name b ≡ true → IsEnd (word_at (b ∷ bs)).1 bs
unfolding word_at
end_word b bs e = rw e (end_behind class.Name bs)

-- ---- numbers and amounts

-- what passes the limit is below it
limit_is : (n m : ℕ) → below_limit n ≡ Some m → ltb m (2 ^ 63) ≡ true
limit_is n m e = go (ltb n (2 ^ 63)) refl e
  where
    go : (t : Bool) → ltb n (2 ^ 63) ≡ t → cond t (Some n) None ≡ Some m → ltb m (2 ^ 63) ≡ true
    go true et h = let same : n ≡ m = cc in subst (λ (k : ℕ). ltb k (2 ^ 63) ≡ true) same et
    go false et h = absurd cc

-- a number below the limit
numbered_sound : (o : Option ℕ) → ((n : ℕ) → o ≡ Some n → ltb n (2 ^ 63) ≡ true) → IsSound (numbered o)
numbered_sound None h stray = absurd cc
numbered_sound (Some n) h stray = h n refl

-- the number that digits say
number_of_sound : (c : Class) (ds : Bytes) → IsSound (number_of c ds)
unfolding number_of
number_of_sound c [] = λ stray. absurd cc
number_of_sound c (d ∷ ds) = numbered_sound (below_limit (value_of c (d ∷ ds))) (λ n. limit_is (value_of c (d ∷ ds)) n)

-- an amount is below the limit
abbrev InLimit : Option (Dimension × ℕ) → Type 0
InLimit None = Unit {0}
InLimit (Some q) = ltb q.1 (2 ^ 63) ≡ true

-- an amount that passes the limit
limited : (d : Dimension) (n : ℕ) → InLimit (option_map (λ k. (d, k)) (below_limit n))
limited d n = go (below_limit n) (λ m. limit_is n m)
  where
    go : (o : Option ℕ) → ((m : ℕ) → o ≡ Some m → ltb m (2 ^ 63) ≡ true) → InLimit (option_map (λ k. (d, k)) o)
    go None h = tt
    go (Some m) h = h m refl

-- a quantity
measured_limit : (unit whole fraction : Bytes) → InLimit (measured unit whole fraction)
measured_limit unit whole fraction = go (unit_of unit)
  where
    amount : (d : Dimension) (factor : ℕ) (o : Option ℕ) → InLimit (option_map (λ n. (d, n)) (and_then o (λ part. below_limit (value_of class.Digit whole * factor + part))))
    amount d factor None = tt
    amount d factor (Some part) = limited d (value_of class.Digit whole * factor + part)

    go : (o : Option (Dimension × ℕ)) → InLimit (and_then o (λ u. option_map (λ n. (u.0, n)) (amount_of u.1 whole fraction)))
    go None = tt
    go (Some u) = amount u.0 u.1 (part_of u.1 fraction)

-- a sum
added_limit : (a b : Option (Dimension × ℕ)) → InLimit (added a b)
added_limit None b = tt
added_limit (Some x) None = tt
added_limit (Some x) (Some y) = go (same_dimension x.0 y.0)
  where
    go : (t : Bool) → InLimit (cond t (option_map (λ n. (x.0, n)) (below_limit (x.1 + y.1))) None)
    go true = limited x.0 (x.1 + y.1)
    go false = tt

-- quantities that are summed
pieces_limit : (n : ℕ) (sum : Option (Dimension × ℕ)) (bs : Bytes) → InLimit sum → InLimit (pieces_from n sum bs).0
unfolding pieces_from
pieces_limit zero sum bs h = h
pieces_limit (suc n) sum bs h = go (begins class.Digit (behind class.Space bs)) (pieces_limit n (added sum (piece_at (behind class.Space bs)).0) (piece_at (behind class.Space bs)).1 (added_limit sum (piece_at (behind class.Space bs)).0))
  where
    go : (t : Bool) → InLimit (pieces_from n (added sum (piece_at (behind class.Space bs)).0) (piece_at (behind class.Space bs)).1).0 → InLimit (cond {A = Option (Dimension × ℕ) × Bytes} t (pieces_from n (added sum (piece_at (behind class.Space bs)).0) (piece_at (behind class.Space bs)).1) (sum, bs)).0
    go true k = k
    go false k = h

-- the token of an amount
quantity_token_sound : (o : Option (Dimension × ℕ)) → InLimit o → IsSound (quantity_token o)
quantity_token_sound None h stray = absurd cc
quantity_token_sound (Some q) h stray = h

-- quantities in a row
quantity_sound : (bs : Bytes) → IsSound (quantity_at bs).0
unfolding quantity_at row_from
quantity_sound bs = quantity_token_sound (pieces_from (length (piece_at bs).1) (piece_at bs).0 (piece_at bs).1).0 (pieces_limit (length (piece_at bs).1) (piece_at bs).0 (piece_at bs).1 (measured_limit (run class.Letter (fraction_at (behind class.Digit bs)).1) (run class.Digit bs) (fraction_at (behind class.Digit bs)).0))

-- a number or quantities
number_sound : (bs : Bytes) → IsSound (number_at bs).0
unfolding number_at
number_sound bs = go (behind_prefix bs)
  where
    plain : (t : Bool) → IsSound (cond {A = Token × Bytes} t (quantity_at bs) (number_of class.Digit (run class.Digit bs), behind class.Digit bs)).0
    plain true = quantity_sound bs
    plain false = number_of_sound class.Digit (run class.Digit bs)

    go : (o : Option Bytes) → IsSound (number_from o bs).0
    go (Some hex) = number_of_sound class.Hex (run class.Hex hex)
    go None = plain (begins_quantity (behind class.Digit bs))

-- ---- names and words

-- a run is of its class
run_all : (c : Class) (bs : Bytes) → all_in c (run c bs) ≡ true
run_all c [] = refl
run_all c (b ∷ bs) = go (is_in c b) refl (run_all c bs)
  where
    go : (t : Bool) → is_in c b ≡ t → all_in c (run c bs) ≡ true → all_in c (cond t (b ∷ run c bs) []) ≡ true
    go true e h = rw e h
    go false e h = refl

-- a word or a name
named_sound : (o : Option Keyword) (word : Bytes) → keyword_of word ≡ o → begins_name word ≡ true → all_in class.Name word ≡ true → IsSound (named o word)
named_sound None word e begun all stray = (begun, all, e)
named_sound (Some w) word e begun all stray = tt

-- what begins a name is in its class
begins_in : (b : ℕ) → is_letter b || eqb b 95 ≡ true → is_in class.Name b ≡ true
begins_in b e = go (is_letter b) (is_digit b) (eqb b 95) e
  where
    go : (p q r : Bool) → p || r ≡ true → p || q || r ≡ true
    go true q r h = refl
    go false true r h = refl
    go false false r h = h

-- what begins with a letter or `_`
word_sound : (b : ℕ) (bs : Bytes) → is_letter b || eqb b 95 ≡ true → IsSound (word_at (b ∷ bs)).0
unfolding word_at
word_sound b bs e =
    let begun : begins_name (run class.Name (b ∷ bs)) ≡ true = rw (begins_in b e) e in
    named_sound (keyword_of (run class.Name (b ∷ bs))) (run class.Name (b ∷ bs)) refl begun (run_all class.Name (b ∷ bs))

-- ---- texts in quotes

-- a text with an odd escape is stray
literal_odd : (odd : Bool) (bs : Bytes) → IsSound (literal_from odd None bs).0
literal_odd true [] = λ stray. absurd cc
literal_odd false [] = λ stray. absurd cc
literal_odd true (b ∷ bs) = literal_odd false bs
literal_odd false (b ∷ bs) = go (eqb b 34) (eqb b 92) (literal_odd true bs) (literal_odd false bs)
  where
    go : (p q : Bool) → IsSound (literal_from true None bs).0 → IsSound (literal_from false None bs).0 → IsSound (cond {A = Token × Bytes} p (token.OddLiteral, bs) (cond q (literal_from true None bs) (literal_from false None bs))).0
    go true q h k = λ stray. absurd cc
    go false true h k = h
    go false false h k = k

-- the byte that an escape stands for, in place of the escape
unescaped : (acc bs : Bytes) (b c d : ℕ) → eqb b c ≡ true → ltb c 128 ≡ true → ltb d 128 ≡ true → IsUtf8 (acc ++ 92 ∷ b ∷ bs) → IsUtf8 ((acc ++ d ∷ []) ++ bs)
unescaped acc bs b c d e low small h =
    let front = before_ascii acc (b ∷ bs) 92 (ltb-true 92 128 refl) h in
    let behind = after_ascii acc (b ∷ bs) 92 (ltb-true 92 128 refl) h in
    let ascii : ltb b 128 ≡ true = ap (λ (n : ℕ). ltb n 128) (eqb-true b c e) ∙ low in
    let rest = after_ascii [] bs b (ltb-true b 128 ascii) behind in
    subst IsUtf8 (sym (append_assoc acc (d ∷ []) bs)) (around_ascii acc bs d small front rest)

-- a text in quotes in a text is a text
literal_sound : (odd : Bool) (acc bs : Bytes) → IsUtf8 (acc ++ cond odd (92 ∷ bs) bs) → IsSound (literal_from odd (Some acc) bs).0
literal_sound true acc [] h = λ stray. absurd cc
literal_sound false acc [] h = λ stray. absurd cc
literal_sound true acc (b ∷ bs) h = go (eqb b 34) refl (eqb b 92) refl (eqb b 110) refl (eqb b 116) refl (λ d. literal_sound false (acc ++ d ∷ []) bs)
  where
    go : (p : Bool) → eqb b 34 ≡ p → (q : Bool) → eqb b 92 ≡ q → (r : Bool) → eqb b 110 ≡ r → (s : Bool) → eqb b 116 ≡ s → ((d : ℕ) → IsUtf8 ((acc ++ d ∷ []) ++ bs) → IsSound (literal_from false (Some (acc ++ d ∷ [])) bs).0) → IsSound (literal_from false (with_byte (Some acc) (cond p (Some 34) (cond q (Some 92) (cond r (Some 10) (cond s (Some 9) None))))) bs).0
    go true ep q eq r er s es ih = ih 34 (unescaped acc bs b 34 34 ep refl refl h)
    go false ep true eq r er s es ih = ih 92 (unescaped acc bs b 92 92 eq refl refl h)
    go false ep false eq true er s es ih = ih 10 (unescaped acc bs b 110 10 er refl refl h)
    go false ep false eq false er true es ih = ih 9 (unescaped acc bs b 116 9 es refl refl h)
    go false ep false eq false er false es ih = literal_odd false bs
literal_sound false acc (b ∷ bs) h = go (eqb b 34) refl (eqb b 92) refl (literal_sound true acc bs) (literal_sound false (acc ++ b ∷ []) bs)
  where
    go : (p : Bool) → eqb b 34 ≡ p → (q : Bool) → eqb b 92 ≡ q → (IsUtf8 (acc ++ 92 ∷ bs) → IsSound (literal_from true (Some acc) bs).0) → (IsUtf8 ((acc ++ b ∷ []) ++ bs) → IsSound (literal_from false (Some (acc ++ b ∷ [])) bs).0) → IsSound (cond {A = Token × Bytes} p (token.Literal acc, bs) (cond q (literal_from true (Some acc) bs) (literal_from false (Some (acc ++ b ∷ [])) bs))).0
    go true ep q eq ih more = λ stray. is_utf8-from_IsUtf8 acc (before_ascii acc bs 34 (ltb-true 34 128 refl) (subst (λ (c : ℕ). IsUtf8 (acc ++ c ∷ bs)) (eqb-true b 34 ep) h))
    go false ep true eq ih more = ih (subst (λ (c : ℕ). IsUtf8 (acc ++ c ∷ bs)) (eqb-true b 92 eq) h)
    go false ep false eq ih more = more (subst IsUtf8 (sym (append_assoc acc (b ∷ []) bs)) h)

-- ---- the tokens of a line

-- bytes with which a text in UTF-8 ends
record FromText (bs : Bytes) : Type 0 where
  before : Bytes
  text : IsUtf8 (before ++ bs)

-- so the end of them
from_end : (us bs : Bytes) → IsEnd us bs → FromText bs → FromText us
from_end us bs h k = record { before = k.before ++ h.front; text = subst IsUtf8 (sym (append_assoc k.before h.front us)) (subst (λ (l : Bytes). IsUtf8 (k.before ++ l)) h.parts k.text) }

-- a mark or a stray byte
mark_sound : (b : ℕ) (bs : Bytes) → IsSound (mark_at b bs).0
unfolding mark_at
mark_sound b bs = go (mark_of b bs)
  where
    go : (o : Option (Mark × ℕ)) → IsSound (marked o b bs).0
    go None = λ stray. absurd cc
    go (Some k) = λ stray. tt

-- the first token
token_sound : (b : ℕ) (bs : Bytes) → FromText (b ∷ bs) → IsSound (token_at b bs).0
unfolding token_at
token_sound b bs from = go (is_letter b || eqb b 95) refl (is_digit b) (eqb b 34) refl
  where
    quoted : eqb b 34 ≡ true → IsUtf8 bs
    quoted e = after_ascii from.before bs 34 (ltb-true 34 128 refl) (subst (λ (c : ℕ). IsUtf8 (from.before ++ c ∷ bs)) (eqb-true b 34 e) from.text)

    go : (p : Bool) → is_letter b || eqb b 95 ≡ p → (q r : Bool) → eqb b 34 ≡ r → IsSound (cond {A = Token × Bytes} p (word_at (b ∷ bs)) (cond q (number_at (b ∷ bs)) (cond r (literal_from false (Some []) bs) (mark_at b bs)))).0
    go true ep q r er = word_sound b bs ep
    go false ep true r er = number_sound (b ∷ bs)
    go false ep false true er = literal_sound false [] bs (quoted er)
    go false ep false false er = mark_sound b bs

-- after the first token
token_end : (b : ℕ) (bs : Bytes) → IsEnd (token_at b bs).1 (b ∷ bs)
unfolding token_at
token_end b bs = go (is_letter b || eqb b 95) refl (is_digit b) (eqb b 34)
  where
    go : (p : Bool) → is_letter b || eqb b 95 ≡ p → (q r : Bool) → IsEnd (cond {A = Token × Bytes} p (word_at (b ∷ bs)) (cond q (number_at (b ∷ bs)) (cond r (literal_from false (Some []) bs) (mark_at b bs)))).1 (b ∷ bs)
    go true ep q r = end_cons b (word_at (b ∷ bs)).1 bs (end_word b bs (begins_in b ep))
    go false ep true r = end_number (b ∷ bs)
    go false ep false true = end_cons b (literal_from false (Some []) bs).1 bs (end_literal false (Some []) bs)
    go false ep false false = end_cons b (mark_at b bs).1 bs (end_mark b bs)

-- the first token after blanks is sound, and a text ends with what is after it
next_sound : (bs : Bytes) (t : Token × Bytes) → next bs ≡ Some t → FromText bs → IsSound t.0 × FromText t.1
unfolding token_of
next_sound bs t e from = go (behind class.Blank bs) (from_end (behind class.Blank bs) bs (end_behind class.Blank bs) from) e
  where
    pick : (b : ℕ) (us : Bytes) → FromText (b ∷ us) → (p : Bool) → cond p None (Some (token_at b us)) ≡ Some t → IsSound t.0 × FromText t.1
    pick b us from true h = absurd cc
    pick b us from false h = let same : token_at b us ≡ t = cc in subst (λ (u : Token × Bytes). IsSound u.0 × FromText u.1) same (token_sound b us from, from_end (token_at b us).1 (b ∷ us) (token_end b us) from)

    go : (us : Bytes) → FromText us → token_of us ≡ Some t → IsSound t.0 × FromText t.1
    go [] from h = absurd cc
    go (b ∷ us) from h = pick b us from (eqb b 47 && is_slash_next us) h

-- the tokens of what is left of a line
scan_sound : (n : ℕ) (bs : Bytes) → FromText bs → AreSound (scan n bs)
unfolding scan
scan_sound zero bs from = tt
scan_sound (suc n) bs from = go (next bs) refl (scan_sound n)
  where
    go : (o : Option (Token × Bytes)) → next bs ≡ o → ((us : Bytes) → FromText us → AreSound (scan n us)) → AreSound (one_more o (scan n))
    go None e ih = tt
    go (Some t) e ih = let found = next_sound bs t e from in (found.0, ih t.1 found.1)

-- the tokens of bytes with which a text ends
scanned_sound : (bs : Bytes) → FromText bs → AreSound (scanned bs)
unfolding scanned
scanned_sound bs from = scan_sound (length bs) bs from

-- the tokens of a line
line_sound : (inside : Bool) (line : Bytes) → AreSound (line_tokens inside line)
unfolding line_tokens
line_sound inside line = go (is_utf8 line) refl inside
  where
    whole : is_utf8 line ≡ true → FromText line
    whole e = record { before = []; text = IsUtf8-from_is_utf8 line e }

    go : (t : Bool) → is_utf8 line ≡ t → (b : Bool) → AreSound (cond t (cond b (behind_literal (literal_from false (Some []) line)) (scanned line)) (token.Broken ∷ []))
    go true e true = (literal_sound false [] line (IsUtf8-from_is_utf8 line e), scanned_sound (literal_from false (Some []) line).1 (from_end (literal_from false (Some []) line).1 line (end_literal false (Some []) line) (whole e)))
    go true e false = scanned_sound line (whole e)
    go false e b = ((λ stray. absurd cc), tt)

-- the tokens of lines
lines_sound : (inside : Bool) (lines : List Bytes) → AreSound (tokens_of_lines inside lines)
unfolding tokens_of_lines
lines_sound inside [] = tt
lines_sound inside (line ∷ lines) = AreSound-append (line_tokens inside line) (tokens_of_lines (ends_open false (line_tokens inside line)) lines) (line_sound inside line) (lines_sound (ends_open false (line_tokens inside line)) lines)

-- the tokens of a text
pub sound_tokens : (bytes : Bytes) → AreSound (tokens_of bytes)
sound_tokens bytes = lines_sound false (lines_of bytes)

-- what is sound and not stray has a spelling
pub have_spelling : (ts : List Token) → AreSound ts → NoneStray ts → HaveSpelling ts
have_spelling [] h k = tt
have_spelling (t ∷ ts) h k = (h.0 k.0, have_spelling ts h.1 k.1)

-- the tokens of a text are read back
pub text_read_back : (bytes : Bytes) → IsReadBack bytes
text_read_back bytes none = read_back (tokens_of bytes) (have_spelling (tokens_of bytes) (sound_tokens bytes) none)
