-- The tokens of a line: each takes a byte at least.
use Rattle.std.proofs.Common.{◌≡◌, ℕ, zero, suc, ◌<◌, ◌≤◌, Bool, true, false, cond, eqb, ◌&&◌, ◌||◌, List, [], ◌∷◌, length, Option, Some, None, refl, sym, ap, arith, length-drop}
use Rattle.ned_tokens.specs.declared.token.Token.{Token}
use Rattle.ned_tokens.specs.declared.token.Mark.{Mark}
use Rattle.ned_tokens.specs.declared.runs.Class.TheVariants as class
use Rattle.ned_tokens.specs.Runs.{Bytes, is_in, is_letter, is_digit, behind}
use Rattle.ned_tokens.specs.Marks.{mark_of, marked, mark_at}
use Rattle.ned_tokens.specs.Quantities.{begins_quantity}
use Rattle.ned_tokens.specs.Numbers.{behind_prefix, number_from, number_at}
use Rattle.ned_tokens.specs.Literals.{literal_token, with_byte, escaped, literal_from}
use Rattle.ned_tokens.specs.Lexing.{word_at, token_at, is_slash_next, token_of, next, one_more, scan, scanned}
use Rattle.ned_tokens.proofs.RunLemmas.{behind_length, behind_shorter}
use Rattle.ned_tokens.proofs.QuantityLemmas.{quantity_length}

literal_length : (odd : Bool) (text : Option Bytes) (bs : Bytes) → length (literal_from odd text bs).1 ≤ length bs
literal_length true text [] = omega arith
literal_length false text [] = omega arith
literal_length true text (b ∷ bs) = omega (arith, literal_length false (with_byte text (escaped b)) bs)
literal_length false text (b ∷ bs) = go (eqb b 34) (eqb b 92) (literal_length true text bs) (literal_length false (with_byte text (Some b)) bs)
  where
    go : (p q : Bool) → length (literal_from true text bs).1 ≤ length bs → length (literal_from false (with_byte text (Some b)) bs).1 ≤ length bs → length (cond {A = Token × Bytes} p (literal_token text, bs) (cond q (literal_from true text bs) (literal_from false (with_byte text (Some b)) bs))).1 ≤ suc (length bs)
    go true q h k = omega arith
    go false true h k = omega (arith, h)
    go false false h k = omega (arith, k)

mark_length : (b : ℕ) (bs : Bytes) → length (mark_at b bs).1 ≤ length bs
unfolding mark_at
mark_length b bs = go (mark_of b bs)
  where
    go : (o : Option (Mark × ℕ)) → length (marked o b bs).1 ≤ length bs
    go None = omega arith
    go (Some k) = omega (arith, length-drop k.1 bs)

word_length : (b : ℕ) (bs : Bytes) → is_in class.Name b ≡ true → length (word_at (b ∷ bs)).1 ≤ length bs
unfolding word_at
word_length b bs e = omega (arith, behind_shorter class.Name (b ∷ bs) e)

hex_length : (bs hex : Bytes) → behind_prefix bs ≡ Some hex → length hex < length bs
hex_length [] hex e = absurd cc
hex_length (a ∷ []) hex e = absurd cc
hex_length (a ∷ b ∷ bs) hex e = go (eqb a 48 && eqb b 120) e
  where
    go : (t : Bool) → cond t (Some bs) None ≡ Some hex → length hex < suc (suc (length bs))
    go true h = let same : bs ≡ hex = cc in omega (arith, ap length same)
    go false h = absurd cc

number_length : (b : ℕ) (bs : Bytes) → is_digit b ≡ true → length (number_at (b ∷ bs)).1 ≤ length bs
unfolding number_at
number_length b bs e = go (behind_prefix (b ∷ bs)) refl (begins_quantity (behind class.Digit (b ∷ bs))) refl
  where
    go : (o : Option Bytes) → behind_prefix (b ∷ bs) ≡ o → (t : Bool) → begins_quantity (behind class.Digit (b ∷ bs)) ≡ t → length (number_from o (b ∷ bs)).1 ≤ length bs
    go (Some hex) eo t et = omega (arith, hex_length (b ∷ bs) hex eo, behind_length class.Hex hex)
    go None eo true et = rw et (omega (arith, quantity_length (b ∷ bs) e))
    go None eo false et = rw et (omega (arith, behind_shorter class.Digit (b ∷ bs) e))

token_length : (b : ℕ) (bs : Bytes) → length (token_at b bs).1 ≤ length bs
unfolding token_at
token_length b bs = go (is_letter b || eqb b 95) refl (is_digit b) refl (eqb b 34)
  where
    named : (p q r : Bool) → p || r ≡ true → p || q || r ≡ true
    named true q r h = refl
    named false true r h = refl
    named false false r h = h

    go : (p : Bool) → is_letter b || eqb b 95 ≡ p → (q : Bool) → is_digit b ≡ q → (r : Bool) → length (cond {A = Token × Bytes} p (word_at (b ∷ bs)) (cond q (number_at (b ∷ bs)) (cond r (literal_from false (Some []) bs) (mark_at b bs)))).1 ≤ length bs
    go true ep q eq r = word_length b bs (named (is_letter b) (is_digit b) (eqb b 95) ep)
    go false ep true eq r = number_length b bs eq
    go false ep false eq true = literal_length false (Some []) bs
    go false ep false eq false = mark_length b bs

pub next_shorter : (bs : Bytes) (t : Token × Bytes) → next bs ≡ Some t → length t.1 < length bs
unfolding token_of
next_shorter bs t e = go (behind class.Blank bs) (behind_length class.Blank bs) e
  where
    pick : (b : ℕ) (us : Bytes) (p : Bool) → cond p None (Some (token_at b us)) ≡ Some t → length t.1 ≤ length us
    pick b us true h = absurd cc
    pick b us false h = let same : token_at b us ≡ t = cc in rw (sym same) (token_length b us)

    go : (us : Bytes) → length us ≤ length bs → token_of us ≡ Some t → length t.1 < length bs
    go [] h k = absurd cc
    go (b ∷ us) h k = omega (arith, h, pick b us (eqb b 47 && is_slash_next us) k)

scan_fuel : (n m : ℕ) (bs : Bytes) → length bs ≤ n → length bs ≤ m → scan n bs ≡ scan m bs
unfolding scan
scan_fuel zero zero bs h k = refl
scan_fuel zero (suc m) bs h k = sym (ends (next bs) refl)
  where
    ends : (o : Option (Token × Bytes)) → next bs ≡ o → one_more o (scan m) ≡ []
    ends None e = refl
    ends (Some t) e = absurd (omega (arith, h, next_shorter bs t e))
scan_fuel (suc n) zero bs h k = ends (next bs) refl
  where
    ends : (o : Option (Token × Bytes)) → next bs ≡ o → one_more o (scan n) ≡ []
    ends None e = refl
    ends (Some t) e = absurd (omega (arith, k, next_shorter bs t e))
scan_fuel (suc n) (suc m) bs h k = go (next bs) refl (scan_fuel n m)
  where
    go : (o : Option (Token × Bytes)) → next bs ≡ o → ((us : Bytes) → length us ≤ n → length us ≤ m → scan n us ≡ scan m us) → one_more o (scan n) ≡ one_more o (scan m)
    go None e ih = refl
    go (Some t) e ih = let lt = next_shorter bs t e in ap (λ (l : List Token). t.0 ∷ l) (ih t.1 (omega (arith, lt, h)) (omega (arith, lt, k)))

pub scanned-none : (bs : Bytes) → next bs ≡ None → scanned bs ≡ []
unfolding scanned scan
scanned-none [] e = refl
scanned-none (b ∷ bs) e = rw e refl

pub scanned-some : (bs : Bytes) (t : Token × Bytes) → next bs ≡ Some t → scanned bs ≡ t.0 ∷ scanned t.1
unfolding scanned scan
scanned-some [] t e = absurd (omega (arith, next_shorter [] t e))
scanned-some (b ∷ bs) t e = rw e (ap (λ (l : List Token). t.0 ∷ l) (scan_fuel (length bs) (length t.1) t.1 (omega (arith, next_shorter (b ∷ bs) t e)) (omega arith)))
