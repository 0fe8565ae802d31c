-- Digits at the front of a text.
use Rattle.std.proofs.Common.{◌≡◌, ℕ, ◌+◌, ◌-◌, ◌*◌, ◌^◌, ◌<◌, ◌≤◌, min, true, false, List, [], ◌∷◌, ◌++◌, length, length-append, append-nil, append_assoc, inl, inr, add-one, refl, sym, ap, ◌∙◌, arith}
use Rattle.std.specs.Char.{is_ascii_digit, digit_value, encode_utf8}
use Rattle.std.specs.Str.{chars, IsUtf8}
use Rattle.std.specs.Int.{IsInRange}
use Rattle.std.specs.Str.Parse.{digits_value}
use Rattle.std.proofs.lemmas.Bool.{cases_lt}
use Rattle.std.proofs.lemmas.Bool.Decides.{nat_tests}
use Rattle.std.proofs.lemmas.List.{length_push, same_from_push, nil_from_length}
use Rattle.std.proofs.lemmas.Str.{chars-nil, chars_from_encodes, encodes-chars, encodes-append}
use Rattle.std.proofs.lemmas.Int.Digits.{digits_value_push}
use Rattle.std.proofs.Math.Nat.{pow-succ', pow-le-pow_right}
use Rattle.ini_pattern.specs.PatternOf.{digits_front, after_digits}
use Rattle.ini_pattern.specs.Reading.{IsReadingOf, EndsNotWith}

-- the digits that are read, and what is left
pub record ReadSoFar (count value : ℕ) (text rest : List ℕ) : Type 0 where
  pub digits : List ℕ
  pub front : digits_front text ≡ digits ++ digits_front rest
  pub after : after_digits text ≡ after_digits rest
  pub counted : count ≡ min 19 (length digits)
  pub valued : length digits ≤ 18 → value ≡ digits_value 10 digits
  pub small : value < 10 ^ 18
  pub tight : value < 10 ^ count

digit_range : (c : ℕ) → is_ascii_digit c ≡ true → IsInRange 48 57 c
digit_range c h = grind (arith, nat_tests)

pub digit_worth : (c : ℕ) → is_ascii_digit c ≡ true → digit_value c ≡ c - 48
digit_worth c h = grind (arith, nat_tests, digit_range c h)

pub read_none : (text : List ℕ) → ReadSoFar 0 0 text text
read_none text = record {
  digits = [];
  front = refl;
  after = refl;
  counted = refl;
  valued = λ _. refl;
  small = omega arith;
  tight = omega arith;
}

tight_more : (value count worth : ℕ) → value < 10 ^ count → worth ≤ 9 → value * 10 + worth < 10 ^ (count + 1)
tight_more value count worth h le =
    let p : 10 ^ (count + 1) ≡ 10 * 10 ^ count = rw add-one (pow-succ' 10 count) in
    rw p (omega arith)

small_at : (value value' count c : ℕ) → IsInRange 48 57 c → (count < 18 → value' ≡ value * 10 + (c - 48)) → (18 ≤ count → value' ≡ value) → value < 10 ^ 18 → value < 10 ^ count → value' < 10 ^ 18
small_at value value' count c range less most small tight =
    elim (cases_lt count 18) [
      | inl lt ↦
          let worth : c - 48 ≤ 9 = omega (arith, range.1) in
          let below = tight_more value count (c - 48) tight worth in
          let grows : 10 ^ (count + 1) ≤ 10 ^ 18 = pow-le-pow_right {n = 10} (omega arith) {i = count + 1} {j = 18} (omega arith) in
          omega (arith, less lt)
      | inr le ↦ omega (arith, most le)
    ]

tight_at : (value value' count count' c : ℕ) → IsInRange 48 57 c → (count < 18 → value' ≡ value * 10 + (c - 48)) → (18 ≤ count → value' ≡ value) → value < 10 ^ count → count' ≡ min (count + 1) 19 → count ≤ 19 → value' < 10 ^ count'
tight_at value value' count count' c range less most tight counted short =
    elim (cases_lt count 18) [
      | inl lt ↦
          let worth : c - 48 ≤ 9 = omega (arith, range.1) in
          let next : count' ≡ count + 1 = omega (arith, counted) in
          let below = tight_more value count (c - 48) tight worth in
          rw (next, less lt) below
      | inr le ↦
          let grows : 10 ^ count ≤ 10 ^ count' = pow-le-pow_right {n = 10} (omega arith) {i = count} {j = count'} (omega (arith, counted)) in
          omega (arith, most le)
    ]

pub read_more : (count value count' value' : ℕ) (text rest more : List ℕ) (c : ℕ) → ReadSoFar count value text rest → rest ≡ c ∷ more → is_ascii_digit c ≡ true → count' ≡ min (count + 1) 19 → (count < 18 → value' ≡ value * 10 + (c - 48)) → (18 ≤ count → value' ≡ value) → ReadSoFar count' value' text more
read_more count value count' value' text rest more c w e digit counted less most =
    let range = digit_range c digit in
    let long = length_push w.digits c in
    record {
      digits = w.digits ++ c ∷ [];
      front = w.front ∙ rw (e, digit) (sym (append_assoc w.digits (c ∷ []) (digits_front more)));
      after = w.after ∙ rw (e, digit) refl;
      counted = omega (arith, w.counted, counted, long);
      valued = λ (short : length (w.digits ++ c ∷ []) ≤ 18). less (omega (arith, w.counted, long, short)) ∙ rw (w.valued (omega (arith, long, short)), digits_value_push 10 w.digits c, digit_worth c digit) refl;
      small = small_at value value' count c range less most w.small w.tight;
      tight = tight_at value value' count count' c range less most w.tight counted (omega (arith, w.counted));
    }

-- where no digit follows, what is read is all of the digits
pub read_all : (count value : ℕ) (text rest : List ℕ) → ReadSoFar count value text rest → digits_front rest ≡ [] → IsReadingOf (digits_front text) (record { count = count; value = value })
read_all count value text rest w none =
    let all : digits_front text ≡ w.digits = w.front ∙ rw none (append-nil w.digits) in
    rw all (record { count = w.counted; value = w.valued })

pub no_digit : (c : ℕ) (rest more : List ℕ) → rest ≡ c ∷ more → is_ascii_digit c ≡ false → (digits_front rest ≡ []) × (after_digits rest ≡ rest)
no_digit c rest more e h = (rw (e, h) refl, rw (e, h) refl)

pub no_more : (rest : List ℕ) → rest ≡ [] → (digits_front rest ≡ []) × (after_digits rest ≡ rest)
no_more rest e = (rw e refl, rw e refl)

-- the last character of a text
pub chars_before : (bs front : List ℕ) (c : ℕ) → IsUtf8 bs → IsUtf8 front → bs ≡ front ++ encode_utf8 c → chars bs ≡ chars front ++ (c ∷ [])
chars_before bs front c u v e =
    sym (chars_from_encodes (chars front ++ (c ∷ [])) bs u (encodes-append (chars front) (c ∷ []) ∙ ap (λ l. l ++ (encode_utf8 c ++ [])) (encodes-chars front v) ∙ ap (λ l. front ++ l) (append-nil (encode_utf8 c)) ∙ sym e))

pub ends_apart : (text front : List ℕ) (c d : ℕ) → text ≡ front ++ (c ∷ []) → (c ≡ d → ⊥) → EndsNotWith d text
ends_apart text front c d e ne other f = ne (same_from_push front other c d (sym e ∙ f)).1

nil_apart : (front : List ℕ) (c : ℕ) → [] ≡ front ++ (c ∷ []) → ⊥
nil_apart front c e =
    let lengths : 0 ≡ length (front ++ (c ∷ [])) = ap length e in
    omega (arith, lengths, length-append front (c ∷ []))

pub empty_apart : (bs : List ℕ) (d : ℕ) → length bs ≡ 0 → EndsNotWith d (chars bs)
empty_apart bs d e front f =
    nil_apart front d (sym (ap chars (nil_from_length bs e) ∙ chars-nil) ∙ f)
