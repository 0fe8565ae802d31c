-- Words of hex digits in lower case, and the bytes that they say.
use Rattle.std.proofs.Common.{◌≡◌, ◌∙◌, ℕ, ◌%◌, ◌==◌, ◌&&◌, ◌||◌, Bool, true, false, if◌then◌else◌, codes, List, [], ◌∷◌, length, Option, Some, None, IsSome, is_some, nat_lt, Result, Err, ◌⊎◌, refl, sym, ap, arith, inl, inr}
use Rattle.std.specs.List.{list_all, AllPass}
use Rattle.std.specs.Result.{result_ok}
use Rattle.std.specs.Str.{bytes_eq}
use Rattle.std.proofs.lemmas.Bool.{and_parts, cases_eq}
use Rattle.std.proofs.lemmas.List.Elements.{All-cons, All-nil}
use Rattle.hex.proofs.HexLemmas.{decode_of-digits}
use Rattle.hex.specs.Hex.{decode_of, is_hex_digit}
use Rattle.hex.specs.declared.error.FromHexError.{FromHexError}
use Rattle.hex.specs.declared.error.FromHexError.TheVariants.{OutOfMemory}
use Rattle.desk_commands.specs.Injections.{is_lower_digit, is_lower_hex, payload_of}

-- such a digit is one of the library's
digit_taken : (b : ℕ) → is_lower_digit b ≡ true → is_hex_digit b ≡ true
digit_taken b h = grind (arith)

digits_taken : (word : List ℕ) → list_all is_lower_digit word ≡ true → AllPass is_hex_digit word
digits_taken [] h = All-nil (λ b. is_hex_digit b ≡ true)
digits_taken (b ∷ bs) h =
    let parts = and_parts (is_lower_digit b) (list_all is_lower_digit bs) h in
    All-cons (λ c. is_hex_digit c ≡ true) b bs (digit_taken b parts.0) (digits_taken bs parts.1)

-- the library takes them where they are pairs
pairs_taken : (word : List ℕ) → list_all is_lower_digit word ≡ true → is_some (result_ok (decode_of word)) ≡ (length word % 2 == 0)
pairs_taken word h =
    elim (cases_eq (length word % 2) 1) [
      | inl odd ↦ rw odd
      | inr other ↦
          let even : length word % 2 ≡ 0 = omega arith in
          let taken = decode_of-digits word even (digits_taken word h) in
          ap (λ (r : Result (List ℕ) FromHexError). is_some (result_ok r)) taken.1 ∙ rw even
    ]

hex_said : (word : List ℕ) (t : Bool) → is_lower_hex word ≡ t
    → is_some (if t then result_ok (decode_of word) else None) ≡ (t && (length word % 2 == 0))
hex_said word true e = pairs_taken word (and_parts (nat_lt 0 (length word)) (list_all is_lower_digit word) e).1
hex_said word false e = refl

word_said : (word : List ℕ) (t : Bool)
    → is_some (if t then Some [] else (if is_lower_hex word then result_ok (decode_of word) else None)) ≡ (t || (is_lower_hex word && (length word % 2 == 0)))
word_said word true = refl
word_said word false = hex_said word (is_lower_hex word) refl

-- which words say a payload
pub payload_said : (word : List ℕ) → is_some (payload_of word) ≡ (bytes_eq word (codes "-") || (is_lower_hex word && (length word % 2 == 0)))
unfolding payload_of
payload_said word = word_said word (bytes_eq word (codes "-"))

hex_or_dash : (o : Option (List ℕ)) (s t : Bool) → s ≡ false → IsSome (if s then Some [] else (if t then o else None)) → (if s then Some [] else (if t then o else None)) ≡ o
hex_or_dash o true t e h = cc
hex_or_dash o false true e h = refl
hex_or_dash o false false e h = cc

-- one that does, and is not `-`, says what the library reads
pub payload_read : (word : List ℕ) → bytes_eq word (codes "-") ≡ false → IsSome (payload_of word) → payload_of word ≡ result_ok (decode_of word)
unfolding payload_of
payload_read word e h = hex_or_dash (result_ok (decode_of word)) (bytes_eq word (codes "-")) (is_lower_hex word) e h

-- so nothing but memory fails there
pub only_memory : (word : List ℕ) (error : FromHexError) → bytes_eq word (codes "-") ≡ false → IsSome (payload_of word)
    → (error ≡ OutOfMemory) ⊎ (decode_of word ≡ Err error) → error ≡ OutOfMemory
only_memory word error e h (inl out) = out
only_memory word error e h (inr told) =
    let none : payload_of word ≡ None = payload_read word e h ∙ ap result_ok told in
    cc (sym (ap is_some none) ∙ h)
