-- A line that is split at its first space, and the words of an injection.
use Rattle.std.proofs.Common.{◌≡◌, ◌<◌, ℕ, ◌+◌, Bool, true, false, cond, List, [], ◌∷◌, length, take, drop, position, Option, Some, None, nat_lt, MatchOption, refl, arith}
use Rattle.std.specs.List.{position_or_len}
use Rattle.std.proofs.lemmas.Bool.Decides.{nat_tests}
use Rattle.std.proofs.lemmas.List.Splits.{length-slice_split, slice_split_first, slice_split_none}
use Rattle.std.proofs.lemmas.List.Sums.{fails_before_first}
use Rattle.desk_commands.specs.Injections.{asked_by}
use Rattle.desk_commands.specs.Words.{is_space, parted_at, words_of}

at_space : (bytes : List ℕ) (t : Bool) → nat_lt (position_or_len is_space bytes) (length bytes) ≡ t
    → MatchOption (parted_at bytes (cond t (Some (position_or_len is_space bytes)) None)) (words_of bytes ≡ bytes ∷ []) (λ p. words_of bytes ≡ p.0 ∷ words_of p.1)
at_space bytes true e = slice_split_first is_space bytes 0 (grind (arith, nat_tests))
at_space bytes false e =
    let beyond : (k : ℕ) → k < length bytes → k < position_or_len is_space bytes = λ k h. grind (arith, nat_tests) in
    slice_split_none is_space bytes (λ k d h. fails_before_first is_space bytes k d (beyond k h))

-- the words are the first one and those of the rest, or the one that the line is
words_parted : (bytes : List ℕ) (o : Option ℕ) → position is_space bytes ≡ o
    → MatchOption (parted_at bytes o) (words_of bytes ≡ bytes ∷ []) (λ p. words_of bytes ≡ p.0 ∷ words_of p.1)
words_parted bytes o e =
    rw (← e) (at_space bytes (nat_lt (position_or_len is_space bytes) (length bytes)) refl)

pub one_word : (bytes : List ℕ) → position is_space bytes ≡ None → words_of bytes ≡ bytes ∷ []
one_word bytes e = words_parted bytes None e

pub more_words : (bytes : List ℕ) (at : ℕ) → position is_space bytes ≡ Some at → words_of bytes ≡ take at bytes ∷ words_of (drop (at + 1) bytes)
more_words bytes at e = words_parted bytes (Some at) e

-- there is always one
pub some_word : (bytes : List ℕ) → 0 < length (words_of bytes)
some_word bytes = omega (arith, length-slice_split is_space bytes)

-- no other number of words asks for an injection
pub not_six : (words : List (List ℕ)) → (length words ≡ 6 → ⊥) → asked_by words ≡ None
unfolding asked_by
not_six [] h = refl
not_six (a ∷ []) h = refl
not_six (a ∷ b ∷ []) h = refl
not_six (a ∷ b ∷ c ∷ []) h = refl
not_six (a ∷ b ∷ c ∷ d ∷ []) h = refl
not_six (a ∷ b ∷ c ∷ d ∷ e ∷ []) h = refl
not_six (a ∷ b ∷ c ∷ d ∷ e ∷ f ∷ []) h = absurd (h refl)
not_six (a ∷ b ∷ c ∷ d ∷ e ∷ f ∷ g ∷ more) h = refl
