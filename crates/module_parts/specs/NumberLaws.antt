-- Numbers and their bytes.
use Rattle.std.proofs.Common.{◌≡◌, ℕ, ◌+◌, ◌-◌, ◌<◌, nat_lt, ◌&&◌, ◌==◌, length, Bool, true, false}
use Rattle.std.proofs.Common.{Option, Some, None, IfSome, if◌then◌else◌, IsTrue, refl, ap, sym}
use Rattle.std.proofs.Common.{subst, lit≤, lit<}
use Rattle.std.proofs.Math.Nat.{lt_of_lt_of_le, lt_of_le_of_lt, min-le_right}
use Rattle.std.proofs.lemmas.Bool.{lt-ltb, ltb-true, and_parts}
use Rattle.std.proofs.lemmas.Nat.{from_be_bytes-to_be_bytes_8}
use Rattle.std.specs.Option.{option_map}
use Rattle.module_api.specs.Behaviour.{State}
use Rattle.module_parts.specs.Numbers.{limit, next_number, number_of, state_of, read_number}

-- the number of its own bytes
pub number_of-state_of : (n : ℕ) → n < limit → number_of (state_of n) ≡ n
unfolding number_of state_of
number_of-state_of n h = from_be_bytes-to_be_bytes_8 n (lt_of_lt_of_le h (lit≤ tt))

-- the bytes of a small number are read as that number
pub read_number-state_of : (n : ℕ) → n < limit → read_number (state_of n) ≡ Some n
unfolding state_of read_number
read_number-state_of n h =
    let Reads : ℕ → Type 0 = λ k. (if (8 == 8) && nat_lt k limit then Some k else None) ≡ Some n in
    let small : IsTrue (nat_lt n limit) = lt-ltb n limit h in
    subst Reads (sym (number_of-state_of n h)) (ap (λ b. if b then Some n else None) small)

-- the same, of a module whose state has that number
pub number_reads_back : {S : Type 0} (with_number : ℕ → S) (n : ℕ) → n < limit
    → option_map with_number (read_number (state_of n)) ≡ Some (with_number n)
number_reads_back with_number n h = ap (option_map with_number) (read_number-state_of n h)

-- the next number is small
pub next_number-lt : (n : ℕ) → next_number n < limit
next_number-lt n = lt_of_le_of_lt (min-le_right (n + 1) (limit - 1)) (lit< tt)

small_by : (is_one : Bool) (n : ℕ) → (IsTrue is_one → n < limit)
    → IfSome (if is_one then Some n else None) (λ k. k < limit)
small_by true n small = small refl
small_by false n small = tt

-- what is read is small
pub read_number-small : (state : State) → IfSome (read_number state) (λ n. n < limit)
unfolding read_number
read_number-small state =
    small_by ((length state == 8) && nat_lt (number_of state) limit) (number_of state)
    (λ e. ltb-true (number_of state) limit
    (and_parts (length state == 8) (nat_lt (number_of state) limit) e).1)

one_by : {S : Type 0} (IsOne : S → Type 0) (with_number : ℕ → S)
    → ((n : ℕ) → n < limit → IsOne (with_number n)) →
    (read : Option ℕ) → IfSome read (λ n. n < limit) → IfSome (option_map with_number read) IsOne
one_by IsOne with_number all None small = tt
one_by IsOne with_number all (Some n) small = all n small

-- what is read as the number of a module's state is small, so that state is one
pub number_is_read : {S : Type 0} (IsOne : S → Type 0) (with_number : ℕ → S)
    → ((n : ℕ) → n < limit → IsOne (with_number n)) →
    (state : State) (s : S) → option_map with_number (read_number state) ≡ Some s → IsOne s
number_is_read IsOne with_number all state s e =
    subst (λ read. IfSome read IsOne) e
    (one_by IsOne with_number all (read_number state) (read_number-small state))
