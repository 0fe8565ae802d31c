-- What a quotient is.
use Rattle.std.proofs.Common.{◌≡◌, ◌≢◌, ℕ, zero, suc, ◌*◌, ◌/◌, ◌%◌, ◌<◌, refl, sym, ap, ◌∙◌, subst, Bool, true, false, cond, not, ◌||◌, ℤ, pos, negsuc, neg_ℤ, ◌+ℤ◌, ◌*ℤ◌, ◌≤ℤ◌, unsigned_abs, Ok, Err, arith}
use Rattle.std.proofs.Math.Nat.{zero-div, zero-mod, mul-mod_left, mul-div_cancel, zero-lt-suc}
use Rattle.std.specs.Prelude.{int_div, int_rem}
use Rattle.std.proofs.lemmas.Int.{quot-rem, rem_below, ints}
use Rattle.sim_values.specs.declared.value_fault.ValueFault.TheVariants.{Overflow, Inexact}
use Rattle.param_eval.specs.Laws.{IsExact, IsFound, IsLeft}
use Rattle.param_eval.specs.Wholes.{fits, bounded, is_zero}

zero_is : (z : ℤ) → is_zero z ≡ true → z ≡ pos 0
zero_is (pos zero) h = refl
zero_is (pos (suc n)) h = absurd cc
zero_is (negsuc n) h = absurd cc

bounded_is : (b : Bool) (z q : ℤ) → cond b (Ok z) (Err Overflow) ≡ Ok q → z ≡ q
bounded_is true z q h = cc
bounded_is false z q h = absurd cc

by : (y z : Bool) (a b q : ℤ) → (z ≡ true → int_div a b *ℤ b ≡ a) → cond (y || not z) (Err Inexact) (bounded (int_div a b)) ≡ Ok q → q *ℤ b ≡ a
by true z a b q whole h = absurd cc
by false false a b q whole h = absurd cc
by false true a b q whole h = ap (λ t. t *ℤ b) (sym (bounded_is (fits (int_div a b)) (int_div a b) q h)) ∙ whole refl

pub is_exact : IsExact
is_exact a b q h = by (is_zero b) (is_zero (int_rem a b)) a b q whole h
  where
    nothing : (r s t : ℤ) → r ≡ pos 0 → s +ℤ r ≡ t → s ≡ t
    nothing r s t e h = omega (arith, ints)

    whole : is_zero (int_rem a b) ≡ true → int_div a b *ℤ b ≡ a
    whole e = nothing (int_rem a b) (int_div a b *ℤ b) a (zero_is (int_rem a b) e) (quot-rem a b)

-- ---- what is some number times what is divided by

negated_rem : (x : ℕ) (d : ℤ) → x % unsigned_abs d ≡ 0 → int_rem (neg_ℤ (pos x)) d ≡ pos 0
negated_rem zero d h = ap (λ t. pos t) h
negated_rem (suc k) d h = ap (λ t. neg_ℤ (pos t)) h

negated_over_negative : (x n m : ℕ) → x / suc n ≡ m → int_div (neg_ℤ (pos x)) (negsuc n) ≡ pos m
negated_over_negative zero n m h = ap (λ t. neg_ℤ (pos t)) (zero-div (suc n)) ∙ ap (λ t. pos t) (sym (zero-div (suc n)) ∙ h)
negated_over_negative (suc k) n m h = ap (λ t. pos t) h

negated_over_positive : (x n m : ℕ) → x / suc n ≡ suc m → int_div (neg_ℤ (pos x)) (pos (suc n)) ≡ negsuc m
negated_over_positive zero n m h = absurd (omega (arith, sym (zero-div (suc n)) ∙ h))
negated_over_positive (suc k) n m h = ap (λ t. neg_ℤ (pos t)) h

times_rem : (q b : ℤ) → b ≢ pos 0 → int_rem (q *ℤ b) b ≡ pos 0
times_rem q (pos zero) h = absurd (h refl)
times_rem (pos m) (pos (suc n)) h = ap (λ t. pos t) (mul-mod_left m (suc n))
times_rem (negsuc m) (pos (suc n)) h = negated_rem (suc m * suc n) (pos (suc n)) (mul-mod_left (suc m) (suc n))
times_rem (pos m) (negsuc n) h = negated_rem (m * suc n) (negsuc n) (mul-mod_left m (suc n))
times_rem (negsuc m) (negsuc n) h = ap (λ t. pos t) (mul-mod_left (suc m) (suc n))

times_div : (q b : ℤ) → b ≢ pos 0 → int_div (q *ℤ b) b ≡ q
times_div q (pos zero) h = absurd (h refl)
times_div (pos m) (pos (suc n)) h = ap (λ t. pos t) (mul-div_cancel m (zero-lt-suc n))
times_div (negsuc m) (pos (suc n)) h = negated_over_positive (suc m * suc n) n m (mul-div_cancel (suc m) (zero-lt-suc n))
times_div (pos m) (negsuc n) h = negated_over_negative (m * suc n) n m (mul-div_cancel m (zero-lt-suc n))
times_div (negsuc m) (negsuc n) h = ap (λ t. neg_ℤ (pos t)) (mul-div_cancel (suc m) (zero-lt-suc n))

not_zero : (z : ℤ) → z ≢ pos 0 → is_zero z ≡ false
not_zero (pos zero) h = absurd (h refl)
not_zero (pos (suc n)) h = refl
not_zero (negsuc n) h = refl

found_by : (y z : Bool) (a b q : ℤ) → y ≡ false → z ≡ true → int_div a b ≡ q → cond (y || not z) (Err Inexact) (bounded (int_div a b)) ≡ bounded q
found_by true z a b q h k e = absurd cc
found_by false false a b q h k e = absurd cc
found_by false true a b q h k e = ap bounded e

pub is_found : IsFound
is_found a b q h e =
    found_by (is_zero b) (is_zero (int_rem a b)) a b q (not_zero b h)
    (ap (λ t. is_zero (int_rem t b)) (sym e) ∙ ap is_zero (times_rem q b h))
    (ap (λ t. int_div t b) (sym e) ∙ times_div q b h)

-- ---- what is left

left_is : (y : Bool) (z r : ℤ) → cond y (Err Inexact) (Ok z) ≡ Ok r → (y ≡ false) × (z ≡ r)
left_is true z r h = absurd cc
left_is false z r h = (refl, cc)

is_positive_abs : (z : ℤ) → is_zero z ≡ false → 0 < unsigned_abs z
is_positive_abs (pos zero) h = absurd cc
is_positive_abs (pos (suc n)) h = omega arith
is_positive_abs (negsuc n) h = omega arith

above_zero : (n : ℕ) → pos 0 ≤ℤ pos n
above_zero n = omega (arith, ints)

below_zero : (n : ℕ) → neg_ℤ (pos n) ≤ℤ pos 0
below_zero zero = omega (arith, ints)
below_zero (suc n) = omega (arith, ints)

rem_above : (a d : ℤ) → pos 0 ≤ℤ a → pos 0 ≤ℤ int_rem a d
rem_above (pos n) d h = above_zero (n % unsigned_abs d)
rem_above (negsuc n) d h = absurd (omega (arith, ints, h))

rem_under : (a d : ℤ) → a ≤ℤ pos 0 → 0 < unsigned_abs d → int_rem a d ≤ℤ pos 0
rem_under (pos zero) d h k = subst (λ t. pos t ≤ℤ pos 0) (sym (zero-mod (unsigned_abs d))) (below_zero 0)
rem_under (pos (suc n)) d h k = absurd (omega (arith, ints, h))
rem_under (negsuc n) d h k = below_zero (suc n % unsigned_abs d)

pub is_left : IsLeft
is_left a b r h =
    let found = left_is (is_zero b) (int_rem a b) r h in
    let wide = is_positive_abs b found.0 in
    subst (λ t. ((q : ℤ) × (q *ℤ b +ℤ t ≡ a)) × (unsigned_abs t < unsigned_abs b) × (pos 0 ≤ℤ a → pos 0 ≤ℤ t) × (a ≤ℤ pos 0 → t ≤ℤ pos 0)) found.1
    ((int_div a b, quot-rem a b), rem_below a b wide, rem_above a b, λ k. rem_under a b k wide)
