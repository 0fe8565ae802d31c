-- Powers whose exponent is above 63.
use Rattle.std.proofs.Common.{◌≡◌, ◌≢◌, ℕ, zero, suc, ◌*◌, ◌^◌, ◌%◌, ◌<◌, ◌≤◌, ◌==◌, Bool, true, false, cond, ℤ, pos, negsuc, neg_ℤ, unsigned_abs, refl, ap, ◌∙◌, arith, Ok, Err}
use Rattle.std.proofs.Math.Nat.{pow-zero, pow-suc, pow-le-pow_left, mul-zero}
use Rattle.std.proofs.Math.Pow.{pow-lt}
use Rattle.std.specs.Int.{int_pow}
use Rattle.param_eval.specs.Wholes.{bounded}
use Rattle.sim_values.specs.declared.value_fault.ValueFault.TheVariants.{Overflow}

zero_pow : (e : ℕ) → 63 < e → 0 ^ e ≡ 0
zero_pow zero h = absurd (omega (arith, h))
zero_pow (suc n) h = pow-suc 0 n ∙ mul-zero (0 ^ n)

one_pow : (e : ℕ) → 1 ^ e ≡ 1
one_pow zero = pow-zero 1
one_pow (suc n) = pow-suc 1 n ∙ ap (λ x. x * 1) (one_pow n)

great_pow : (a e : ℕ) → 63 < e → 1 < a → 2 ^ 63 < a ^ e
great_pow a e h k = omega (arith, pow-lt h, pow-le-pow_left {n = 2} {m = a} (omega (arith, k)) e)

above : (n : ℕ) → 2 ^ 63 ≤ n → bounded (pos n) ≡ Err Overflow
above n h = grind arith

below : (n : ℕ) → 2 ^ 63 < n → bounded (neg_ℤ (pos n)) ≡ Err Overflow
below zero h = absurd (omega (arith, h))
below (suc n) h = grind arith

of_signs : (b : Bool) (n : ℕ) → 2 ^ 63 < n → bounded (cond b (pos n) (neg_ℤ (pos n))) ≡ Err Overflow
of_signs true n h = above n (omega (arith, h))
of_signs false n h = below n h

pub zero_to : (e : ℕ) → 63 < e → bounded (int_pow (pos 0) e) ≡ Ok (pos 0)
zero_to e h = ap (λ n. bounded (pos n)) (zero_pow e h)

pub one_to : (e : ℕ) → bounded (int_pow (pos 1) e) ≡ Ok (pos 1)
one_to e = ap (λ n. bounded (pos n)) (one_pow e)

by_parity : (b : Bool) (e : ℕ) → (e % 2 == 0) ≡ b → bounded (int_pow (negsuc 0) e) ≡ Ok (cond b (pos 1) (negsuc 0))
by_parity b e h = ap (λ t. bounded (cond t (pos (1 ^ e)) (neg_ℤ (pos (1 ^ e))))) h ∙ ap (λ n. bounded (cond b (pos n) (neg_ℤ (pos n)))) (one_pow e) ∙ both b
  where
    both : (b : Bool) → bounded (cond b (pos 1) (neg_ℤ (pos 1))) ≡ Ok (cond b (pos 1) (negsuc 0))
    both true = refl
    both false = refl

pub minus_to_even : (e : ℕ) → (e % 2 == 0) ≡ true → bounded (int_pow (negsuc 0) e) ≡ Ok (pos 1)
minus_to_even e h = by_parity true e h

pub minus_to_odd : (e : ℕ) → (e % 2 == 0) ≡ false → bounded (int_pow (negsuc 0) e) ≡ Ok (negsuc 0)
minus_to_odd e h = by_parity false e h

pub great_to : (a : ℤ) (e : ℕ) → 63 < e → 1 < unsigned_abs a → bounded (int_pow a e) ≡ Err Overflow
great_to (pos a) e h k = above (a ^ e) (omega (arith, great_pow a e h k))
great_to (negsuc a) e h k = of_signs (e % 2 == 0) (suc a ^ e) (great_pow (suc a) e h k)

pub not_small : (a : ℤ) → a ≢ pos 0 → a ≢ pos 1 → a ≢ negsuc 0 → 1 < unsigned_abs a
not_small (pos zero) h k l = absurd (h refl)
not_small (pos (suc zero)) h k l = absurd (k refl)
not_small (pos (suc (suc n))) h k l = omega arith
not_small (negsuc zero) h k l = absurd (l refl)
not_small (negsuc (suc n)) h k l = omega arith
