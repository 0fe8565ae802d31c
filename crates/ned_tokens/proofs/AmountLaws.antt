-- The digits after the point say exactly what they spell.
use Rattle.std.proofs.Common.{◌≡◌, ℕ, suc, ◌+◌, ◌-◌, ◌*◌, ◌/◌, ◌%◌, ◌^◌, ◌<◌, ◌≤◌, Bool, true, false, cond, eqb, [], ◌∷◌, length, Option, Some, None, ◌⊎◌, inl, inr, refl, ap, arith}
use Rattle.std.proofs.lemmas.Bool.{eqb-true, cases_lt}
use Rattle.std.proofs.Math.Nat.{mul-le-mul_left, pow-suc, one-le-pow}
use Rattle.ned_tokens.specs.Runs.{Bytes}
use Rattle.ned_tokens.specs.Digits.{digit_of, value_from}
use Rattle.ned_tokens.specs.Quantities.{and_then, tenth, part_of}

-- what stands in front counts once for each place after it
value_split : (n : ℕ) (ds : Bytes) → value_from 10 n ds ≡ n * 10 ^ length ds + value_from 10 0 ds
value_split n [] = omega arith
value_split n (d ∷ ds) =
    let front = value_split (n * 10 + digit_of d) ds in
    let behind = value_split (0 * 10 + digit_of d) ds in
    let more : n * 10 ^ suc (length ds) ≡ n * (10 ^ length ds * 10) = ap (λ (q : ℕ). n * q) (pow-suc 10 (length ds)) in
    omega (arith, front, behind, more)

tenth_is : (n p : ℕ) → tenth n ≡ Some p → n ≡ 10 * p
tenth_is n p e = go (eqb (n % 10) 0) refl e
  where
    go : (b : Bool) → eqb (n % 10) 0 ≡ b → cond b (Some (n / 10)) None ≡ Some p → n ≡ 10 * p
    go true eb h = let whole : n % 10 ≡ 0 = eqb-true (n % 10) 0 eb in let same : n / 10 ≡ p = cc in omega (arith, whole, same)
    go false eb h = absurd cc

tenth_of : (n p : ℕ) → n ≡ 10 * p → tenth n ≡ Some p
tenth_of n p e = let whole : n % 10 ≡ 0 = omega (arith, e) in let same : n / 10 ≡ p = omega (arith, e) in rw (whole, same) refl

-- the value of digits of which d is the first
value_first : (d : ℕ) (ds : Bytes) → value_from 10 0 (d ∷ ds) ≡ digit_of d * 10 ^ length ds + value_from 10 0 ds
value_first d ds = omega (arith, value_split (0 * 10 + digit_of d) ds)

pub part_spells : (factor : ℕ) (ds : Bytes) (p : ℕ) → part_of factor ds ≡ Some p → p * 10 ^ length ds ≡ value_from 10 0 ds * factor
part_spells factor [] p e = let same : 0 ≡ p = cc in omega (arith, same)
part_spells factor (d ∷ ds) p e = go (part_of factor ds) refl (part_spells factor ds) e
  where
    go : (o : Option ℕ) → part_of factor ds ≡ o → ((q : ℕ) → part_of factor ds ≡ Some q → q * 10 ^ length ds ≡ value_from 10 0 ds * factor) → and_then o (λ q. tenth (q + digit_of d * factor)) ≡ Some p → p * 10 ^ suc (length ds) ≡ value_from 10 0 (d ∷ ds) * factor
    go None eo spells h = absurd cc
    go (Some q) eo spells h =
        let ih = spells q eo in
        let ten : (q + digit_of d * factor) * 10 ^ length ds ≡ (10 * p) * 10 ^ length ds = ap (λ (n : ℕ). n * 10 ^ length ds) (tenth_is (q + digit_of d * factor) p h) in
        let more : p * 10 ^ suc (length ds) ≡ p * (10 ^ length ds * 10) = ap (λ (n : ℕ). p * n) (pow-suc 10 (length ds)) in
        let value : value_from 10 0 (d ∷ ds) * factor ≡ (digit_of d * 10 ^ length ds + value_from 10 0 ds) * factor = ap (λ (n : ℕ). n * factor) (value_first d ds) in
        omega (arith, ih, ten, more, value)

-- ten times p is at least what the first digit says
first_fits : (a b c k : ℕ) → (10 * a) * k ≡ b * k + c → 1 ≤ k → b ≤ 10 * a
first_fits a b c k e h = go (cases_lt (10 * a) b)
  where
    go : (10 * a < b) ⊎ (b ≤ 10 * a) → b ≤ 10 * a
    go (inl lt) = let more : k * (10 * a + 1) ≤ k * b = mul-le-mul_left k (omega (arith, lt)) in absurd (omega (arith, more, e, h))
    go (inr le) = le

pub part_exists : (factor : ℕ) (ds : Bytes) (p : ℕ) → p * 10 ^ length ds ≡ value_from 10 0 ds * factor → part_of factor ds ≡ Some p
part_exists factor [] p e = let same : 0 ≡ p = omega (arith, e) in ap (λ (n : ℕ). Some n) same
part_exists factor (d ∷ ds) p e =
    let places = 10 ^ length ds in
    let more : p * 10 ^ suc (length ds) ≡ p * (places * 10) = ap (λ (n : ℕ). p * n) (pow-suc 10 (length ds)) in
    let value : value_from 10 0 (d ∷ ds) * factor ≡ (digit_of d * places + value_from 10 0 ds) * factor = ap (λ (n : ℕ). n * factor) (value_first d ds) in
    let whole : (10 * p) * places ≡ (digit_of d * factor) * places + value_from 10 0 ds * factor = omega (arith, e, more, value) in
    let some : 1 ≤ places = one-le-pow (length ds) 10 (omega arith) in
    let fits = first_fits p (digit_of d * factor) (value_from 10 0 ds * factor) places whole some in
    let q = 10 * p - digit_of d * factor in
    let sum : q + digit_of d * factor ≡ 10 * p = omega (arith, fits) in
    let left : (q + digit_of d * factor) * places ≡ (10 * p) * places = ap (λ (n : ℕ). n * places) sum in
    let ih = part_exists factor ds q (omega (arith, left, whole)) in
    rw ih (tenth_of (q + digit_of d * factor) p sum)
