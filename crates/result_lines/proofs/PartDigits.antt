-- The digits of a part of a second up to the last that is not zero, and the number that has a one
-- before them.
use Rattle.std.proofs.Common.{◌≡◌, ◌≢◌, ℕ, zero, suc, ◌+◌, ◌*◌, ◌/◌, ◌%◌, ◌^◌, ◌<◌, List, [], ◌∷◌, ◌++◌, length, drop, set, refl, sym, ap, ◌∙◌, arith, append_assoc}
use Rattle.std.proofs.Math.Nat.{pow-succ', div-div-eq-div-mul}
use Rattle.std.proofs.lemmas.Bool.{ne_eqb}
use Rattle.std.proofs.lemmas.Fmt.{decimal_digit, decimal_step}
use Rattle.std.specs.Fmt.{decimal}
use Rattle.sim_time.proofs.DecimalLemmas.{ten_pos}
use Rattle.std.proofs.lemmas.List.{drop-set, drop-drop}
use Rattle.result_lines.specs.Fields.{field}
use Rattle.sim_time.specs.Text.{low_digits, before_digits, without_last_zeros, part_text}

last_digit : (k n : ℕ) → low_digits (suc k) n ≡ low_digits k (n / 10) ++ (48 + n % 10) ∷ []
last_digit zero n = let whole : n / 10 ^ 0 ≡ n = omega arith in rw whole refl
last_digit (suc k) n =
    let tens : 10 * 10 ^ k ≡ 10 ^ suc k = omega (arith, pow-succ' 10 k) in
    let first : n / 10 ^ suc k ≡ n / 10 / 10 ^ k = ap (λ d. n / d) (sym tens) ∙ sym (div-div-eq-div-mul n 10 (10 ^ k)) in
    ap (λ d. (48 + d % 10) ∷ low_digits (suc k) n) first ∙ ap (λ ds. (48 + n / 10 / 10 ^ k % 10) ∷ ds) (last_digit k n)

zero_behind : (ds : List ℕ) → without_last_zeros (ds ++ 48 ∷ []) ≡ without_last_zeros ds
zero_behind [] = refl
zero_behind (d ∷ ds) = ap (before_digits d) (zero_behind ds)

before_some : (c : ℕ) (ds : List ℕ) (d : ℕ) → before_digits c (ds ++ d ∷ []) ≡ c ∷ (ds ++ d ∷ [])
before_some c [] d = refl
before_some c (e ∷ ds) d = refl

other_behind : (ds : List ℕ) (d : ℕ) → d ≢ 48 → without_last_zeros (ds ++ d ∷ []) ≡ ds ++ d ∷ []
other_behind [] d ne = rw (ne_eqb d 48 ne) refl
other_behind (c ∷ ds) d ne = ap (before_digits c) (other_behind ds d ne) ∙ before_some c ds d

-- a one before so many digits makes one number of them
one_before : (k n : ℕ) → n < 10 ^ k → 10 ^ k + n < 2 ^ 64 → decimal (10 ^ k + n) ≡ 49 ∷ low_digits k n
one_before zero n h fits = let one : 10 ^ 0 + n ≡ 1 = omega arith in ap decimal one ∙ decimal_digit 1 (omega arith)
one_before (suc k) n h fits =
    let tens = pow-succ' 10 k in
    let high : (10 ^ suc k + n) / 10 ≡ 10 ^ k + n / 10 = omega (arith, tens) in
    let low : (10 ^ suc k + n) % 10 ≡ n % 10 = omega (arith, tens) in
    decimal_step (10 ^ suc k + n) (omega (arith, tens, ten_pos k)) fits
    ∙ ap (λ m. decimal m ++ (48 + (10 ^ suc k + n) % 10) ∷ []) high
    ∙ ap (λ d. decimal (10 ^ k + n / 10) ++ (48 + d) ∷ []) low
    ∙ ap (λ ds. ds ++ (48 + n % 10) ∷ []) (one_before k (n / 10) (omega (arith, tens)) (omega (arith, tens)))
    ∙ ap (λ ds. 49 ∷ ds) (sym (last_digit k n))

-- what is left of a part of a second and the one before it, when some of its last zeros are cut off
pub record IsLeft (part digits : ℕ) : Type 0 where
  pub places : ℕ
  pub rest : ℕ
  pub is : digits ≡ 10 ^ places + rest
  pub some : 0 < rest
  pub fits : rest < 10 ^ places
  pub told : without_last_zeros (low_digits places rest) ≡ without_last_zeros (low_digits 12 part)

pub whole_part : (part : ℕ) → 0 < part → part < 10 ^ 12 → IsLeft part (1000000000000 + part)
whole_part part some h = record { places = 12; rest = part; is = omega arith; some = some; fits = h; told = refl }

less : (part digits k rest : ℕ) → digits ≡ 10 ^ k + rest → 0 < rest → rest < 10 ^ k → without_last_zeros (low_digits k rest) ≡ without_last_zeros (low_digits 12 part)
    → digits % 10 ≡ 0 → IsLeft part (digits / 10)
less part digits zero rest is some fits told last = absurd (omega arith)
less part digits (suc k) rest is some fits told last =
    let tens = pow-succ' 10 k in
    let none : rest % 10 ≡ 0 = omega (arith, tens) in
    let cut : low_digits (suc k) rest ≡ low_digits k (rest / 10) ++ 48 ∷ [] = last_digit k rest ∙ ap (λ d. low_digits k (rest / 10) ++ (48 + d) ∷ []) none in
    record {
      places = k;
      rest = rest / 10;
      is = omega (arith, tens);
      some = omega (arith, none);
      fits = omega (arith, tens);
      told = sym (zero_behind (low_digits k (rest / 10))) ∙ ap without_last_zeros (sym cut) ∙ told;
    }

-- a last zero is cut off
pub zero_cut : (part digits : ℕ) → IsLeft part digits → digits % 10 ≡ 0 → IsLeft part (digits / 10)
zero_cut part digits w last = less part digits w.places w.rest w.is w.some w.fits w.told last

ends : (part digits k rest : ℕ) → digits ≡ 10 ^ k + rest → 0 < rest → rest < 10 ^ k → without_last_zeros (low_digits k rest) ≡ without_last_zeros (low_digits 12 part)
    → digits % 10 ≢ 0 → digits < 2 ^ 64 → decimal digits ≡ 49 ∷ without_last_zeros (low_digits 12 part)
ends part digits zero rest is some fits told last small = absurd (omega arith)
ends part digits (suc k) rest is some fits told last small =
    let tens = pow-succ' 10 k in
    let other : 48 + rest % 10 ≢ 48 = λ e. last (omega (arith, tens, is, e)) in
    let cut = last_digit k rest in
    ap decimal is ∙ one_before (suc k) rest fits (omega arith)
    ∙ ap (λ ds. 49 ∷ ds) (cut ∙ sym (other_behind (low_digits k (rest / 10)) (48 + rest % 10) other) ∙ ap without_last_zeros (sym cut) ∙ told)

-- no zero is left at its end
pub all_cut : (part digits : ℕ) → IsLeft part digits → digits % 10 ≢ 0 → digits < 2 ^ 64 → decimal digits ≡ 49 ∷ without_last_zeros (low_digits 12 part)
all_cut part digits w last small = ends part digits w.places w.rest w.is w.some w.fits w.told last small

-- the one is written over by the point
pub point_first : (line tail digits rest : List ℕ) (at : ℕ) → at < length line → drop at line ≡ digits ++ tail → digits ≡ 49 ∷ rest → drop at (set line at 46) ≡ 46 ∷ (rest ++ tail)
point_first line tail digits rest at within told is =
    drop-set line at 46 within ∙ ap (λ xs. 46 ∷ xs) (sym (drop-drop 1 at line) ∙ ap (drop 1) (told ∙ ap (λ ds. ds ++ tail) is))

pub part_shown : (part : ℕ) → 0 < part → 46 ∷ without_last_zeros (low_digits 12 part) ≡ part_text part
part_shown part some = let ne : part ≢ 0 = omega arith in rw (ne_eqb part 0 ne) refl

-- two texts and the byte that ends them
pub joined : (first second tail : List ℕ) (mark : ℕ) → first ++ (second ++ mark ∷ tail) ≡ field (first ++ second) mark ++ tail
joined first second tail mark = sym (append_assoc (first ++ second) (mark ∷ []) tail ∙ append_assoc first second (mark ∷ tail))
