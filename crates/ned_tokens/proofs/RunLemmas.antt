-- Runs of a class, and the values of digits.
use Rattle.std.proofs.Common.{◌≡◌, ℕ, zero, suc, ◌+◌, ◌*◌, ◌^◌, ◌<◌, ◌≤◌, Bool, true, false, cond, ltb, None, subst, [], ◌∷◌, ◌++◌, length, take, drop, get_or, refl, sym, ap, ◌∙◌, arith, add-one}
use Rattle.std.proofs.lemmas.List.{append-nil}
use Rattle.std.proofs.lemmas.Bool.{le-ltb}
use Rattle.std.proofs.Math.Nat.{mul-le-mul_left}
use Rattle.ned_tokens.specs.declared.runs.Class.{Class}
use Rattle.ned_tokens.specs.declared.runs.Class.TheVariants as class
use Rattle.ned_tokens.specs.Runs.{Bytes, is_in, run, behind, begins}
use Rattle.ned_tokens.specs.Digits.{base_of, digit_of, value_from, value_of, below_limit}

-- the run of a class, of which i bytes were seen
pub record IsRunSoFar (c : Class) (bs : Bytes) (i : ℕ) : Type 0 where
  pub run_is : run c bs ≡ take i bs ++ run c (drop i bs)
  pub behind_is : behind c bs ≡ behind c (drop i bs)

pub run_begins : (c : Class) (bs : Bytes) → IsRunSoFar c bs 0
run_begins c bs = record { run_is = refl; behind_is = refl }

step_run : (c : Class) (bs : Bytes) (i : ℕ) → i < length bs → is_in c (get_or bs i 0) ≡ true → take i bs ++ run c (drop i bs) ≡ take (suc i) bs ++ run c (drop (suc i) bs)
step_run c [] i h e = absurd (omega (arith, h))
step_run c (b ∷ bs) zero h e = rw e refl
step_run c (b ∷ bs) (suc i) h e = ap (λ (l : Bytes). b ∷ l) (step_run c bs i (omega (arith, h)) e)

step_behind : (c : Class) (bs : Bytes) (i : ℕ) → i < length bs → is_in c (get_or bs i 0) ≡ true → behind c (drop i bs) ≡ behind c (drop (suc i) bs)
step_behind c [] i h e = absurd (omega (arith, h))
step_behind c (b ∷ bs) zero h e = rw e refl
step_behind c (b ∷ bs) (suc i) h e = step_behind c bs i (omega (arith, h)) e

pub run_goes_on : (c : Class) (bs : Bytes) (i : ℕ) → i < length bs → is_in c (get_or bs i 0) ≡ true → IsRunSoFar c bs i → IsRunSoFar c bs (i + 1)
run_goes_on c bs i h e so_far = rw add-one (record { run_is = so_far.run_is ∙ step_run c bs i h e; behind_is = so_far.behind_is ∙ step_behind c bs i h e })

over_run : (c : Class) (bs : Bytes) (i : ℕ) → is_in c (get_or bs i 0) ≡ false → run c (drop i bs) ≡ []
over_run c [] zero e = refl
over_run c [] (suc i) e = refl
over_run c (b ∷ bs) zero e = rw e refl
over_run c (b ∷ bs) (suc i) e = over_run c bs i e

over_behind : (c : Class) (bs : Bytes) (i : ℕ) → is_in c (get_or bs i 0) ≡ false → behind c (drop i bs) ≡ drop i bs
over_behind c [] zero e = refl
over_behind c [] (suc i) e = refl
over_behind c (b ∷ bs) zero e = rw e refl
over_behind c (b ∷ bs) (suc i) e = over_behind c bs i e

past_run : (c : Class) (bs : Bytes) (i : ℕ) → length bs ≤ i → run c (drop i bs) ≡ []
past_run c [] zero h = refl
past_run c [] (suc i) h = refl
past_run c (b ∷ bs) zero h = absurd (omega (arith, h))
past_run c (b ∷ bs) (suc i) h = past_run c bs i (omega (arith, h))

past_behind : (c : Class) (bs : Bytes) (i : ℕ) → length bs ≤ i → behind c (drop i bs) ≡ drop i bs
past_behind c [] zero h = refl
past_behind c [] (suc i) h = refl
past_behind c (b ∷ bs) zero h = absurd (omega (arith, h))
past_behind c (b ∷ bs) (suc i) h = past_behind c bs i (omega (arith, h))

pub record IsRun (c : Class) (bs : Bytes) (i : ℕ) : Type 0 where
  pub run_is : take i bs ≡ run c bs
  pub behind_is : drop i bs ≡ behind c bs

pub run_ends : (c : Class) (bs : Bytes) (i : ℕ) → IsRunSoFar c bs i → is_in c (get_or bs i 0) ≡ false → IsRun c bs i
run_ends c bs i so_far e = record { run_is = sym (so_far.run_is ∙ ap (λ (l : Bytes). take i bs ++ l) (over_run c bs i e) ∙ append-nil (take i bs)); behind_is = sym (so_far.behind_is ∙ over_behind c bs i e) }

pub run_all : (c : Class) (bs : Bytes) (i : ℕ) → IsRunSoFar c bs i → length bs ≤ i → IsRun c bs i
run_all c bs i so_far h = record { run_is = sym (so_far.run_is ∙ ap (λ (l : Bytes). take i bs ++ l) (past_run c bs i h) ∙ append-nil (take i bs)); behind_is = sym (so_far.behind_is ∙ past_behind c bs i h) }

pub behind_length : (c : Class) (bs : Bytes) → length (behind c bs) ≤ length bs
behind_length c [] = omega arith
behind_length c (b ∷ bs) = go (is_in c b) (behind_length c bs)
  where
    go : (t : Bool) → length (behind c bs) ≤ length bs → length (cond t (behind c bs) (b ∷ bs)) ≤ suc (length bs)
    go true h = omega (arith, h)
    go false h = omega arith

pub behind_shorter : (c : Class) (bs : Bytes) → begins c bs ≡ true → length (behind c bs) < length bs
behind_shorter c [] e = absurd cc
behind_shorter c (b ∷ bs) e = rw e (omega (arith, behind_length c bs))

-- ---- numbers

pub base_some : (c : Class) → 1 ≤ base_of c
base_some class.Hex = omega arith
base_some _ = omega arith

pub grows : (base n : ℕ) (ds : Bytes) → 1 ≤ base → n ≤ value_from base n ds
grows base n [] h = omega arith
grows base n (d ∷ ds) h = let more : n * 1 ≤ n * base = mul-le-mul_left n h in omega (arith, more, grows base (n * base + digit_of d) ds h)

pub too_large : (base n d : ℕ) (ds : Bytes) (limit : ℕ) → 1 ≤ base → limit ≤ n * base + digit_of d → ltb (value_from base n (d ∷ ds)) limit ≡ false
too_large base n d ds limit h k = le-ltb (value_from base (n * base + digit_of d) ds) limit (omega (arith, grows base (n * base + digit_of d) ds h, k))

-- digits whose value is known to be too large before the last of them
pub value_stops : (c : Class) (base value : ℕ) (ds digits : Bytes) → base ≡ base_of c → 1 ≤ length ds → 2 ^ 63 ≤ value * base + digit_of (get_or ds 0 0) → value_from (base_of c) value ds ≡ value_from (base_of c) 0 digits → None ≡ below_limit (value_of c digits)
value_stops c base value [] digits eb h k so_far = absurd (omega (arith, h))
value_stops c base value (d ∷ ds) digits eb h k so_far =
    let large : ltb (value_of c digits) (2 ^ 63) ≡ false = ap (λ (n : ℕ). ltb n (2 ^ 63)) (sym so_far) ∙ too_large (base_of c) value d ds (2 ^ 63) (base_some c) (subst (λ (b : ℕ). 2 ^ 63 ≤ value * b + digit_of d) eb k) in
    rw large refl
