-- A shift to the right rounds down.
use Rattle.std.proofs.Common.{◌≡◌, ℕ, suc, ◌+◌, ◌*◌, ◌/◌, ◌%◌, ◌^◌, ◌<◌, nat_lt, subst, Bool, true, false, cond, ℤ, pos, negsuc, neg_ℤ, ◌+ℤ◌, ◌*ℤ◌, ◌≤ℤ◌, ◌<ℤ◌, Ok, Err, arith}
use Rattle.std.proofs.Math.Nat.{div-add-mod', mod-lt, suc-mul}
use Rattle.std.proofs.lemmas.Int.{ints}
use Rattle.std.proofs.lemmas.Nat.{pow_pos}
use Rattle.std.specs.Int.Signed.{shr_z}
use Rattle.sim_values.specs.declared.value_fault.ValueFault.TheVariants.{Overflow}
use Rattle.param_eval.specs.Laws.{IsRoundedDown}

IsBetween : ℤ → ℕ → ℤ → Type 0
IsBetween a m q = ((q *ℤ pos m) ≤ℤ a) × (a <ℤ (q *ℤ pos m +ℤ pos m))

above : (n m y r : ℕ) → y + r ≡ n → r < m → (pos y ≤ℤ pos n) × (pos n <ℤ (pos y +ℤ pos m))
above n m y r e h = (omega (arith, ints), omega (arith, ints))

under : (n m y r x : ℕ) → y + r ≡ n → r < m → x ≡ y + m → (neg_ℤ (pos x) ≤ℤ negsuc n) × (negsuc n <ℤ (neg_ℤ (pos x) +ℤ pos m))
under n m y r x e h k = (omega (arith, ints), omega (arith, ints))

between : (a : ℤ) (m : ℕ) → 0 < m → IsBetween a m (shr_z a m)
unfolding IsBetween
between (pos n) m h = above n m (n / m * m) (n % m) (div-add-mod' n m) (mod-lt n h)
between (negsuc n) m h = under n m (n / m * m) (n % m) (suc (n / m) * m) (div-add-mod' n m) (mod-lt n h) (suc-mul (n / m) m)

of_test : (t : Bool) (z q : ℤ) → cond t (Ok z) (Err Overflow) ≡ Ok q → z ≡ q
of_test true z q h = cc
of_test false z q h = absurd cc

pub is_rounded_down : IsRoundedDown
unfolding IsBetween
is_rounded_down a (pos k) q h = subst (IsBetween a (2 ^ k)) (of_test (nat_lt k 64) (shr_z a (2 ^ k)) q h) (between a (2 ^ k) (pow_pos k))
is_rounded_down a (negsuc k) q h = absurd cc
