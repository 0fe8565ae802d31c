-- Times of messages that are sent.
use Rattle.std.proofs.Common.{◌≡◌, ℕ, ◌+◌, ◌≤◌, Bool, true, false, Option, Some, None, refl, arith, if◌then◌else◌}
use Rattle.std.specs.Option.{option_and_then}
use Rattle.sim_time.specs.Time.{time_sum}
use Rattle.module_api.specs.declared.reply.Flight.{Flight}
use Rattle.run_semantics.specs.Perform.{flight_end}

-- ---- times

-- by whether the sum is a time
sum_by : (c : Bool) (n a time : ℕ) → a ≤ n → (if c then Some n else None) ≡ Some time → a ≤ time
sum_by true n a time l e = let same : n ≡ time = cc in omega (arith, l, same)
sum_by false n a time l e = cc

-- a sum of times is no less than the first
pub sum_is_after : (a b time : ℕ) → time_sum a b ≡ Some time → a ≤ time
sum_is_after a b time e = sum_by _ (a + b) a time (omega arith) e

flight_by : (clock : ℕ) (f : Flight) (first : Option ℕ) (time : ℕ) → time_sum clock f.delay ≡ first → option_and_then (λ t. time_sum t f.duration) first ≡ Some time → clock ≤ time
flight_by clock f None time e h = cc
flight_by clock f (Some t) time e h =
    let one = sum_is_after clock f.delay t e in
    let two = sum_is_after t f.duration time h in
    omega (arith, one, two)

-- a message that goes directly to a gate is there no earlier than now
pub flight_later : (clock : ℕ) (f : Flight) (time : ℕ) → flight_end clock f ≡ Some time → clock ≤ time
flight_later clock f time h = flight_by clock f (time_sum clock f.delay) time refl h
