-- An asking each of whose references has an answer comes to something.
use Rattle.std.proofs.Common.{◌≡◌, refl, Ok, Err, Some}
use Rattle.param_following.specs.Asking.{Done, Ask, with_value, outcome}
use Rattle.sim_values.specs.declared.value.Value.{Value}
use Rattle.param_eval.specs.Laws.{IsOutcome}
use Rattle.param_eval.specs.Operators.{Evaluated}
use Rattle.param_eval.specs.References.{Reference}
use Rattle.param_eval.specs.Values.{Valued, valued, with_result, answered}

module _ (meaning : Reference → Evaluated) where
  comes : (t : Valued) → outcome (λ r. Some (meaning r)) t ≡ Some (answered meaning t)
  comes (Done found) = refl
  comes (Ask r rest) = by (meaning r) (λ v. comes (rest v))
    where
      by : (m : Evaluated) → ((v : Value) → outcome (λ r. Some (meaning r)) (rest v) ≡ Some (answered meaning (rest v)))
          → with_value (Some m) (λ v. outcome (λ r. Some (meaning r)) (rest v)) ≡ Some (with_result m (λ v. answered meaning (rest v)))
      by (Ok v) later = later v
      by (Err e) later = refl

pub is_outcome : IsOutcome
is_outcome meaning e = comes meaning (valued e)
