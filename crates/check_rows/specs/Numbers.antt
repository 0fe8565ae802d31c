-- What the number of a key rests on.
use Rattle.std.specs.Prelude.{ℕ, ◌+◌, ◌^◌, ◌≡◌, true, nat_eq, nat_lt, if◌then◌else◌, List}
use Rattle.std.specs.Prelude.{slice_get, Option, Some, None, Ok, Err}
use Rattle.std.proofs.Common.{eqb-true}
use Rattle.param_following.specs.Asking.{Asking, Done, Ask}
use Rattle.param_engine.specs.Turns.{came_to}
use Rattle.param_engine.specs.declared.turn.EngineStep.{EngineStep}
use Rattle.param_engine.specs.declared.turn.EngineStep.TheVariants as turn
use Rattle.check_rows.specs.declared.numbers.Evaluation.{Evaluation}
use Rattle.check_rows.specs.declared.numbers.Evaluation.TheVariants as evaluation
use Rattle.check_rows.specs.declared.numbers.Fault.{Fault}
use Rattle.check_rows.specs.declared.numbers.Fault.TheVariants as fault
use Rattle.check_rows.specs.declared.numbers.Rule.{Rule}
use Rattle.check_rows.specs.declared.numbers.Rule.TheVariants as rule

abbrev pub Numbered : Type 0
Numbered = Asking ℕ ℕ Fault ℕ

-- the sum of two numbers below 2^64, if it is one too
abbrev pub sum : ℕ → ℕ → EngineStep ℕ ℕ Fault
sum x y = if nat_lt (x + y) (2 ^ 64) then turn.Done (x + y) else turn.Fault fault.Overflow

-- where no more is asked, the turn says it all
abbrev pub over : EngineStep ℕ ℕ Fault → Numbered
over end = came_to (λ v. Done (Ok v)) end

abbrev pub asked_by : Option Rule → Numbered
asked_by None = Done (Err fault.Missing)
asked_by (Some (rule.Number n)) = Done (Ok n)
asked_by (Some (rule.Next k)) = Ask k (λ v. over (sum v 1))
asked_by (Some (rule.Sum a b)) = Ask a (λ x. Ask b (λ y. over (sum x y)))
asked_by (Some rule.Broken) = Done (Err fault.Broken)

-- what the key of that number asks
abbrev pub asked_of : List Rule → ℕ → Numbered
asked_of rules k = asked_by (slice_get rules k)

abbrev pub goes_on : Evaluation → ℕ → Numbered
goes_on evaluation.Next v = over (sum v 1)
goes_on (evaluation.First k) v = Ask k.now (λ y. over (sum v y))
goes_on (evaluation.Second x) v = over (sum x v)
goes_on evaluation.Over v = Done (Ok v)

-- how often it asks from there
abbrev pub weight : Evaluation → ℕ
weight evaluation.Next = 0
weight (evaluation.First k) = 1
weight (evaluation.Second x) = 0
weight evaluation.Over = 0

pub same_is : (a b : ℕ) → nat_eq a b ≡ true → a ≡ b
same_is a b h = eqb-true a b h
