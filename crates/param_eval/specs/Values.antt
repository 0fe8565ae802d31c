-- The value of an expression: what it asks, and what it makes of the answers (OMNeT++ Simulation
-- Manual, "NED Language", expressions).
use Rattle.std.specs.Prelude.{ℤ, true, false, Option, Some, None, Ok, Err}
use Rattle.param_following.specs.Asking.{Asking, Done, Ask, ◌>>=◌}
use Rattle.sim_values.specs.declared.value.Value.{Value}
use Rattle.sim_values.specs.declared.value.Value.TheVariants as value
use Rattle.ned_trees.specs.declared.expressions.Expression.{Expression, fold-Expression}
use Rattle.ned_trees.specs.declared.expressions.Expression.TheOpen.{Expression-F}
use Rattle.sim_values.specs.declared.value_fault.ValueFault.{ValueFault}
use Rattle.sim_values.specs.declared.value_fault.ValueFault.TheVariants.{Mismatch}
use Rattle.param_eval.specs.Operators.{Evaluated, applied, decided, signed, chosen}
use Rattle.param_eval.specs.References.{Reference, Own, Scoped, Member, Element, Index, ParentIndex}
use Rattle.param_eval.specs.References.{Sizeof, Exists, ExistsAt}

-- an asking that ends in a value
abbrev pub Valued : Type 0
Valued = Asking Reference Value ValueFault Value

-- the value of what is referred to
abbrev pub asked : Reference → Valued
asked r = Ask r (λ v. Done (Ok v))

-- the reference with this index
abbrev pub indexed : (ℤ → Reference) → Value → Valued
indexed r (value.Whole k) = asked (r k)
indexed r _ = Done (Err Mismatch)

-- what is decided already, or else the other
abbrev pub unless : Option Evaluated → Valued → Valued
unless (Some found) other = Done found
unless None other = other

-- only the one that is chosen is evaluated
abbrev pub branched : Value → Valued → Valued → Valued
branched (value.Truth true) a b = a
branched (value.Truth false) a b = b
branched _ a b = Done (Err Mismatch)

-- by the values of the parts, from the left; the first fault is the fault of all
abbrev pub valued_by : Expression-F Valued → Valued
valued_by (Expression-F.Literal v) = Done (Ok v)
valued_by (Expression-F.Name x) = asked (Own x)
valued_by (Expression-F.Scoped s x) = asked (Scoped s x)
valued_by (Expression-F.Member x y) = asked (Member x y)
valued_by (Expression-F.Element x e y) = e >>= indexed (λ k. Element x k y)
valued_by Expression-F.Index = asked Index
valued_by Expression-F.IndexCall = asked Index
valued_by Expression-F.ParentIndex = asked ParentIndex
valued_by (Expression-F.Sizeof x) = asked (Sizeof x)
valued_by (Expression-F.Exists x) = asked (Exists x)
valued_by (Expression-F.ExistsAt x e) = e >>= indexed (λ k. ExistsAt x k)
valued_by (Expression-F.Chosen c a b) = a >>= λ x. b >>= λ y. Done (chosen c x y)
valued_by (Expression-F.Group e) = e
valued_by (Expression-F.Signed s e) = e >>= λ x. Done (signed s x)
valued_by (Expression-F.Binary o a b) =
    a >>= λ x. unless (decided o x) (b >>= λ y. Done (applied o x y))
valued_by (Expression-F.Conditional c a b) = c >>= λ x. branched x a b

-- WHAT AN EXPRESSION ASKS, and its value by the answers
abbrev pub valued : Expression → Valued
valued = fold-Expression Valued valued_by

-- with a value; a fault is passed on
abbrev pub with_result : Evaluated → (Value → Evaluated) → Evaluated
with_result (Ok v) f = f v
with_result (Err e) f = Err e

-- what comes of an asking where its references mean this
abbrev pub answered : (Reference → Evaluated) → Valued → Evaluated
answered meaning (Done found) = found
answered meaning (Ask r rest) = with_result (meaning r) (λ v. answered meaning (rest v))

-- THE VALUE OF AN EXPRESSION where its references mean this, or its fault
abbrev pub value_in : (Reference → Evaluated) → Expression → Evaluated
value_in meaning e = answered meaning (valued e)
