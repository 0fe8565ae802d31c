-- What references mean (OMNeT++ Simulation Manual, "Referencing Parameters").
use Rattle.std.specs.Prelude.{ℕ, ℤ, List, [], ◌∷◌, Option, Some, None, bytes_eq, if◌then◌else◌}
use Rattle.sim_values.specs.declared.value.Value.TheVariants as value
use Rattle.ned_trees.specs.declared.expressions.Scope.TheVariants as scope
use Rattle.param_eval.specs.References.{Reference, Own, Scoped, Member, Element, Index, ParentIndex}
use Rattle.param_eval.specs.References.{Sizeof, Exists, ExistsAt}
use Rattle.inside_keys.specs.declared.key.ChannelAt.{ChannelAt}
use Rattle.inside_keys.specs.declared.key.Module.{Module}
use Rattle.inside_keys.specs.declared.key.What.{What}
use Rattle.inside_keys.specs.declared.key.What.TheVariants as what
use Rattle.inside_keys.specs.declared.place.Meaning.{Meaning}
use Rattle.inside_keys.specs.declared.place.Meaning.TheVariants as meaning
use Rattle.inside_keys.specs.declared.place.Binding.{Binding}
use Rattle.inside_keys.specs.declared.place.ExpressionPlace.{ExpressionPlace}
use Rattle.inside_keys.specs.declared.place.Section.{Section}
use Rattle.inside_keys.specs.declared.place.Section.TheVariants as section
use Rattle.inside_keys.specs.Keys.{key}

-- whose names bare names, and names of submodules, are: in the type's sections the module's own, in
-- a body those of the module around, in the block of a channel those of the module that it is in
abbrev pub heard_in : Section → Module → Option Module → Option Module
heard_in section.OfParameters own around = Some own
heard_in section.OfInside own around = Some own
heard_in section.OfBody own around = around
heard_in section.OfBlock own around = Some own
heard_in section.OfChannel own around = None

abbrev pub hearer : ExpressionPlace → Option Module
hearer p = heard_in p.section p.own p.around

-- of whose gates and vectors `sizeof` tells; it means nothing in a type's own parameter section
abbrev pub sized_in : Section → Module → Option Module → Option Module
sized_in section.OfParameters own around = None
sized_in section.OfInside own around = Some own
sized_in section.OfBody own around = around
sized_in section.OfBlock own around = Some own
sized_in section.OfChannel own around = None

abbrev pub sizer : ExpressionPlace → Option Module
sizer p = sized_in p.section p.own p.around

-- something of a module, where there is one
abbrev pub of : Option Module → What → Meaning
of None w = meaning.Nothing
of (Some m) w = meaning.Of (key m w)

abbrev pub indexed : Option ℤ → Meaning
indexed None = meaning.Nothing
indexed (Some z) = meaning.Is (value.Whole z)

-- the own parameter of a channel in that module
abbrev pub of_channel : Module → Option ChannelAt → List ℕ → Meaning
of_channel own None x = meaning.Nothing
of_channel own (Some c) x = meaning.Of (key own (what.Channel c x))

-- a bare name: in a channel type's own section it is the channel's
abbrev pub bare_in : Section → ExpressionPlace → List ℕ → Meaning
bare_in section.OfParameters p x = of (hearer p) (what.Param x)
bare_in section.OfInside p x = of (hearer p) (what.Param x)
bare_in section.OfBody p x = of (hearer p) (what.Param x)
bare_in section.OfBlock p x = of (hearer p) (what.Param x)
bare_in section.OfChannel p x = of_channel p.own p.channel x

abbrev pub bare : ExpressionPlace → List ℕ → Meaning
bare p x = bare_in p.section p x

-- `this.x`: of the module itself, or of the channel
abbrev pub this_in : Section → ExpressionPlace → List ℕ → Meaning
this_in section.OfParameters p x = of (Some p.own) (what.Param x)
this_in section.OfInside p x = of (Some p.own) (what.Param x)
this_in section.OfBody p x = of (Some p.own) (what.Param x)
this_in section.OfBlock p x = of_channel p.own p.channel x
this_in section.OfChannel p x = of_channel p.own p.channel x

abbrev pub this : ExpressionPlace → List ℕ → Meaning
this p x = this_in p.section p x

-- `parent.x`: of the module around, or of the module that the channel is in
abbrev pub parent_in : Section → ExpressionPlace → List ℕ → Meaning
parent_in section.OfParameters p x = of p.around (what.Param x)
parent_in section.OfInside p x = of p.around (what.Param x)
parent_in section.OfBody p x = of p.around (what.Param x)
parent_in section.OfBlock p x = of (Some p.own) (what.Param x)
parent_in section.OfChannel p x = of (Some p.own) (what.Param x)

abbrev pub parent : ExpressionPlace → List ℕ → Meaning
parent p x = parent_in p.section p x

-- WHAT A REFERENCE MEANS in an expression that stands there. Each means one value, or one key, or
-- nothing.
abbrev pub meant : ExpressionPlace → Reference → Meaning
meant p (Own x) = bare p x
meant p (Scoped scope.This x) = this p x
meant p (Scoped scope.Parent x) = parent p x
meant p (Member sub x) = of (hearer p) (what.Member sub x)
meant p (Element sub k x) = of (hearer p) (what.Element sub k x)
meant p Index = indexed p.index
meant p ParentIndex = indexed p.around_index
meant p (Sizeof g) = of (sizer p) (what.Sizeof g)
meant p (Exists sub) = of (hearer p) (what.Exists sub)
meant p (ExistsAt sub k) = of (hearer p) (what.ExistsAt sub k)

-- ---- loop variables

-- the loop variables in scope, the innermost first
abbrev pub Scope : Type 0
Scope = List Binding

abbrev pub bind : List ℕ → ℤ → Scope → Scope
bind x z scope = record { variable = x; value = z } ∷ scope

abbrev pub variable_in : Scope → List ℕ → Option ℤ
variable_in [] x = None
variable_in (b ∷ scope) x = if bytes_eq b.variable x then Some b.value else variable_in scope x

abbrev pub bound_or : Option ℤ → Meaning → Meaning
bound_or None other = other
bound_or (Some z) other = meaning.Is (value.Whole z)

-- WHAT A REFERENCE MEANS UNDER LOOP VARIABLES: these hide parameters
abbrev pub meant_under : Scope → ExpressionPlace → Reference → Meaning
meant_under scope p (Own x) = bound_or (variable_in scope x) (meant p (Own x))
meant_under scope p r = meant p r
