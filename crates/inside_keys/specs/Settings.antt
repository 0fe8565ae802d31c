-- What values rest on.
use Rattle.std.specs.Prelude.{ℕ, ℤ, Bool, List, Option, Some, None, if◌then◌else◌, map}
use Rattle.ini_trees.specs.declared.entry.EntryValue.{EntryValue}
use Rattle.ned_trees.specs.declared.declarations.TypeDeclaration.{TypeDeclaration}
use Rattle.ned_trees.specs.declared.expressions.Expression.{Expression}
use Rattle.inside_parts.specs.declared.gates.TypeGates.{TypeGates}
use Rattle.inside_parts.specs.Gates as gates
use Rattle.inside_keys.specs.declared.check.Check.{Check}
use Rattle.inside_keys.specs.declared.key.ChannelAt.{ChannelAt}
use Rattle.inside_keys.specs.declared.key.Module.{Module}
use Rattle.inside_keys.specs.declared.place.ExpressionPlace.{ExpressionPlace}
use Rattle.inside_keys.specs.declared.place.Section.{Section}
use Rattle.inside_keys.specs.declared.place.Section.TheVariants as section_at
use Rattle.inside_keys.specs.declared.planned.Planned.{Planned}
use Rattle.inside_keys.specs.Places.{Scope}

-- where a module stands: the module around it, none around the network; its name, and its index
-- where it is an element of a vector; and whether it is what the type of that module declares under
-- that name, or was created while the model ran
pub record Whereabouts : Type 0 where
  pub around : Option Module
  pub name : List ℕ
  pub index : Option ℤ
  pub is_declared : Bool

-- ALL THAT VALUES REST ON: where each module stands; the number of the type of the network; what a
-- module was created as, where it was created while the model ran; whether a module is nested too
-- deep; what the first entry of the ini text says that matches the full path of a parameter; and
-- the flat types
pub record ModuleRules : Type 0 where
  pub stands : Module → Whereabouts
  pub root : Module → Option ℕ
  pub planned : Module → Option Planned
  pub is_too_deep : Module → Bool
  pub entry : List ℕ → Option EntryValue
  pub types : List TypeDeclaration

-- the names of the types
abbrev pub type_names : ModuleRules → List (List ℕ)
type_names s = map (λ (t : TypeDeclaration). t.name) s.types

-- the gates of each type
abbrev pub type_gates : ModuleRules → List TypeGates
type_gates s = map (λ (t : TypeDeclaration). gates.gates_of t.gates) s.types

-- the module whose type declares that one
abbrev pub declarer_of : Whereabouts → Option Module
declarer_of t = if t.is_declared then t.around else None

abbrev pub declarer : ModuleRules → Module → Option Module
declarer s m = declarer_of (s.stands m)

abbrev pub index_at : ModuleRules → Option Module → Option ℤ
index_at s None = None
index_at s (Some m) = (s.stands m).index

-- where an expression stands that says something of a module in that section
abbrev pub place_in : ModuleRules → Module → Section → ExpressionPlace
place_in s m section = record {
  own = m;
  around = (s.stands m).around;
  section = section;
  index = (s.stands m).index;
  around_index = index_at s (s.stands m).around;
  channel = None;
}

-- the same place, where `index` is that
abbrev pub with_index : ExpressionPlace → Option ℤ → ExpressionPlace
with_index p index = record {
  own = p.own;
  around = p.around;
  section = p.section;
  index = index;
  around_index = p.around_index;
  channel = p.channel;
}

-- and one that names the type of a submodule of the module around: it has its value once for each
-- element of a vector, so `index` is the submodule's own there; all else means what it means in the
-- type of the module around
abbrev pub choice_place : ModuleRules → Module → Module → ExpressionPlace
choice_place s m around = with_index (place_in s around section_at.OfInside) (s.stands m).index

-- and one that says something of a channel in a module
abbrev pub channel_place : ModuleRules → Module → ChannelAt → Section → ExpressionPlace
channel_place s m c section = record {
  own = m;
  around = (s.stands m).around;
  section = section;
  index = None;
  around_index = (s.stands m).index;
  channel = Some c;
}

-- an expression that gives a value: where it stands, under which loop variables, and what its value
-- has to be
pub record Posed : Type 0 where
  pub expression : Expression
  pub place : ExpressionPlace
  pub variables : Scope
  pub check : Check
