-- The submodules that an inside has.
use Rattle.std.specs.Prelude.{ℕ, List, [], ◌∷◌, Option, Some, None, map, slice_get}
use Rattle.std.specs.Option.{option_and_then}
use Rattle.ned_trees.specs.declared.declarations.Submodule.{Submodule}
use Rattle.ned_trees.specs.declared.declarations.TypeDeclaration.{TypeDeclaration}
use Rattle.ned_trees.specs.declared.declarations.TypeKind.{TypeKind}
use Rattle.ned_trees.specs.declared.declarations.TypeKind.TheVariants.{Simple, Module, Network}
use Rattle.ned_trees.specs.declared.declarations.TypeKind.TheVariants.{Channel, ModuleInterface}
use Rattle.ned_trees.specs.declared.declarations.TypeKind.TheVariants.{ChannelInterface}
use Rattle.ned_types.specs.Flat.{class_of}
use Rattle.inside_parts.specs.declared.parts.Part.{Part}
use Rattle.model_questions.specs.declared.answer.Built.{Built}

abbrev pub class_by : TypeKind → List ℕ → Option (List ℕ)
class_by Simple class = Some class
class_by Module class = None
class_by Network class = None
class_by Channel class = None
class_by ModuleInterface class = None
class_by ChannelInterface class = None

-- the class that a module of the type has, none for a compound module
abbrev pub class_to_build : TypeDeclaration → Option (List ℕ)
class_to_build t = class_by t.kind (class_of t)

abbrev pub name_of_line : Option Submodule → List ℕ
name_of_line None = []
name_of_line (Some l) = l.name

-- the name of a part, where these submodules are declared
abbrev pub name_of_part : List Submodule → Part → List ℕ
name_of_part lines part = name_of_line (slice_get lines part.line)

-- a part, as a submodule that is created
abbrev pub built_part : List TypeDeclaration → List Submodule → Part → Built
built_part types lines part = record {
  name = name_of_part lines part;
  index = part.index;
  class = option_and_then class_to_build (slice_get types part.of_type);
}

-- all but the first
abbrev pub submodules_among : List Part → List Part
submodules_among [] = []
submodules_among (own ∷ parts) = parts

-- THE SUBMODULES among the parts of an inside, in the order in which they are created; the first
-- part is the compound module itself
abbrev pub built_parts : List TypeDeclaration → List Submodule → List Part → List Built
built_parts types lines parts = map (built_part types lines) (submodules_among parts)
