-- The connections that files declare of a type, and files in which they are others.
use Rattle.std.specs.Prelude.{ℕ, Bool, true, false, ◌&&◌, List, [], ◌∷◌, Option, Some, None}
use Rattle.std.specs.Prelude.{option_map, if◌then◌else◌}
use Rattle.std.specs.List.{list_any}
use Rattle.std.specs.Option.{option_and_then}
use Rattle.std.specs.Str.{bytes_eq}
use Rattle.ned_trees.specs.declared.connections.ConnectionItem.{ConnectionItem}
use Rattle.ned_trees.specs.declared.declarations.NedFile.{NedFile}
use Rattle.ned_trees.specs.declared.declarations.NestedType.{NestedType, out-NestedType}
use Rattle.ned_trees.specs.declared.declarations.NestedType.{roll-NestedType}
use Rattle.ned_trees.specs.declared.declarations.TypeDeclaration.{TypeDeclaration}
use Rattle.ned_trees.specs.declared.declarations.TypeKind.{TypeKind}
use Rattle.ned_trees.specs.declared.declarations.TypeKind.TheVariants.{Simple, Module, Network}
use Rattle.ned_trees.specs.declared.declarations.TypeKind.TheVariants.{Channel, ModuleInterface}
use Rattle.ned_trees.specs.declared.declarations.TypeKind.TheVariants.{ChannelInterface}
use Rattle.ned_scopes.specs.Scopes.{declared_of}

-- ---- the first of several

-- the first that passes
abbrev pub first_of : {T : Type 0} → (T → Bool) → List T → Option T
first_of p [] = None
first_of p (x ∷ xs) = if p x then Some x else first_of p xs

-- they as they are, but that the first that passes is another
abbrev pub change_first : {T : Type 0} → (T → Bool) → (T → T) → List T → List T
change_first p f [] = []
change_first p f (x ∷ xs) = if p x then f x ∷ xs else x ∷ change_first p f xs

-- ---- the type

-- a type that has connections
abbrev pub is_compound : TypeKind → Bool
is_compound Simple = false
is_compound Module = true
is_compound Network = true
is_compound Channel = false
is_compound ModuleInterface = false
is_compound ChannelInterface = false

-- a module or a network of that name
abbrev pub is_module_named : List ℕ → NestedType → Bool
is_module_named name t = bytes_eq (declared_of t).name name && is_compound (declared_of t).kind

-- the file declares one, and not within another type
abbrev pub declares : List ℕ → NedFile → Bool
declares name f = list_any (is_module_named name) f.types

-- THE ITEMS of its own connections: those of the first module or network of that name that the
-- files declare, not within another type
abbrev pub items_in_file : List ℕ → NedFile → Option (List ConnectionItem)
items_in_file name f =
    option_map (λ t. (declared_of t).connections.items) (first_of (is_module_named name) f.types)

abbrev pub items_of : List ℕ → List NedFile → Option (List ConnectionItem)
items_of name files = option_and_then (items_in_file name) (first_of (declares name) files)

-- ---- other items

abbrev pub declared_with : List ConnectionItem → TypeDeclaration → TypeDeclaration
declared_with items t = record t { connections = record t.connections { items = items } }

-- the type with these items, and with all else as it is
abbrev pub type_with : List ConnectionItem → NestedType → NestedType
type_with items t = roll-NestedType (record {
  declared = declared_with items (declared_of t);
  types = (out-NestedType t).types;
})

abbrev pub file_with : List ℕ → List ConnectionItem → NedFile → NedFile
file_with name items f =
    record { types = change_first (is_module_named name) (type_with items) f.types }

-- THE FILES in which the type of that name has these items, and all else is as it was
abbrev pub files_with : List ℕ → List ConnectionItem → List NedFile → List NedFile
files_with name items files = change_first (declares name) (file_with name items) files
