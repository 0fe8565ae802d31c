-- Interfaces that a type names more than once.
use Rattle.std.specs.Prelude.{◌≡◌, ℕ, true, List, None}
use Rattle.ned_trees.specs.declared.declarations.TypeDeclaration.{TypeDeclaration}
use Rattle.ned_types.specs.Types.{type_named}
use Rattle.ned_inheritance.specs.Places.{lacked_of_any}
use Rattle.ned_inheritance.specs.Seen.{is_in}

-- a type lacks no member of the interfaces of these names
abbrev pub LacksNothingOf : List TypeDeclaration → TypeDeclaration → List (List ℕ) → Type 0
LacksNothingOf types t names = (name : List ℕ) → is_in name names ≡ true → (n : ℕ)
    → lacked_of_any t n (type_named name types) ≡ None
