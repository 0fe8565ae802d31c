-- What is known of the submodules of an inside that is found.
use Rattle.std.specs.Prelude.{◌≡◌, ℕ, pos, true, false, List, [], ◌∷◌, Some, Ok, slice_get}
use Rattle.ned_trees.specs.declared.declarations.SectionLine.{SectionLine}
use Rattle.ned_trees.specs.declared.declarations.SectionLine.TheVariants as line
use Rattle.ned_trees.specs.declared.declarations.Submodule.{Submodule}
use Rattle.ned_trees.specs.declared.declarations.TypeDeclaration.{TypeDeclaration}
use Rattle.sim_values.specs.declared.value.Value.TheVariants as value
use Rattle.inside_parts.specs.declared.parts.Part.{Part}
use Rattle.inside_keys.specs.declared.found.Found.TheVariants as found
use Rattle.inside_keys.specs.declared.found.Inside.{Inside}
use Rattle.inside_keys.specs.declared.key.Module.{Module}
use Rattle.inside_keys.specs.declared.key.What.TheVariants as what
use Rattle.inside_keys.specs.Keys.{child, key}
use Rattle.inside_keys.specs.Settings.{ModuleRules}
use Rattle.inside_keys.specs.Values.{asking_of}
use Rattle.inside_uses.specs.Uses.{HasValue, KnownValues, comes_to}

-- the parameters that these lines declare have values
abbrev pub HaveValues : KnownValues → Module → List SectionLine → Type 0
HaveValues known at [] = Unit {0}
HaveValues known at (line.Declaration d ∷ ls) =
    HasValue (known (key at (what.Param d.name))) × HaveValues known at ls
HaveValues known at (_ ∷ ls) = HaveValues known at ls

-- the type of a module is the one of that number
abbrev pub HasType : KnownValues → Module → ℕ → Type 0
HasType known at n = known (key at what.Type) ≡ Some (found.Value (value.Whole (pos n)))

-- A MODULE IS KNOWN: its type, of that number among these, and values of all parameters that it has
pub record IsKnown (known : KnownValues) (types : List TypeDeclaration) (at : Module) (n : ℕ)
    : Type 0 where
  pub typed : HasType known at n
  pub of_type : TypeDeclaration
  pub there : slice_get types n ≡ Some of_type
  pub parameters : HaveValues known at of_type.lines

-- the submodule is known that a part is, of a module of that type
pub record IsKnownPart (known : KnownValues) (types : List TypeDeclaration) (m : Module)
    (t : TypeDeclaration) (p : Part) : Type 0 where
  pub declared : Submodule
  pub there : slice_get t.submodules p.line ≡ Some declared
  pub is_known : IsKnown known types (child m declared.name p.index) p.of_type

-- each part is known that is a submodule
abbrev pub AreKnownParts : KnownValues → List TypeDeclaration → Module → TypeDeclaration
    → List Part → Type 0
AreKnownParts known types m t [] = Unit {0}
AreKnownParts known types m t (p ∷ ps) =
    (p.is_own ≡ false → IsKnownPart known types m t p) × AreKnownParts known types m t ps

-- the type of a module is known, and all submodules of its inside are
pub record HasKnownParts (known : KnownValues) (types : List TypeDeclaration) (m : Module)
    (i : Inside) : Type 0 where
  pub number : ℕ
  pub of_type : TypeDeclaration
  pub typed : HasType known m number
  pub there : slice_get types number ≡ Some of_type
  pub parts : AreKnownParts known types m of_type i.parts.parts

-- OF AN INSIDE THAT IS FOUND ALL IS KNOWN: where its asking comes to it by values that are known,
-- the type of each of its submodules is known, and values of all parameters that this has.
abbrev pub AllIsKnownInside : Type 0
AllIsKnownInside = (s : ModuleRules) (m : Module) (known : KnownValues) (i : Inside)
    → comes_to known (asking_of s (key m what.Inside)) ≡ Some (Ok (found.Inside i)) →
    HasKnownParts known s.types m i
