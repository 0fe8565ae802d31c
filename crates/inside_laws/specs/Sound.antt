-- What is true of each inside of a compound module that is found, whatever the texts say.
use Rattle.std.specs.Prelude.{◌≡◌, ◌⊎◌, ℕ, ◌+◌, ◌<◌, Bool, true, false, List, [], ◌∷◌, length}
use Rattle.std.specs.Prelude.{Some, None, Ok, slice_index}
use Rattle.ned_trees.specs.declared.declarations.GateDirection.{GateDirection}
use Rattle.ned_trees.specs.declared.declarations.GateDirection.TheVariants.{Input, Output, Inout}
use Rattle.inside_parts.specs.declared.gates.TypeGates.{TypeGates}
use Rattle.inside_parts.specs.declared.parts.NamedGate.{NamedGate}
use Rattle.inside_parts.specs.declared.parts.Part.{Part}
use Rattle.inside_parts.specs.declared.parts.Parts.{Parts}
use Rattle.inside_wiring.specs.declared.wiring.GateId.{GateId}
use Rattle.inside_wiring.specs.declared.wiring.Link.{Link}
use Rattle.inside_wiring.specs.Ends.{gate_named}
use Rattle.inside_wiring.specs.Wired.{key, same_key}
use Rattle.inside_keys.specs.declared.found.Inside.{Inside}

abbrev pub Each : {X : Type 0} → (X → Type 0) → List X → Type 0
Each P [] = Unit {0}
Each P (x ∷ xs) = P x × Each P xs

-- ---- links

-- whether messages leave by a gate of that direction: those of the compound module itself are seen
-- from within
abbrev pub gives : Bool → GateDirection → Bool
gives true Input = true
gives true Output = false
gives true Inout = true
gives false Input = false
gives false Output = true
gives false Inout = true

-- and whether they come in by it
abbrev pub takes : Bool → GateDirection → Bool
takes true Input = false
takes true Output = true
takes true Inout = true
takes false Input = true
takes false Output = false
takes false Inout = true

-- AN END OF A LINK is a gate that a name means in its part, of a direction that can be so, and its
-- index is within its vector; a single gate counts as a vector of one
pub record IsEnd (can : Bool → GateDirection → Bool) (types : List TypeGates) (parts : Parts)
    (sizes : List ℕ) (id : GateId) : Type 0 where
  pub name : List ℕ
  pub gate : NamedGate
  pub named : gate_named types parts (length sizes) id.part name ≡ Ok gate
  pub vector : id.vector ≡ gate.vector
  pub able : can gate.is_own gate.kind.direction ≡ true
  pub within : id.index < slice_index sizes id.vector

-- A LINK leads from a gate that gives to one that takes
abbrev pub IsLink : List TypeGates → Parts → List ℕ → Link → Type 0
IsLink types parts sizes l = IsEnd gives types parts sizes l.from × IsEnd takes types parts sizes l.to

-- two links begin at different gates, and end at different gates
abbrev pub AreApart : Link → Link → Type 0
AreApart l other = (same_key (key other.from) (key l.from) ≡ false)
    × (same_key (key other.to) (key l.to) ≡ false)

-- NO TWO LINKS share the gate that they begin at, or the gate that they end at
abbrev pub AreOnce : List Link → Type 0
AreOnce [] = Unit {0}
AreOnce (l ∷ ls) = Each (AreApart l) ls × AreOnce ls

-- ---- submodules

-- a submodule is the first that its declaration makes: no element of a vector, or the one of index 0
abbrev pub IsFirst : Part → Type 0
IsFirst p = (p.index ≡ None) ⊎ (p.index ≡ Some 0)

-- a submodule comes next after another: it is the first of a later declaration, or the next element
-- of the same vector
abbrev pub IsNext : Part → Part → Type 0
IsNext p q = ((p.line < q.line) × IsFirst q)
    ⊎ ((p.line ≡ q.line) × ((k : ℕ) × (p.index ≡ Some k) × (q.index ≡ Some (k + 1))))

abbrev pub ComeAfter : Part → List Part → Type 0
ComeAfter p [] = Unit {0}
ComeAfter p (q ∷ qs) = (q.is_own ≡ false) × (IsNext p q × ComeAfter q qs)

abbrev pub AreInTurn : List Part → Type 0
AreInTurn [] = Unit {0}
AreInTurn (p ∷ ps) = (p.is_own ≡ false) × (IsFirst p × ComeAfter p ps)

-- THE PARTS are the module itself, and then its submodules, in the order of their declarations, the
-- elements of a vector by their indexes, from 0 on
abbrev pub AreInOrder : List Part → Type 0
AreInOrder [] = ⊥
AreInOrder (own ∷ ps) = (own.is_own ≡ true) × AreInTurn ps

-- ---- insides

-- AN INSIDE IS SOUND, where the types have these gates
pub record IsSound (types : List TypeGates) (i : Inside) : Type 0 where
  pub order : AreInOrder i.parts.parts
  pub links : Each (IsLink types i.parts i.wiring.sizes) i.wiring.links
  pub once : AreOnce i.wiring.links
