-- Which gates of an inside are connected.
use Rattle.std.specs.Prelude.{◌≡◌, ◌⊎◌, ℕ, ◌+◌, ◌<◌, Bool, true, List, [], ◌∷◌, is_some}
use Rattle.std.specs.Prelude.{slice_get, slice_index}
use Rattle.ned_trees.specs.declared.declarations.TypeDeclaration.{TypeDeclaration}
use Rattle.inside_parts.specs.declared.gates.TypeGate.{TypeGate}
use Rattle.inside_parts.specs.declared.gates.TypeGates.{TypeGates}
use Rattle.inside_parts.specs.declared.parts.Part.{Part}
use Rattle.inside_wiring.specs.declared.wiring.Link.{Link}
use Rattle.inside_wiring.specs.declared.wiring.Role.{Role}
use Rattle.inside_wiring.specs.declared.wiring.Role.TheVariants.{Source, Target, Both}
use Rattle.inside_wiring.specs.Wired.{Key, Wired, link_from, link_to}
use Rattle.inside_keys.specs.declared.found.Inside.{Inside}
use Rattle.inside_keys.specs.Inside.{gates_in}
use Rattle.inside_keys.specs.Unconnected.{loosened_of, may_stay_free, needed}
use Rattle.inside_laws.specs.Sound.{Each}

-- a link begins there, or ends there, or both, as a role needs it
abbrev pub IsLinked : List Link → Role → Key → Type 0
IsLinked links Source q = is_some (link_from links q) ≡ true
IsLinked links Target q = is_some (link_to links q) ≡ true
IsLinked links Both q = (is_some (link_from links q) ≡ true) × (is_some (link_to links q) ≡ true)

-- a gate vector is connected: a link begins or ends at each of its gates, as its direction needs it,
-- unless it may stay free
abbrev pub IsConnected : Wired → Bool → List (List ℕ) → ℕ → TypeGate → Type 0
IsConnected w own loose v g = (may_stay_free loose g ≡ true)
    ⊎ ((index : ℕ) → index < slice_index w.sizes v
    → IsLinked w.links (needed own g.kind.direction) (v, index))

-- these are, whose vectors follow one another from that one on
abbrev pub AreConnected : Wired → Bool → List (List ℕ) → ℕ → List TypeGate → Type 0
AreConnected w own loose v [] = Unit {0}
AreConnected w own loose v (g ∷ gs) = IsConnected w own loose v g
    × AreConnected w own loose (v + 1) gs

-- all gates of a part are
abbrev pub IsWhole : TypeDeclaration → List TypeGates → Wired → Part → Type 0
IsWhole t gates w p = AreConnected w p.is_own (loosened_of t.submodules p) p.first
    (gates_in (slice_get gates p.of_type))

-- ALL GATES ARE CONNECTED that have to be, or the type says that none has to be
abbrev pub NothingLacks : TypeDeclaration → List TypeGates → Inside → Type 0
NothingLacks t gates i = (t.connections.allow_unconnected ≡ true)
    ⊎ Each (IsWhole t gates i.wiring) i.parts.parts
