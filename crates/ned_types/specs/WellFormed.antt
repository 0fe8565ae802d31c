-- Types that make a model, by the rules of the language.
-- OMNeT++ Simulation Manual, "Simple Modules", "Submodules", "Parameters", "Gates".
use Rattle.std.specs.Prelude.{◌≡◌, ◌≢◌, ◌⊎◌, ℕ, true, false, List, [], ◌∷◌, ◌++◌, Some, is_some}
use Rattle.ned_trees.specs.declared.connections.Channel.{Channel}
use Rattle.ned_trees.specs.declared.connections.ConnectionItem.{ConnectionItem}
use Rattle.ned_trees.specs.declared.connections.ConnectionLine.{ConnectionLine}
use Rattle.ned_trees.specs.declared.declarations.Declaration.{Declaration}
use Rattle.ned_trees.specs.declared.declarations.GateDeclaration.{GateDeclaration}
use Rattle.ned_trees.specs.declared.declarations.GateLine.{GateLine}
use Rattle.ned_trees.specs.declared.declarations.GateLine.TheVariants as gate
use Rattle.ned_trees.specs.declared.declarations.SectionLine.{SectionLine}
use Rattle.ned_trees.specs.declared.declarations.SectionLine.TheVariants as line
use Rattle.ned_trees.specs.declared.declarations.Submodule.{Submodule}
use Rattle.ned_trees.specs.declared.declarations.SubmoduleType.{SubmoduleType}
use Rattle.ned_trees.specs.declared.declarations.SubmoduleType.TheVariants as submodule_type
use Rattle.ned_trees.specs.declared.declarations.TypeDeclaration.{TypeDeclaration}
use Rattle.ned_trees.specs.declared.declarations.TypeKind.{TypeKind}
use Rattle.ned_trees.specs.declared.declarations.TypeKind.TheVariants as kinds
use Rattle.ned_types.specs.Channels.{built_in_lines}
use Rattle.ned_types.specs.Clashes.{channel_name, connections_of}
use Rattle.ned_types.specs.Types.{is_built_in, is_fixed, name_in, type_name, value_in, is_vector}

-- it is one of these
abbrev pub IsAmong : {X : Type 0} → X → List X → Type 0
IsAmong x [] = ⊥
IsAmong x (y ∷ ys) = (x ≡ y) ⊎ IsAmong x ys

-- the one stands somewhere before the other
abbrev pub StandsBefore : {X : Type 0} → X → X → List X → Type 0
StandsBefore x y [] = ⊥
StandsBefore x y (z ∷ zs) = ((x ≡ z) × IsAmong y zs) ⊎ StandsBefore x y zs

-- lines declare the parameter of that name
abbrev pub IsParameter : List ℕ → List SectionLine → Type 0
IsParameter name lines = (d : Declaration) × IsAmong (line.Declaration d) lines × (d.name ≡ name)

-- THE RULES of a parameter section:
pub record IsSoundSection (lines : List SectionLine) : Type 0 where
  -- no two parameters have one name;
  pub names : (d e : Declaration) → StandsBefore (line.Declaration d) (line.Declaration e) lines
      → d.name ≢ e.name
  -- a value is given to a parameter that is declared;
  pub given : (l : SectionLine) → IsAmong l lines → is_some (value_in l) ≡ true
      → IsParameter (name_in l) lines
  -- after a fixed value a parameter is given no other.
  pub fixed : (l k : SectionLine) → StandsBefore l k lines → is_fixed (value_in l) ≡ true
      → is_some (value_in k) ≡ true → name_in k ≢ name_in l

-- THE RULES of the body of a submodule, whose type has these lines:
pub record IsSoundBody (lines body : List SectionLine) : Type 0 where
  -- it declares no parameter;
  pub undeclaring : (d : Declaration) → IsAmong (line.Declaration d) body → ⊥
  -- and after the lines of the type it makes a sound section.
  pub section : IsSoundSection (lines ++ body)

-- no two submodules have one name
abbrev pub HaveOwnNames : List Submodule → Type 0
HaveOwnNames submodules = (s r : Submodule) → StandsBefore s r submodules → s.name ≢ r.name

-- no two gates have one name
abbrev pub HaveOwnGates : List GateLine → Type 0
HaveOwnGates gates = (d e : GateDeclaration)
    → StandsBefore (gate.Declaration d) (gate.Declaration e) gates → d.name ≢ e.name

-- one of the types is of that kind and has that name
abbrev pub IsTypeOf : TypeKind → List ℕ → List TypeDeclaration → Type 0
IsTypeOf kind name types = (u : TypeDeclaration) × IsAmong u types × (u.name ≡ name)
    × (u.kind ≡ kind)

-- it is a type of modules: a simple type, a compound module or a network
abbrev pub IsOfModules : TypeKind → Type 0
IsOfModules k = (k ≡ kinds.Simple) ⊎ ((k ≡ kinds.Module) ⊎ (k ≡ kinds.Network))

-- a type of that kind may stand there: one of modules by its name, an interface of modules after
-- `like`
abbrev pub Suits : SubmoduleType → TypeKind → Type 0
Suits (submodule_type.Named name) k = IsOfModules k
Suits (submodule_type.Like p) k = k ≡ kinds.ModuleInterface

-- the type of the submodule, or the interface after `like`, is among these, and may stand there
abbrev pub HasType : Submodule → List TypeDeclaration → Type 0
HasType s types = (u : TypeDeclaration) × IsAmong u types × (u.name ≡ type_name s)
    × Suits s.submodule_type u.kind

-- these are the lines of the channel of that name: of a built-in one, or of a channel among these
-- types
abbrev pub IsChannelNamed : List TypeDeclaration → List ℕ → List SectionLine → Type 0
IsChannelNamed types name lines =
    ((is_built_in name ≡ true) × (lines ≡ built_in_lines name)) ⊎ ((u : TypeDeclaration)
    × IsAmong u types × (u.name ≡ name) × (u.kind ≡ kinds.Channel) × (lines ≡ u.lines))

-- the channel of a connection is there, and its block is sound after its lines
abbrev pub HasChannel : List TypeDeclaration → Channel → Type 0
HasChannel types c = (lines : List SectionLine) × IsChannelNamed types (channel_name c) lines
    × IsSoundBody lines c.lines

-- a type has all parameters and gates of an interface: those of its names, with the same words and
-- directions, and vectors where those are vectors
pub record HasMembers (t i : TypeDeclaration) : Type 0 where
  pub parameters : (d : Declaration) → IsAmong (line.Declaration d) i.lines → (e : Declaration)
      × IsAmong (line.Declaration e) t.lines × (e.name ≡ d.name) × (e.word ≡ d.word)
  pub gates : (d : GateDeclaration) → IsAmong (gate.Declaration d) i.gates
      → (e : GateDeclaration) × IsAmong (gate.Declaration e) t.gates × (e.name ≡ d.name)
      × (e.direction ≡ d.direction) × (is_vector e.size ≡ is_vector d.size)

-- THE RULES of types:
pub record IsWellFormed (types : List TypeDeclaration) : Type 0 where
  -- no two types have one name;
  pub names : (t u : TypeDeclaration) → StandsBefore t u types → t.name ≢ u.name
  -- none has the name of a built-in channel;
  pub own : (t : TypeDeclaration) → IsAmong t types → is_built_in t.name ≡ false
  -- the parameter section of each is sound;
  pub parameters : (t : TypeDeclaration) → IsAmong t types → IsSoundSection t.lines
  -- no two gates of a type have one name;
  pub gates : (t : TypeDeclaration) → IsAmong t types → HaveOwnGates t.gates
  -- no two submodules of a type have one name;
  pub submodules : (t : TypeDeclaration) → IsAmong t types → HaveOwnNames t.submodules
  -- the type of each is one of modules among these, or that after `like` an interface of modules;
  pub suited : (t : TypeDeclaration) → IsAmong t types → (s : Submodule) → IsAmong s t.submodules
      → HasType s types
  -- each type has what its interfaces have;
  pub interfaces : (t : TypeDeclaration) → IsAmong t types → (i : TypeDeclaration) → IsAmong i types
      → IsAmong i.name t.interfaces → HasMembers t i
  -- the body of each submodule is sound after the lines of its type,
  pub bodies : (t : TypeDeclaration) → IsAmong t types → (s : Submodule)
      → IsAmong s t.submodules → (u : TypeDeclaration) → IsAmong u types → u.name ≡ type_name s
      → IsSoundBody u.lines s.body.lines
  -- and declares no gate;
  pub sizes : (t : TypeDeclaration) → IsAmong t types → (s : Submodule) → IsAmong s t.submodules
      → (d : GateDeclaration) → IsAmong (gate.Declaration d) s.body.gates → ⊥
  -- and what the channel of each connection names is a channel, after whose lines its block is
  -- sound.
  pub channels : (t : TypeDeclaration) → IsAmong t types → (i : ConnectionItem)
      → IsAmong i t.connections.items → (l : ConnectionLine) → IsAmong l (connections_of i)
      → (c : Channel) → l.connection.channel ≡ Some c → HasChannel types c
