-- What is inside of the modules of a model, the sizes of their gates, and where these lead.
use Rattle.std.specs.Prelude.{ℕ, List, [], ◌∷◌, ◌++◌, Option, Some, None, Result, Ok, Err}
use Rattle.std.specs.Prelude.{option_map, if◌then◌else◌}
use Rattle.std.specs.Result.{result_ok}
use Rattle.module_api.specs.declared.call.Gate.{Gate}
use Rattle.ned_trees.specs.declared.connections.Half.{Half}
use Rattle.ned_trees.specs.declared.declarations.Submodule.{Submodule}
use Rattle.ned_trees.specs.declared.declarations.TypeDeclaration.{TypeDeclaration}
use Rattle.ned_trees.specs.declared.declarations.TypeKind.{TypeKind}
use Rattle.ned_trees.specs.declared.declarations.TypeKind.TheVariants.{Simple, Module, Network}
use Rattle.ned_trees.specs.declared.declarations.TypeKind.TheVariants.{Channel, ModuleInterface}
use Rattle.ned_trees.specs.declared.declarations.TypeKind.TheVariants.{ChannelInterface}
use Rattle.sim_values.specs.declared.model_fault.ModelFault.{ModelFault}
use Rattle.inside_parts.specs.declared.gates.TypeGate.{TypeGate}
use Rattle.inside_parts.specs.declared.parts.Part.{Part}
use Rattle.inside_parts.specs.Gates as type_gates
use Rattle.inside_wiring.specs.Ends.{part_named}
use Rattle.inside_keys.specs.declared.found.Found.{Found}
use Rattle.inside_keys.specs.declared.found.Found.TheVariants as found
use Rattle.inside_keys.specs.declared.found.Inside.{Inside}
use Rattle.inside_keys.specs.declared.key.Module as key_module
use Rattle.inside_keys.specs.declared.key.What.TheVariants as what
use Rattle.inside_keys.specs.Asked.{sized_by}
use Rattle.inside_keys.specs.Blamed.{placed}
use Rattle.inside_keys.specs.Inside.{submodule_names}
use Rattle.inside_keys.specs.Keys.{child, key}
use Rattle.inside_keys.specs.Unconnected.{unconnected}
use Rattle.inside_keys.specs.Settings.{ModuleRules, Whereabouts, declarer}
use Rattle.inside_keys.specs.Settings as settings
use Rattle.inside_keys.specs.Values.{asking_of, value_at}
use Rattle.model_inside.specs.Built.{built_parts, name_of_part}
use Rattle.model_inside.specs.Hops.{half_named, is_outwards, next_in}
use Rattle.model_inside.specs.Sized.{direction_of, finished_size}
use Rattle.model_inside.specs.declared.hops.Seen.TheVariants.{FromOutside, FromInside}
use Rattle.model_inside.specs.declared.hops.Way.{Way}
use Rattle.model_questions.specs.declared.answer.Answer.{Answer}
use Rattle.model_questions.specs.declared.answer.Answer.TheVariants as answer
use Rattle.sim_values.specs.declared.model_fault.ModelFault.TheVariants.{Unconnected}
use Rattle.model_questions.specs.declared.answer.NextGate.{NextGate}
use Rattle.model_answers.specs.Keyed.{module_at, type_of, typed, value_of}

-- ---- what is built

-- the path of a submodule among the parts of the inside of the module of that path, which declares
-- these submodules
abbrev pub child_path : List ℕ → List Submodule → Part → List ℕ
child_path path lines p = (child (module_at path) (name_of_part lines p) p.index).path

-- a fault where a part has a gate that has to be connected and isn't, with the module's own path as
-- of all its connections, or else the submodules
abbrev pub connected_answer : ModuleRules → key_module.Module → TypeDeclaration → Inside → Option ℕ
    → Answer
connected_answer s m t i None = answer.Inside (built_parts s.types t.submodules i.parts.parts)
connected_answer s m t i (Some n) = answer.Fault m.path Unconnected

abbrev pub built_answer : ModuleRules → key_module.Module → TypeDeclaration
    → Result Found (List ℕ × ModelFault) → Answer
built_answer s m t (Ok (found.Inside i)) =
    connected_answer s m t i (unconnected t (settings.type_gates s) i)
built_answer s m t (Ok (found.Value v)) = answer.Absent
built_answer s m t (Ok (found.Carrier c)) = answer.Absent
built_answer s m t (Err f) = answer.Fault f.0 f.1

-- the inside of a module, or its first fault with the path that it is told with
abbrev pub inside_found : ModuleRules → key_module.Module → Result Found (List ℕ × ModelFault)
inside_found s m = placed (value_at s) m (s.stands m).around (asking_of s (key m what.Inside))

abbrev pub inside_by : ModuleRules → key_module.Module → TypeDeclaration → TypeKind → Answer
inside_by s m t Network = built_answer s m t (inside_found s m)
inside_by s m t Module = built_answer s m t (inside_found s m)
inside_by s m t Simple = answer.Absent
inside_by s m t Channel = answer.Absent
inside_by s m t ModuleInterface = answer.Absent
inside_by s m t ChannelInterface = answer.Absent

-- WHAT IS INSIDE of a compound module of that type: its submodules in the order in which they are
-- created, or its first fault; after all else comes the first of its parts with a gate that has to
-- be connected and isn't
abbrev pub inside_answer : ModuleRules → key_module.Module → Option TypeDeclaration → Answer
inside_answer s m t = typed t (λ u. inside_by s m u u.kind)

-- ---- a module among the parts of the module around it

-- the type of the module around, its inside, and the number of the part
pub record Seat : Type 0 where
  pub of_type : TypeDeclaration
  pub inside : Inside
  pub part : ℕ

abbrev pub inside_in : Result Found ModelFault → Option Inside
inside_in (Ok (found.Inside i)) = Some i
inside_in (Ok (found.Value v)) = None
inside_in (Ok (found.Carrier c)) = None
inside_in (Err f) = None

abbrev pub maybe_inside : Option (Result Found ModelFault) → Option Inside
maybe_inside None = None
maybe_inside (Some found) = inside_in found

-- the inside of a module, where it has one
abbrev pub inside_of : ModuleRules → key_module.Module → Option Inside
inside_of s m = inside_in (value_of s m what.Inside)

abbrev pub seat_at : TypeDeclaration → Inside → ℕ → Seat
seat_at t i part = record { of_type = t; inside = i; part = part }

abbrev pub seat_among : Whereabouts → TypeDeclaration → Option Inside → Option Seat
seat_among stands t None = None
seat_among stands t (Some i) = option_map (seat_at t i)
    (result_ok (part_named (submodule_names t) i.parts stands.name stands.index))

abbrev pub seat_typed : Whereabouts → Option TypeDeclaration → Option Inside → Option Seat
seat_typed stands None i = None
seat_typed stands (Some t) i = seat_among stands t i

abbrev pub seat_by : ModuleRules → Whereabouts → Option key_module.Module → Option Seat
seat_by s stands None = None
seat_by s stands (Some around) = seat_typed stands (type_of s around) (inside_of s around)

-- the part that a module is, in the inside of the module around it; the network is none, and what
-- was created while the run went on
abbrev pub seat_of : ModuleRules → key_module.Module → Option Seat
seat_of s m = seat_by s (s.stands m) (declarer s m)

-- ---- gates

abbrev pub size_in : Result Found ModelFault → Option ℕ
size_in (Ok (found.Value v)) = result_ok (sized_by v)
size_in (Ok (found.Carrier c)) = None
size_in (Ok (found.Inside i)) = None
size_in (Err f) = None

abbrev pub maybe_size : Option (Result Found ModelFault) → Option ℕ
maybe_size None = None
maybe_size (Some found) = size_in found

-- the declared size of a gate vector
abbrev pub declared_size : ModuleRules → key_module.Module → List ℕ → Option ℕ
declared_size s m g = size_in (value_of s m (what.Declared g))

-- the finished size of a gate vector of a module that stands there
abbrev pub seated_size : ModuleRules → Option Seat → List ℕ → Option ℕ
seated_size s None g = None
seated_size s (Some t) g =
    finished_size (settings.type_gates s) t.inside.parts t.inside.wiring t.part g

-- a single gate has the size 1
abbrev pub size_of : (List ℕ → Option ℕ) → TypeGate → Option ℕ
size_of vector_size g = if g.kind.is_vector then vector_size g.name else Some 1

abbrev pub with_size : TypeGate → Option ℕ → List Gate
with_size g None = []
with_size g (Some size) =
    record { name = g.name; direction = direction_of g.kind.direction; size = size } ∷ []

abbrev pub sized_gates : (List ℕ → Option ℕ) → List TypeGate → List Gate
sized_gates vector_size [] = []
sized_gates vector_size (g ∷ gs) = with_size g (size_of vector_size g) ++ sized_gates vector_size gs

-- the gates of a flat type
abbrev pub gates_of_type : TypeDeclaration → List TypeGate
gates_of_type t = (type_gates.gates_of t.gates).gates

-- the model connects nothing around the network and around what was created while the run went on:
-- their sizes are the declared ones
abbrev pub gates_in : ModuleRules → key_module.Module → Option key_module.Module → List TypeGate
    → List Gate
gates_in s m None gs = sized_gates (declared_size s m) gs
gates_in s m (Some around) gs = sized_gates (seated_size s (seat_of s m)) gs

-- THE GATES of a module of that type, in the order of their declaration, each with its direction
-- and size, which is 1 of a single gate. One that has no size is left out.
abbrev pub gates_answer : ModuleRules → key_module.Module → Option TypeDeclaration → List Gate
gates_answer s m None = []
gates_answer s m (Some t) = gates_in s m (declarer s m) (gates_of_type t)

-- ---- hops

-- outwards by the links of the module around
abbrev pub next_outwards : ModuleRules → Way → List ℕ → ℕ → Option Seat → Option NextGate
next_outwards s way g index None = None
next_outwards s way g index (Some t) = next_in (settings.type_gates s) t.of_type.submodules
    t.inside.parts t.inside.wiring (FromOutside t.part) way g index

-- inwards by the links of its own inside
abbrev pub next_inwards : ModuleRules → TypeDeclaration → Way → List ℕ → ℕ → Option Inside
    → Option NextGate
next_inwards s t way g index None = None
next_inwards s t way g index (Some i) =
    next_in (settings.type_gates s) t.submodules i.parts i.wiring FromInside way g index

abbrev pub next_by : ModuleRules → key_module.Module → TypeDeclaration → Way → Half → List ℕ → ℕ
    → Option NextGate
next_by s m t way half g index =
    if is_outwards way half then next_outwards s way g index (seat_of s m)
    else next_inwards s t way g index (inside_of s m)

abbrev pub hop_by : ModuleRules → key_module.Module → TypeDeclaration → Way → ℕ
    → Option (List ℕ × Half) → Answer
hop_by s m t way index None = answer.Absent
hop_by s m t way index (Some h) = answer.Next (next_by s m t way h.1 h.0 index)

-- THE NEXT GATE after a gate of a module of that type, or the one from which messages come to it:
-- none where it is not connected
abbrev pub hop_answer : ModuleRules → Way → key_module.Module → Option TypeDeclaration → List ℕ → ℕ
    → Answer
hop_answer s way m t name index =
    typed t (λ u. hop_by s m u way index (half_named name (gates_of_type u)))
