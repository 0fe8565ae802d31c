-- What each key asks.
use Rattle.std.specs.Prelude.{ℕ, zero, suc, nat_lt, ℤ, pos, negsuc, Bool, true, false, not, ◌&&◌}
use Rattle.std.specs.Prelude.{List, [], ◌∷◌, ◌++◌, codes, Option, Some, None, Result, Ok, Err}
use Rattle.std.specs.Prelude.{if◌then◌else◌}
use Rattle.std.specs.Prelude.{is_none, is_some, length, slice_get, slice_index}
use Rattle.std.specs.List.{list_any}
use Rattle.std.specs.Option.{option_and_then}
use Rattle.param_following.specs.Asking.{Done, Ask}
use Rattle.param_following.specs.Following.{Rules, value_of}
use Rattle.ned_trees.specs.declared.declarations.ParametricType.{ParametricType}
use Rattle.ned_trees.specs.declared.declarations.SectionLine.{SectionLine}
use Rattle.ned_trees.specs.declared.declarations.SectionLine.TheVariants as line
use Rattle.ned_trees.specs.declared.declarations.Submodule.{Submodule}
use Rattle.ned_trees.specs.declared.declarations.SubmoduleBody.{SubmoduleBody}
use Rattle.ned_trees.specs.declared.declarations.SubmoduleType.{SubmoduleType}
use Rattle.ned_trees.specs.declared.declarations.SubmoduleType.TheVariants.{Named, Like}
use Rattle.ned_trees.specs.declared.declarations.TypeDeclaration.{TypeDeclaration}
use Rattle.ini_entries.specs.Names.{is_dotted_name}
use Rattle.ini_trees.specs.Entries.{last_name}
use Rattle.ned_types.specs.Flat.{or_else, submodule_named}
use Rattle.ned_types.specs.Types.{is_built_in, is_kind_of_modules, is_refixed}
use Rattle.param_values.specs.declared.scene.Section.TheVariants as written
use Rattle.param_values.specs.Settings.{Written}
use Rattle.param_values.specs.Values.{first_given}
use Rattle.sim_values.specs.declared.value.Value.{Value}
use Rattle.sim_values.specs.declared.value.Value.TheVariants as value
use Rattle.param_eval.specs.Values.{valued}
use Rattle.sim_values.specs.declared.model_fault.ModelFault.{ModelFault}
use Rattle.sim_values.specs.declared.model_fault.ModelFault.TheVariants as fault
use Rattle.sim_values.specs.declared.model_fault.ModelFault.TheVariants.{UnknownType, Interface}
use Rattle.sim_values.specs.declared.model_fault.ModelFault.TheVariants.{NoGate}
use Rattle.sim_values.specs.declared.value_fault.ValueFault.TheVariants.{Unassigned, Mismatch}
use Rattle.sim_values.specs.declared.value_fault.ValueFault.TheVariants.{Circle, TooDeep}
use Rattle.inside_parts.specs.Gates as type_gates
use Rattle.inside_parts.specs.Names.{is_one, position_of}
use Rattle.inside_wiring.specs.declared.wiring.Carrier.{Carrier}
use Rattle.inside_wiring.specs.declared.wiring.ChannelKind.{ChannelKind}
use Rattle.inside_wiring.specs.Ends.{part_named, gate_named, natural}
use Rattle.inside_keys.specs.declared.found.Found.{Found}
use Rattle.inside_keys.specs.declared.found.Found.TheVariants as found
use Rattle.inside_keys.specs.declared.found.Inside.{Inside}
use Rattle.inside_keys.specs.declared.key.ChannelAt.{ChannelAt}
use Rattle.inside_keys.specs.declared.key.Key.{Key}
use Rattle.inside_keys.specs.declared.key.Module.{Module}
use Rattle.inside_keys.specs.declared.key.What.{What}
use Rattle.inside_keys.specs.declared.key.What.TheVariants as what
use Rattle.inside_keys.specs.declared.place.Section.TheVariants as section
use Rattle.inside_keys.specs.declared.planned.Planned.{Planned}
use Rattle.inside_keys.specs.Asked.{KeyAsking, ask_then, known_then, number_then, result_then}
use Rattle.inside_keys.specs.Asked.{valued_then}
use Rattle.inside_keys.specs.Channels.{carrier_begun, with_value}
use Rattle.inside_keys.specs.Checks.{checked}
use Rattle.inside_keys.specs.Given.{channel_lines, channel_posed, given_in, kind_there}
use Rattle.inside_keys.specs.Given.{parameter_posed}
use Rattle.inside_keys.specs.Given.{condition_posed, vector_size_posed, gate_size_posed, has_vector}
use Rattle.inside_keys.specs.Inside.{conditioned, inside, is_vector, sized, submodule_names}
use Rattle.inside_keys.specs.Keys.{child, key, same_key}
use Rattle.inside_keys.specs.Places.{meant_under}
use Rattle.inside_keys.specs.Settings.{ModuleRules, Whereabouts, Posed, choice_place, declarer}
use Rattle.inside_keys.specs.Settings.{place_in, type_gates, type_names}

-- done with this value
abbrev pub is : Value → KeyAsking
is v = Done (Ok (found.Value v))

abbrev pub kept : Result Value ModelFault → KeyAsking
kept (Ok v) = is v
kept (Err f) = Done (Err f)

-- an expression that gives a value: what it asks, and what its value has to be
abbrev pub posed_asking : Option Posed → KeyAsking
posed_asking None = Done (Err (fault.Value Unassigned))
posed_asking (Some p) = valued_then (meant_under p.variables p.place) (valued p.expression)
    (λ v. kept (checked p.check v))

-- ---- submodules

module _ (m : Module) where
  -- a parameter of a submodule, which is there
  abbrev pub of_child : List ℕ → Option ℕ → List ℕ → KeyAsking
  of_child name index x = ask_then (key (child m name index) (what.Param x)) is

  -- `sub.x`: of no vector
  abbrev pub member : List ℕ → Option Submodule → KeyAsking
  member x None = Done (Err (fault.Value Unassigned))
  member x (Some l) = if is_vector l then Done (Err (fault.Value Unassigned))
      else conditioned m l (of_child l.name None x) (Done (Err (fault.Value Unassigned)))

  -- the index, where it is one of so many
  abbrev pub among : ℕ → Option ℕ → Option ℕ
  among n None = None
  among n (Some k) = if nat_lt k n then Some k else None

  abbrev pub at_index : List ℕ → List ℕ → Option ℕ → KeyAsking
  at_index name x None = Done (Err (fault.Value Unassigned))
  at_index name x (Some k) = of_child name (Some k) x

  -- `sub[k].x`: of a vector
  abbrev pub element_of : ℤ → List ℕ → Option Submodule → KeyAsking
  element_of k x None = Done (Err (fault.Value Unassigned))
  element_of k x (Some l) =
      if is_vector l then conditioned m l (sized m l (λ n. at_index l.name x (among n (natural k))))
      (Done (Err (fault.Value Unassigned))) else Done (Err (fault.Value Unassigned))

  -- `exists(sub)`
  abbrev pub exists : Option Submodule → KeyAsking
  exists None = is (value.Truth false)
  exists (Some l) = if is_vector l then is (value.Truth false)
      else conditioned m l (is (value.Truth true)) (is (value.Truth false))

  abbrev pub is_there : Option ℕ → Bool
  is_there None = false
  is_there (Some k) = true

  -- `exists(sub[k])`
  abbrev pub exists_at : ℤ → Option Submodule → KeyAsking
  exists_at k None = is (value.Truth false)
  exists_at k (Some l) =
      if is_vector l
      then conditioned m l (sized m l (λ n. is (value.Truth (is_there (among n (natural k))))))
      (is (value.Truth false)) else is (value.Truth false)

  -- `sizeof(sub)`: a vector whose condition doesn't hold has no elements
  abbrev pub vector_size : Option Submodule → KeyAsking
  vector_size None = Done (Err (fault.Value Unassigned))
  vector_size (Some l) = if is_vector l
      then conditioned m l (sized m l (λ n. is (value.Whole (pos n)))) (is (value.Whole (pos 0)))
      else Done (Err (fault.Value Unassigned))

-- a body that says nothing
abbrev pub no_body : SubmoduleBody
no_body = record { lines = []; gates = [] }

abbrev pub body_or_none : Option SubmoduleBody → SubmoduleBody
body_or_none None = no_body
body_or_none (Some body) = body

abbrev pub body_by : Option Submodule → SubmoduleBody
body_by None = no_body
body_by (Some l) = l.body

-- what a module that no type declares is given: one that was created what its plan says, the
-- network nothing
abbrev pub planned_body : Option Planned → SubmoduleBody
planned_body None = no_body
planned_body (Some p) = p.body

-- ---- channels

-- what a channel does, by the values of the parameters that these lines declare, in their order
abbrev pub carrier : Module → ChannelAt → List SectionLine → Carrier → KeyAsking
carrier m c [] k = Done (Ok (found.Carrier k))
carrier m c (line.Declaration d ∷ ls) k =
    ask_then (key m (what.Channel c d.name)) (λ v. carrier m c ls (with_value d.name v k k.kind))
carrier m c (_ ∷ ls) k = carrier m c ls k

abbrev pub carrier_by : Module → ChannelAt → ChannelKind → List SectionLine → KeyAsking
carrier_by m c k lines = carrier m c lines (carrier_begun k)

-- ---- sizes of gates

-- the size of an own gate vector of a part, as the inside of the module around has it
abbrev pub size_of_gate : ModuleRules → Whereabouts → List ℕ → Inside → ℕ → KeyAsking
size_of_gate s t g i part =
    result_then (gate_named (type_gates s) i.parts (length i.wiring.sizes) part g)
    (λ gate. is (value.Whole (pos (slice_index i.wiring.sizes gate.vector))))

-- the same of the submodule of that name and index, where the module around is of that type
abbrev pub size_in : ModuleRules → TypeDeclaration → Whereabouts → List ℕ → Inside → KeyAsking
size_in s around t g i =
    result_then (part_named (submodule_names around) i.parts t.name t.index) (size_of_gate s t g i)

abbrev pub size_read : ModuleRules → TypeDeclaration → Whereabouts → List ℕ → Found → KeyAsking
size_read s around t g (found.Inside i) = size_in s around t g i
size_read s around t g (found.Carrier c) = Done (Err NoGate)
size_read s around t g (found.Value v) = Done (Err NoGate)

module _ (s : ModuleRules) where
  -- ---- types

  -- the number of a type
  abbrev pub numbered : Option ℕ → KeyAsking
  numbered None = Done (Err UnknownType)
  numbered (Some n) = is (value.Whole (pos n))

  -- ---- types that values choose

  -- the type of a full name, where there is one
  abbrev pub type_named : List ℕ → Option TypeDeclaration
  type_named name = option_and_then (slice_get s.types) (position_of name (type_names s))

  -- the type of that name that stands within a type, or else within what that extends, and so on,
  -- so many of them
  abbrev pub inner_along : ℕ → Option TypeDeclaration → List ℕ → Option ℕ
  inner_along n None name = None
  inner_along zero (Some t) name = None
  inner_along (suc n) (Some t) name = or_else (position_of (t.name ++ 46 ∷ name) (type_names s))
      (inner_along n (option_and_then type_named t.base) name)

  -- WHICH TYPE A NAME MEANS in the text of a type: one that stands in that, or in the nearest type
  -- that it extends, or a global one. Of a name with its package the last part counts. No line of
  -- types without a circle is longer than there are types
  abbrev pub type_meant : TypeDeclaration → List ℕ → Option ℕ
  type_meant t name = or_else (inner_along (length s.types) (Some t) (last_name name))
      (position_of (last_name name) (type_names s))

  -- the last of a type and what it extends, and so on, so many of them, that has a submodule of that
  -- name as well
  abbrev pub last_with : ℕ → TypeDeclaration → Option TypeDeclaration → List ℕ → TypeDeclaration
  last_with n t None sub = t
  last_with zero t (Some u) sub = t
  last_with (suc n) t (Some u) sub = if is_some (submodule_named sub u.submodules)
      then last_with n u (option_and_then type_named u.base) sub else t

  -- THE TYPE IN WHOSE TEXT A SUBMODULE STANDS, of a type that has it: no type declares again what it
  -- extends, so the last of those that have it
  abbrev pub text_with : TypeDeclaration → List ℕ → TypeDeclaration
  text_with t sub = last_with (length s.types) t (option_and_then type_named t.base) sub

  -- whether the body of a submodule gives a value to a parameter that has a fixed one in these
  -- lines
  abbrev pub sets_fixed : List SectionLine → SubmoduleBody → Bool
  sets_fixed lines body = list_any (λ l. is_refixed lines l) body.lines

  -- whether a type may stand after `like`: one of modules that says that it keeps the interface,
  -- and fixes nothing that the body sets
  abbrev pub keeps : ParametricType → SubmoduleBody → TypeDeclaration → Bool
  keeps p body u = is_kind_of_modules u.kind
      && (is_one p.interface u.interfaces && not (sets_fixed u.lines body))

  abbrev pub kept_type : ParametricType → SubmoduleBody → ℕ → Option TypeDeclaration → KeyAsking
  kept_type p body n None = Done (Err UnknownType)
  kept_type p body n (Some u) =
      if keeps p body u then is (value.Whole (pos n)) else Done (Err Interface)

  -- a built-in channel is no type of modules
  abbrev pub no_type : List ℕ → ModelFault
  no_type name = if is_built_in (last_name name) then Interface else UnknownType

  abbrev pub type_found : ParametricType → SubmoduleBody → List ℕ → Option ℕ → KeyAsking
  type_found p body name None = Done (Err (no_type name))
  type_found p body name (Some n) = kept_type p body n (slice_get s.types n)

  -- the type that a value names, in the text of a type: by its name, which packages may stand before
  abbrev pub type_told : TypeDeclaration → ParametricType → SubmoduleBody → Value → KeyAsking
  type_told t p body (value.Text name) = if is_dotted_name name
      then type_found p body name (type_meant t name) else Done (Err UnknownType)
  type_told t p body _ = Done (Err (fault.Value Mismatch))

  -- the full path of an entry that names a submodule's type
  abbrev pub type_path : Module → List ℕ
  type_path m = m.path ++ codes ".typename"

  -- an expression that names the type of a submodule which stands in the text of that type
  abbrev pub type_asking_by : Module → Module → TypeDeclaration → ParametricType → SubmoduleBody
      → Option Written → KeyAsking
  type_asking_by m around t p body None = Done (Err (fault.Value Unassigned))
  type_asking_by m around t p body (Some w) = valued_then
      (meant_under [] (choice_place s m around)) (valued w.expression) (type_told t p body)

  -- WHAT CHOOSES THE TYPE OF A SUBMODULE: `<e>`; or the first entry of the ini text that matches
  -- its path and `typename`; or `<default(e)>`
  abbrev pub type_written : Module → ParametricType → Option Written
  type_written m p = first_given (given_in written.OfType p.given) (s.entry (type_path m))

  abbrev pub type_chosen : Module → Module → TypeDeclaration → ParametricType
      → SubmoduleBody → KeyAsking
  type_chosen m around t p body = type_asking_by m around t p body (type_written m p)

  -- the type of a submodule that stands in the text of that type
  abbrev pub type_by : Module → Module → TypeDeclaration → SubmoduleBody → SubmoduleType → KeyAsking
  type_by m around t body (Named name) = numbered (position_of name (type_names s))
  type_by m around t body (Like p) = type_chosen m around t p body

  abbrev pub type_of_submodule : Module → Module → TypeDeclaration → Submodule → KeyAsking
  type_of_submodule m around t l =
      type_by m around (text_with t l.name) l.body l.submodule_type

  -- whether one of that index is among so many
  abbrev pub is_among : ℕ → Option ℤ → Bool
  is_among n None = false
  is_among n (Some (pos k)) = nat_lt k n
  is_among n (Some (negsuc k)) = false

  -- the type of an element of a vector of so many
  abbrev pub element_type : Module → Module → TypeDeclaration → Submodule → ℕ → KeyAsking
  element_type m around t l n = if is_among n (s.stands m).index
      then type_of_submodule m around t l else Done (Err UnknownType)

  -- the type of an element, where it is one of a vector, or of a submodule that is none
  abbrev pub indexed_type : Module → Module → TypeDeclaration → Submodule → KeyAsking
  indexed_type m around t l = if is_vector l then sized around l (element_type m around t l)
      else (if is_none (s.stands m).index then type_of_submodule m around t l
      else Done (Err UnknownType))

  -- the type of a submodule in a module of that type: one that isn't there, since its condition
  -- doesn't hold or no element has its index, has none
  abbrev pub type_in : Module → Module → TypeDeclaration → Option Submodule → KeyAsking
  type_in m around t None = Done (Err UnknownType)
  type_in m around t (Some l) =
      conditioned around l (indexed_type m around t l) (Done (Err UnknownType))

  -- with the type of a module, and its number
  abbrev pub typed_then : Module → (ℕ → TypeDeclaration → KeyAsking) → KeyAsking
  typed_then m next = ask_then (key m what.Type)
      (λ v. number_then v (λ n. known_then (slice_get s.types n) (next n)))

  -- with the body of what declares a module, or with what it was given where no type declares it
  abbrev pub body_of_declarer : Module → Option Module → (SubmoduleBody → KeyAsking) → KeyAsking
  body_of_declarer m None next = next (planned_body (s.planned m))
  body_of_declarer m (Some around) next =
      typed_then around (λ n t. next (body_by (submodule_named (s.stands m).name t.submodules)))

  abbrev pub body_then : Module → (SubmoduleBody → KeyAsking) → KeyAsking
  body_then m next = body_of_declarer m (declarer s m) next

  -- ---- types of modules that were created

  -- the type of that number, where it is one of modules
  abbrev pub type_of_modules : ℕ → Option TypeDeclaration → KeyAsking
  type_of_modules n None = Done (Err UnknownType)
  type_of_modules n (Some u) =
      if is_kind_of_modules u.kind then is (value.Whole (pos n)) else Done (Err UnknownType)

  abbrev pub created_found : Option ℕ → KeyAsking
  created_found None = Done (Err UnknownType)
  created_found (Some n) = type_of_modules n (slice_get s.types n)

  -- the type of a module that was created in one of that type, by the name that its plan has: a
  -- simple type, a module or a network
  abbrev pub created_type : TypeDeclaration → List ℕ → KeyAsking
  created_type t name = if is_dotted_name name then created_found (type_meant t name)
      else Done (Err UnknownType)

  abbrev pub type_planned : Planned → Option Module → KeyAsking
  type_planned p None = Done (Err UnknownType)
  type_planned p (Some around) = typed_then around (λ n t. created_type t p.type_name)

  -- THE TYPE OF A MODULE THAT NO TYPE DECLARES: of the network; or of one that was created in the
  -- module around it, whose type is asked for first
  abbrev pub type_undeclared : Module → Option Module → Option Planned → KeyAsking
  type_undeclared m around None = numbered (s.root m)
  type_undeclared m around (Some p) = type_planned p around

  abbrev pub type_declared : Module → Option Module → KeyAsking
  type_declared m None = type_undeclared m (s.stands m).around (s.planned m)
  type_declared m (Some around) =
      if s.is_too_deep m then Done (Err (fault.Value TooDeep)) else typed_then around
      (λ n t. type_in m around t (submodule_named (s.stands m).name t.submodules))

  -- THE TYPE OF A MODULE: the nesting of one that a type declares comes first
  abbrev pub type_asking : Module → KeyAsking
  type_asking m = type_declared m (declarer s m)

  -- ---- gates

  abbrev pub sized_or_open : Option Posed → KeyAsking
  sized_or_open None = is (value.Whole (pos 0))
  sized_or_open (Some p) = posed_asking (Some p)

  -- A DECLARED SIZE: a vector whose size is given nowhere has none
  abbrev pub declared_asking : Module → TypeDeclaration → List ℕ → SubmoduleBody → KeyAsking
  declared_asking m t g body = if has_vector (type_gates.gates_of t.gates) g
      then sized_or_open (gate_size_posed s m t body g) else Done (Err NoGate)

  -- A FINISHED SIZE is read off the inside of the module around; nothing is connected around the
  -- network and around what was created
  abbrev pub gate_size : Module → List ℕ → Option Module → KeyAsking
  gate_size m g None = ask_then (key m (what.Declared g)) is
  gate_size m g (Some around) =
      typed_then around (λ n t. Ask (key around what.Joined) (size_read s t (s.stands m) g))

  -- `sizeof(g)`: a gate vector of the module goes before a submodule vector
  abbrev pub size_of : Module → List ℕ → TypeDeclaration → KeyAsking
  size_of m g t =
      if has_vector (type_gates.gates_of t.gates) g then ask_then (key m (what.GateSize g)) is
      else vector_size m (submodule_named g t.submodules)

  abbrev pub inside_of : Module → Bool → ℕ → TypeDeclaration → KeyAsking
  inside_of m is_whole n t =
      inside m s.types (type_gates s) is_whole (place_in s m section.OfInside) n t

  -- what a key asks of a module of that type
  abbrev pub asking_in : Module → What → ℕ → TypeDeclaration → KeyAsking
  asking_in m (what.Param x) n t = body_then m (λ body. posed_asking (parameter_posed s m t body x))
  asking_in m (what.Condition sub) n t = posed_asking (condition_posed s m t sub)
  asking_in m (what.VectorSize sub) n t = posed_asking (vector_size_posed s m t sub)
  asking_in m (what.Declared g) n t = body_then m (declared_asking m t g)
  asking_in m (what.GateSize g) n t = gate_size m g (declarer s m)
  asking_in m (what.Sizeof g) n t = size_of m g t
  asking_in m (what.Exists sub) n t = exists m (submodule_named sub t.submodules)
  asking_in m (what.ExistsAt sub k) n t = exists_at m k (submodule_named sub t.submodules)
  asking_in m (what.Member sub x) n t = member m x (submodule_named sub t.submodules)
  asking_in m (what.Element sub k x) n t = element_of m k x (submodule_named sub t.submodules)
  asking_in m (what.Channel c x) n t = posed_asking (channel_posed s m c t x)
  asking_in m (what.Carrier c) n t =
      known_then (channel_lines s t c) (carrier_by m c (kind_there s t c))
  asking_in m what.Joined n t = inside_of m false n t
  asking_in m what.Inside n t = inside_of m true n t
  asking_in m what.Type n t = numbered (Some n)

  -- WHAT A KEY ASKS: the type of its module first
  abbrev pub asking_by : Module → What → KeyAsking
  asking_by m what.Type = type_asking m
  asking_by m w = typed_then m (asking_in m w)

  abbrev pub asking_of : Key → KeyAsking
  asking_of k = asking_by k.site k.what

  abbrev pub rules_of : Rules Key Found ModelFault
  rules_of = record { same = same_key; asking = asking_of; circle = fault.Value Circle }

  -- THE VALUE OF A KEY, or why it has none: Circle where it rests on itself
  abbrev pub value_at : Key → Result Found ModelFault
  value_at k = value_of rules_of k
