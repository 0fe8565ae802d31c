-- Records of the modules that were created, their lines, and their paths.
use Rattle.std.specs.Prelude.{ℕ, zero, suc, ◌==◌, ◌&&◌, Bool, true, false, bytes_eq, List, [], ◌∷◌}
use Rattle.std.specs.Prelude.{◌++◌, Option, Some, None, slice_get, decimal, if◌then◌else◌}
use Rattle.model_questions.specs.declared.record.Origin.{Origin}
use Rattle.model_questions.specs.declared.record.Origin.TheVariants as origin
use Rattle.model_questions.specs.declared.record.Record.{Record}

-- the record of that id: ids count from 1
abbrev pub record_at : List Record → ℕ → Option Record
record_at records zero = None
record_at records (suc k) = slice_get records k

abbrev pub index_of : Option Record → Option ℕ
index_of None = None
index_of (Some r) = r.index

-- ---- lines of records

-- A PLACE, where a module stands: its record and those of the modules around it, from the inside
-- outwards, the last one that of the network; empty where there is no such module. No more of the
-- records is known to what answers about the module.
abbrev pub Lineage : Type 0
Lineage = List Record

-- a module's record, and those of the modules around it
abbrev pub with_those_around : (ℕ → List Record) → Option Record → List Record
with_those_around around None = []
with_those_around around (Some r) = r ∷ around r.parent

-- the records of a module and of those around it, from the inside outwards, so many at most
abbrev pub lineage_up : ℕ → List Record → ℕ → List Record
lineage_up zero records id = []
lineage_up (suc depth) records id =
    with_those_around (lineage_up depth records) (record_at records id)

-- where the module of that id stands: modules are nested at most 32 deep
unfoldable pub place_of : List Record → ℕ → Lineage
place_of records id = lineage_up 32 records id

-- the record of the module that stands there, if any
abbrev pub record_there : Lineage → Option Record
record_there [] = None
record_there (r ∷ rs) = Some r

-- a place as it is before the class of its module is known: what is answered about the class of a
-- module that is created doesn't rest on it
abbrev pub untyped : Lineage → Lineage
untyped [] = []
untyped (r ∷ rs) = record r { class = None } ∷ rs

-- where the module around it stands
abbrev pub place_around : Lineage → Lineage
place_around [] = []
place_around (r ∷ rs) = rs

-- ---- paths

-- a module's name among its siblings: its index stands in brackets
abbrev pub own_name : List ℕ → Option ℕ → List ℕ
own_name name None = name
own_name name (Some index) = name ++ (91 ∷ (decimal index ++ 93 ∷ []))

-- the path of a submodule of that name in the module of that path
abbrev pub path_under : List ℕ → List ℕ → List ℕ
path_under path name = path ++ 46 ∷ name

-- THE PATH of the module that stands there: the names of its line, from the outermost one to its
-- own, with dots between them
abbrev pub path_along : Lineage → List ℕ
path_along [] = []
path_along (r ∷ []) = own_name r.name r.index
path_along (r ∷ (s ∷ rs)) = path_under (path_along (s ∷ rs)) (own_name r.name r.index)

-- the full path of the module of that id
abbrev pub path_of : List Record → ℕ → List ℕ
path_of records id = path_along (place_of records id)

-- the path of the module around it, empty where there is none
abbrev pub path_around : List Record → ℕ → List ℕ
path_around records id = path_along (place_around (place_of records id))

-- ---- the records that a building made

abbrev pub same_index : Option ℕ → Option ℕ → Bool
same_index None None = true
same_index None (Some k) = false
same_index (Some i) None = false
same_index (Some i) (Some k) = i == k

-- whether a module was built with the one around it, or is the network
abbrev pub is_built : Origin → Bool
is_built origin.Built = true
is_built (origin.Created plan) = false

-- whether a record is of a built submodule of that name and index
abbrev pub is_named : ℕ → List ℕ → Option ℕ → Record → Bool
is_named parent name index r = is_built r.origin
    && ((r.parent == parent) && (bytes_eq r.name name && same_index r.index index))

-- the id of the first of these records that is so, where the first of all has that id
abbrev pub named_from : ℕ → ℕ → List ℕ → Option ℕ → List Record → Option ℕ
named_from id parent name index [] = None
named_from id parent name index (r ∷ rs) =
    if is_named parent name index r then Some id else named_from (suc id) parent name index rs

-- the submodule of that name and index that was built when its parent was: the first of its name
-- that was built, whatever else was created
abbrev pub built_id : List Record → ℕ → List ℕ → Option ℕ → Option ℕ
built_id records parent name index = named_from 1 parent name index records
