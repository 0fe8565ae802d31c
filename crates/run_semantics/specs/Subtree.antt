-- Ids of modules, and a module and all below it.
pub use Rattle.event_set.specs.Events.{among}
use Rattle.std.specs.Prelude.{ℕ, zero, suc, ◌==◌, ◌||◌, Bool, false, not, List, [], ◌∷◌, ◌++◌}
use Rattle.std.specs.Prelude.{Option, Some, None}
use Rattle.std.specs.List.{filter}
use Rattle.model_questions.specs.declared.record.Record.{Record}
use Rattle.model_questions.specs.Records.{record_at}

-- as many ids as there are modules, from this one on
abbrev pub ids_from : {X : Type 0} → ℕ → List X → List ℕ
ids_from id [] = []
ids_from id (x ∷ xs) = id ∷ ids_from (suc id) xs

-- those of the first ids that are among the others
abbrev pub common : List ℕ → List ℕ → List ℕ
common ids others = filter (λ id. among id others) ids

-- those of the first ids that are not among the others
abbrev pub without : List ℕ → List ℕ → List ℕ
without ids others = filter (λ id. not (among id others)) ids

-- ---- modules below others

abbrev pub is_under : ℕ → Option Record → Bool
is_under parent None = false
is_under parent (Some r) = r.parent == parent

-- those of these modules that are submodules of that one, by their ids
abbrev pub submodules : List Record → List ℕ → ℕ → List ℕ
submodules records ids parent = filter (λ id. is_under parent (record_at records id)) ids

-- lists one after another
abbrev pub each_of : (ℕ → List ℕ) → List ℕ → List ℕ
each_of f [] = []
each_of f (x ∷ xs) = f x ++ each_of f xs

-- a module, and then the subtrees of its submodules, one after another; so many levels at most
abbrev pub outer_first_to : ℕ → (ℕ → List ℕ) → ℕ → List ℕ
outer_first_to zero below id = []
outer_first_to (suc depth) below id = id ∷ each_of (outer_first_to depth below) (below id)

-- the subtrees of the submodules of a module, one after another, and then it; so many levels at
-- most
abbrev pub inner_first_to : ℕ → (ℕ → List ℕ) → ℕ → List ℕ
inner_first_to zero below id = []
inner_first_to (suc depth) below id = each_of (inner_first_to depth below) (below id) ++ id ∷ []

-- THE ORDER OF CALLS: a module and those of the others that are below it, each before its
-- submodules, siblings in their order, the whole subtree of one before the next. There are at most
-- 33 levels: the 32 that are set up, and what is inside of the last.
unfoldable pub outer_first : List Record → List ℕ → ℕ → List ℕ
outer_first records ids id = outer_first_to 33 (submodules records ids) id

-- THE ORDER OF THE END: the same, but each stands after its submodules
unfoldable pub inner_first : List Record → List ℕ → ℕ → List ℕ
inner_first records ids id = inner_first_to 33 (submodules records ids) id

-- ---- what stands inside of a module

abbrev pub inside_around : (ℕ → Bool) → Option Record → Bool
inside_around inside None = false
inside_around inside (Some r) = inside r.parent

-- whether a module is the first one or stands inside of it, so many levels below at most
abbrev pub stands_in_to : ℕ → List Record → ℕ → ℕ → Bool
stands_in_to zero records outer id = false
stands_in_to (suc depth) records outer id =
    (id == outer) || inside_around (stands_in_to depth records outer) (record_at records id)

-- WHAT STANDS IN A MODULE: it, and all that has it among those around it
unfoldable pub stands_in : List Record → ℕ → ℕ → Bool
stands_in records outer id = stands_in_to 33 records outer id
