-- The modules that were created, and what is looked up of them.
use Rattle.std.specs.Prelude.{◌≡◌, ◌≤◌, ◌<◌, ◌^◌, ℕ, suc, Bool, not, ◌&&◌, List, [], ◌∷◌, bytes_eq}
use Rattle.std.specs.Prelude.{length, map}
use Rattle.model_questions.specs.declared.record.Record.{Record}
use Rattle.model_questions.specs.Records.{path_of}
use Rattle.path_table.specs.declared.ModuleAt.{ModuleAt}
use Rattle.run_semantics.specs.Subtree.{among, ids_from, without}

-- MODULES: their records, by rising ids, and the ids of those that are dead, in the order in which
-- they died
pub record Modules : Type 0 where
  pub records : List Record
  pub dead : List ℕ

-- the ids of those that live
abbrev pub living : Modules → List ℕ
living m = without (ids_from 1 m.records) m.dead

-- whether the module of that id has that path, and is not dead
abbrev pub lives_at : List ℕ → Modules → ℕ → Bool
lives_at path m id = bytes_eq (path_of m.records id) path && not (among id m.dead)

-- ---- what is looked up

-- each module was created after the one around it, where so many were created before these
abbrev pub AroundFirst : ℕ → List Record → Type 0
AroundFirst before [] = Unit {0}
AroundFirst before (r ∷ rs) = (r.parent ≤ before) × AroundFirst (suc before) rs

-- a module with its path
abbrev pub module_as : List Record → List ℕ → ℕ → ModuleAt
module_as records dead id = record { path = path_of records id; is_dead = among id dead }

abbrev pub with_paths : List Record → List ℕ → List ModuleAt
with_paths records dead = map (module_as records dead) (ids_from 1 records)

-- the module around each
abbrev pub those_around : List Record → List ℕ
those_around records = map (λ (r : Record). r.parent) records

-- these are the paths and the modules around those of these records
pub record AreLookedUp (records : List Record) (dead : List ℕ) (paths : List ModuleAt)
    (around : List ℕ) : Type 0 where
  pub few : length records < 2 ^ 32
  pub nested : AroundFirst 0 records
  pub paths_are : paths ≡ with_paths records dead
  pub around_are : around ≡ those_around records
