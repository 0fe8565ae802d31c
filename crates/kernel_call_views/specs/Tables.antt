-- What calls show of modules, and tables of it.
use Rattle.std.specs.Prelude.{◌≡◌, ℕ, zero, suc, ◌==◌, Bool, true, false, List, [], ◌∷◌, ◌++◌}
use Rattle.std.specs.Prelude.{Option, Some, None, if◌then◌else◌}
use Rattle.model_questions.specs.declared.record.Record.{Record}
use Rattle.model_questions.specs.Answers.{Answers, gates_of, parameters_of}
use Rattle.model_questions.specs.Records.{path_of, record_at}
use Rattle.module_tree.specs.Boxes.{Seated, EachBox}
use Rattle.kernel_call_views.specs.declared.CallView.{CallView}
use Rattle.kernel_call_views.specs.declared.CallViews.{CallViews}

-- WHAT CALLS SHOW of the module of that id, but for what changes from one call to the next
abbrev pub shown_of : Answers → List Record → ℕ → CallView
shown_of m records id = record {
  path = path_of records id;
  parameters = parameters_of m records id;
  gates = gates_of m records id;
}

-- it is that, and stays so whatever modules are created besides
abbrev pub IsShown : Answers → List Record → ℕ → CallView → Type 0
IsShown m records id shown = (more : List Record) → shown ≡ shown_of m (records ++ more) id

-- the entries of a table, by rising ids
abbrev pub entries_in : CallViews → List (Seated CallView)
entries_in t = t.entries.seats

-- A TABLE IS RIGHT: each entry is what calls show of its module, and stays so whatever modules are
-- created besides
abbrev pub AreShown : Answers → List Record → CallViews → Type 0
AreShown m records t = EachBox (IsShown m records) (entries_in t)

-- ---- modules that were created with all that are around them

-- around that one
abbrev pub whole_by : (ℕ → Bool) → Option Record → Bool
whole_by is_around None = false
whole_by is_around (Some r) = if r.parent == 0 then true else is_around r.parent

-- the module of that id and those around it, so many at most, were created
abbrev pub is_whole : ℕ → List Record → ℕ → Bool
is_whole zero records id = true
is_whole (suc depth) records id = whole_by (is_whole depth records) (record_at records id)
