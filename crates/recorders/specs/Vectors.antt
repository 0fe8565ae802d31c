-- Which vectors a run records.
use Rattle.std.specs.Prelude.{ℕ, ◌+◌, Bool, ◌&&◌, List, [], ◌∷◌, ◌++◌, map, filter}
use Rattle.std.specs.List.{list_any}
use Rattle.model_data.specs.declared.model.Model.{Model}
use Rattle.model_questions.specs.declared.record.Record.{Record}
use Rattle.model_answers.specs.Keyed.{lines_of}
use Rattle.model_answers.specs.Answering.{type_at}
use Rattle.model_data.specs.Models.{entries_in}
use Rattle.model_questions.specs.Records.{path_of}
use Rattle.ned_trees.specs.declared.declarations.Statistic.{Statistic}
use Rattle.ned_types.specs.Flat.{statistics_of}
use Rattle.recorders.specs.declared.vector_line.VectorLine.{VectorLine}
use Rattle.recorders.specs.Hearing.{hears}
use Rattle.recorders.specs.Selection.{records_vector}
use Rattle.run_semantics.specs.declared.traces.Emission.{Emission}

-- the vector of a statistic of the module of that id
abbrev pub vector_of : List Record → ℕ → Statistic → VectorLine
vector_of records id s =
    record { id = id; path = path_of records id; statistic = s.name; source = s.source }

-- whether the vector hears one of the emissions
abbrev pub hears_any : List Record → List Emission → VectorLine → Bool
hears_any records emissions v = list_any (λ e. hears records v e) emissions

-- whether a statistic of the module of that id has a vector that is recorded and has at least one
-- value
abbrev pub has_vector : Model → List Record → List Emission → ℕ → Statistic → Bool
has_vector m records emissions id s =
    records_vector (entries_in m) (path_of records id) s
    && hears_any records emissions (vector_of records id s)

-- the vectors of these statistics of the module of that id, in their order
abbrev pub vectors_among : Model → List Record → List Emission → ℕ → List Statistic
    → List VectorLine
vectors_among m records emissions id statistics =
    map (vector_of records id) (filter (has_vector m records emissions id) statistics)

-- the vectors of the module of that id, in the order of its type's statistics
abbrev pub vectors_at : Model → List Record → List Emission → ℕ → List VectorLine
vectors_at m records emissions id =
    vectors_among m records emissions id (statistics_of (lines_of (type_at m records id)))

-- the vectors of the modules with these records, whose ids count up from this one
abbrev pub vectors_from : Model → List Record → List Emission → ℕ → List Record → List VectorLine
vectors_from m records emissions id [] = []
vectors_from m records emissions id (r ∷ rs) =
    vectors_at m records emissions id ++ vectors_from m records emissions (id + 1) rs

-- THE VECTORS that a run records, with the modules of these records and these emissions: all that
-- the options let be recorded and that hear at least one value, by rising id of the module, then in
-- the order of its type's statistics
abbrev pub vectors_of : Model → List Record → List Emission → List VectorLine
vectors_of m records emissions = vectors_from m records emissions 1 records
