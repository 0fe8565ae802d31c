-- What the statistics of a module make of the values that they hear.
-- OMNeT++ Simulation Manual, "Result Recording Modes".
use Rattle.std.specs.Prelude.{◌-◌, ℤ, pos, ◌+ℤ◌, List, map, filter, fold, length, slice_get, Option}
use Rattle.std.specs.Prelude.{Some, None}
use Rattle.std.specs.Int.{int_min, int_max}
use Rattle.std.specs.List.{reduce}
use Rattle.model_questions.specs.declared.record.Record.{Record}
use Rattle.ned_trees.specs.declared.modes.Mode.{Mode}
use Rattle.ned_trees.specs.declared.modes.Mode.TheVariants as mode
use Rattle.recorders.specs.declared.vector_line.VectorLine.{VectorLine}
use Rattle.recorders.specs.Hearing.{hears}
use Rattle.run_semantics.specs.declared.traces.Emission.{Emission}

-- THE VALUES that a statistic hears: those of all emissions of its signal in the subtree of its
-- module, in their order
abbrev pub values_heard : List Record → List Emission → VectorLine → List ℤ
values_heard records emissions v =
    map (λ (e : Emission). e.value) (filter (hears records v) emissions)

-- how many there are
abbrev pub count_of : List ℤ → ℤ
count_of values = pos (length values)

-- their sum, which is 0 where there is none
abbrev pub sum_of : List ℤ → ℤ
sum_of values = fold (λ s x. s +ℤ x) (pos 0) values

-- the least, the greatest and the last of them: none where there is none
abbrev pub min_of : List ℤ → Option ℤ
min_of values = reduce int_min values

abbrev pub max_of : List ℤ → Option ℤ
max_of values = reduce int_max values

abbrev pub last_of : List ℤ → Option ℤ
last_of values = slice_get values (length values - 1)

-- THE SCALAR that a mode makes of these values; a vector is none
abbrev pub value_in : Mode → List ℤ → Option ℤ
value_in mode.Count values = Some (count_of values)
value_in mode.Sum values = Some (sum_of values)
value_in mode.Min values = min_of values
value_in mode.Max values = max_of values
value_in mode.Last values = last_of values
value_in mode.Vector values = None
