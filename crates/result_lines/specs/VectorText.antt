-- The text of the vector file.
use Rattle.std.specs.Prelude.{ℕ, ◌+◌, List, [], ◌∷◌, ◌++◌, codes, if◌then◌else◌}
use Rattle.std.specs.Fmt.{decimal, signed_decimal}
use Rattle.std.specs.List.{flat_map}
use Rattle.model_questions.specs.declared.record.Record.{Record}
use Rattle.recorders.specs.declared.vector_line.VectorLine.{VectorLine}
use Rattle.recorders.specs.Hearing.{hears}
use Rattle.result_lines.specs.Fields.{field}
use Rattle.run_semantics.specs.declared.traces.Emission.{Emission}
use Rattle.sim_time.specs.Text.{text_of_time}

-- the line that declares a vector of that number: its module's path, and the statistic that records
-- it
abbrev pub vector_line : ℕ → VectorLine → List ℕ
vector_line number v =
    codes "vector " ++ (field (decimal number) 32
    ++ (field v.path 32 ++ (field v.statistic 58 ++ codes "vector ETV\n")))

-- the lines of vectors whose numbers count up from this one
abbrev pub vector_lines : ℕ → List VectorLine → List ℕ
vector_lines number [] = []
vector_lines number (v ∷ vs) = vector_line number v ++ vector_lines (number + 1) vs

-- the line of a value: the vector's number, the event's number, the time in seconds, and the value,
-- separated by tabs
abbrev pub data_line : ℕ → Emission → List ℕ
data_line number e =
    field (decimal number) 9 ++ (field (decimal e.event) 9
    ++ (field (text_of_time e.time) 9 ++ field (signed_decimal e.value) 10))

-- the line of the value in the vector of that number, where it hears it
abbrev pub heard_line : List Record → Emission → ℕ → VectorLine → List ℕ
heard_line records e number v = if hears records v e then data_line number e else []

-- the lines of a value in vectors whose numbers count up from this one: one for each that hears it
abbrev pub heard_lines : List Record → Emission → ℕ → List VectorLine → List ℕ
heard_lines records e number [] = []
heard_lines records e number (v ∷ vs) =
    heard_line records e number v ++ heard_lines records e (number + 1) vs

-- the lines of all values, in the order of their emission, and for one value by rising number of
-- the vector
abbrev pub data_lines : List Record → List VectorLine → List Emission → List ℕ
data_lines records vectors emissions = flat_map (λ e. heard_lines records e 0 vectors) emissions

-- the text of a vector file: the header, a line for each vector, numbered from 0, and the values
abbrev pub vector_text : List ℕ → List VectorLine → List Record → List Emission → List ℕ
vector_text header vectors records emissions =
    header ++ (vector_lines 0 vectors ++ data_lines records vectors emissions)
