-- The text of the scalar file.
use Rattle.std.specs.Prelude.{ℕ, List, ◌++◌, codes}
use Rattle.std.specs.Fmt.{signed_decimal}
use Rattle.std.specs.List.{flat_map}
use Rattle.recorders.specs.declared.scalar_line.ScalarLine.{ScalarLine}
use Rattle.result_lines.specs.Fields.{field}

-- the line of a scalar: its module's path, its name, and its value
abbrev pub scalar_line : ScalarLine → List ℕ
scalar_line s = codes "scalar "
    ++ (field s.path 32 ++ (field s.name 32 ++ field (signed_decimal s.value) 10))

-- a line for each of these scalars, in their order
abbrev pub scalar_lines : List ScalarLine → List ℕ
scalar_lines scalars = flat_map scalar_line scalars

-- the text of a scalar file: the header, and a line for each scalar
abbrev pub scalar_text : List ℕ → List ScalarLine → List ℕ
scalar_text header scalars = header ++ scalar_lines scalars
