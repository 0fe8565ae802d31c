-- The paths of the files of a run.
use Rattle.std.specs.Prelude.{ℕ, List, ◌++◌, codes}
use Rattle.explain_types.specs.Names.{shown}

-- THE PATH of a file of a run: it stands in the folder, and is named by the configuration, with
-- that ending
abbrev pub file_path : List ℕ → List ℕ → List ℕ → List ℕ
file_path directory config ending =
    directory ++ (codes "/" ++ (shown config ++ (codes "-#0." ++ ending)))

-- the path of the file beside the one of that path, which is written in its place until it is whole
abbrev pub part_path : List ℕ → List ℕ
part_path path = path ++ codes ".part"
