-- Whether an ini text has any per-object option.
use Rattle.std.specs.Prelude.{Bool, false, is_some}
use Rattle.std.specs.List.{list_any}
use Rattle.ini_trees.specs.declared.lines.IniLine.{IniLine}
use Rattle.ini_trees.specs.declared.lines.LineMeaning.{LineMeaning}
use Rattle.ini_trees.specs.declared.lines.LineMeaning.TheVariants as line
use Rattle.ini_trees.specs.Entries.{object_said}
use Rattle.model_data.specs.declared.model.Model.{Model}

-- a line is an entry of a per-object option
abbrev pub is_option_line : LineMeaning → Bool
is_option_line (line.Entry e) = is_some (object_said e.meaning)
is_option_line _ = false

-- the text of the model has such a line, in whatever section
abbrev pub has_option_line : Model → Bool
has_option_line m = list_any (λ (l : IniLine). is_option_line l.meaning) m.ini
