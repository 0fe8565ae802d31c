-- What a type is when it stands alone.
use Rattle.std.specs.Prelude.{ℕ, Bool, false, List, [], ◌∷◌, ◌++◌, Option, Some, None}
use Rattle.std.specs.Prelude.{option_to_list, if◌then◌else◌}
use Rattle.std.specs.List.{list_any}
use Rattle.std.specs.Str.{bytes_eq}
use Rattle.ned_trees.specs.declared.declarations.Declaration.{Declaration}
use Rattle.ned_trees.specs.declared.declarations.ParameterValue.{ParameterValue}
use Rattle.ned_trees.specs.declared.declarations.SectionLine.{SectionLine}
use Rattle.ned_trees.specs.declared.declarations.SectionLine.TheVariants as line
use Rattle.ned_trees.specs.declared.declarations.Statistic.{Statistic}
use Rattle.ned_trees.specs.declared.declarations.Submodule.{Submodule}
use Rattle.ned_trees.specs.declared.declarations.TypeDeclaration.{TypeDeclaration}
use Rattle.ned_types.specs.Types.{gives, value_in}

-- the first that is there
abbrev pub or_else : {X : Type 0} → Option X → Option X → Option X
or_else (Some x) other = Some x
or_else None other = other

-- the value that the lines give the parameter: a later one stands in the place of an earlier one
abbrev pub last_value : List ℕ → List SectionLine → Option ParameterValue
last_value name [] = None
last_value name (l ∷ ls) = or_else (last_value name ls) (if gives name l then value_in l else None)

-- the parameter of that name, as declared
abbrev pub declaration_named : List ℕ → List SectionLine → Option Declaration
declaration_named name [] = None
declaration_named name (line.Declaration d ∷ ls) =
    if bytes_eq d.name name then Some d else declaration_named name ls
declaration_named name (_ ∷ ls) = declaration_named name ls

-- the class that the lines name, the first one
abbrev pub class_in : List SectionLine → Option (List ℕ)
class_in [] = None
class_in (line.Class name ∷ ls) = Some name
class_in (_ ∷ ls) = class_in ls

abbrev pub named_or : Option (List ℕ) → List ℕ → List ℕ
named_or (Some name) other = name
named_or None other = other

-- a simple type's class: the one that it names, or its own name
abbrev pub class_of : TypeDeclaration → List ℕ
class_of t = named_or (class_in t.lines) t.name

-- the submodule of that name
abbrev pub submodule_named : List ℕ → List Submodule → Option Submodule
submodule_named name [] = None
submodule_named name (s ∷ ss) = if bytes_eq s.name name then Some s else submodule_named name ss

-- ---- statistics

abbrev pub declares_statistic : List ℕ → SectionLine → Bool
declares_statistic name (line.Statistic s) = bytes_eq s.name name
declares_statistic name _ = false

-- whether one of the lines declares a statistic of that name
abbrev pub is_statistic_declared : List ℕ → List SectionLine → Bool
is_statistic_declared name lines = list_any (λ l. declares_statistic name l) lines

abbrev pub statistic_named : List ℕ → SectionLine → Option Statistic
statistic_named name (line.Statistic s) = if bytes_eq s.name name then Some s else None
statistic_named name _ = None

-- the statistic of that name as the last line that declares it has it
abbrev pub last_statistic : List ℕ → List SectionLine → Option Statistic
last_statistic name [] = None
last_statistic name (l ∷ ls) = or_else (last_statistic name ls) (statistic_named name l)

-- the statistic that has its place at a line, with the lines before and after it: the first line of
-- a name gives the place, and the last one the statistic
abbrev pub statistic_at : List SectionLine → SectionLine → List SectionLine → Option Statistic
statistic_at before (line.Statistic s) after =
    if is_statistic_declared s.name before then None
    else or_else (last_statistic s.name after) (Some s)
statistic_at before _ after = None

abbrev pub statistics_after : List SectionLine → List SectionLine → List Statistic
statistics_after before [] = []
statistics_after before (l ∷ ls) =
    option_to_list (statistic_at before l ls) ++ statistics_after (before ++ l ∷ []) ls

-- the statistics that lines declare, in the order of the first line of each name; a later line of a
-- name stands in the place of an earlier one
abbrev pub statistics_of : List SectionLine → List Statistic
statistics_of lines = statistics_after [] lines
