-- The channels that every file knows, with their parameters.
-- OMNeT++ Simulation Manual, "Channels".
use Rattle.std.specs.Prelude.{ℕ, pos, false, List, [], ◌∷◌, ◌++◌, Option, Some, None, if◌then◌else◌}
use Rattle.std.specs.Prelude.{codes}
use Rattle.std.specs.Str.{bytes_eq}
use Rattle.sim_values.specs.declared.value.Dimension.{Dimension}
use Rattle.sim_values.specs.declared.value.Dimension.TheVariants.{Time, Rate}
use Rattle.sim_values.specs.declared.value.Value.{Value}
use Rattle.sim_values.specs.declared.value.Value.TheVariants as values
use Rattle.ned_trees.specs.declared.expressions.Expression.TheVariants as expression
use Rattle.ned_trees.specs.declared.declarations.ParameterValue.TheVariants as parameter_value
use Rattle.ned_trees.specs.declared.declarations.ParameterWord.{ParameterWord}
use Rattle.ned_trees.specs.declared.declarations.ParameterWord.TheVariants as word
use Rattle.ned_trees.specs.declared.declarations.SectionLine.{SectionLine}
use Rattle.ned_trees.specs.declared.declarations.SectionLine.TheVariants as line

-- `WORD NAME @unit(UNIT) = default(VALUE);`
abbrev pub built_in_line : List ℕ → ParameterWord → Option Dimension → Value → SectionLine
built_in_line name w unit v = line.Declaration (record {
  name = name;
  word = w;
  unit = unit;
  value = Some (parameter_value.Default (expression.Literal v));
})

-- `double delay @unit(s) = default(0s); bool disabled = default(false);`
abbrev pub delay_lines : List SectionLine
delay_lines =
    built_in_line (codes "delay") word.Double (Some Time) (values.Quantity Time (pos 0))
    ∷ built_in_line (codes "disabled") word.Bool None (values.Truth false)
    ∷ []

-- `int ber = default(0); int per = default(0);`
abbrev pub error_lines : List SectionLine
error_lines =
    built_in_line (codes "ber") word.Int None (values.Whole (pos 0))
    ∷ built_in_line (codes "per") word.Int None (values.Whole (pos 0))
    ∷ []

-- `double datarate @unit(bps) = default(0bps);`, and those
abbrev pub rate_lines : List SectionLine
rate_lines = built_in_line (codes "datarate") word.Double (Some Rate) (values.Quantity Rate (pos 0))
    ∷ error_lines

-- the lines of the built-in channel of that name: an IdealChannel has none
abbrev pub built_in_lines : List ℕ → List SectionLine
built_in_lines name =
    if bytes_eq name (codes "DelayChannel") then delay_lines
    else (if bytes_eq name (codes "DatarateChannel") then delay_lines ++ rate_lines else [])

-- the lines of the built-in channel that a type extends, where it extends one
abbrev pub root_lines : Option (List ℕ) → List SectionLine
root_lines None = []
root_lines (Some name) = built_in_lines name
