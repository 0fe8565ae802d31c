-- Of what kind the values of a parameter are.
use Rattle.std.specs.Prelude.{Option}
use Rattle.sim_values.specs.declared.value.Dimension.{Dimension}
use Rattle.ned_trees.specs.declared.declarations.Declaration.{Declaration}
use Rattle.ned_trees.specs.declared.declarations.ParameterWord.{ParameterWord}
use Rattle.ned_trees.specs.declared.declarations.ParameterWord.TheVariants as word
use Rattle.param_values.specs.declared.kind.Kind.{Kind}
use Rattle.param_values.specs.declared.kind.Kind.TheVariants as kind

abbrev pub kind_by : ParameterWord → Option Dimension → Kind
kind_by word.Bool unit = kind.Truth
kind_by word.Text unit = kind.Text
kind_by word.Int unit = kind.Int unit
kind_by word.Double unit = kind.Double unit

-- of what kind the values of a parameter are that is declared so
abbrev pub kind_of : Declaration → Kind
kind_of d = kind_by d.word d.unit
