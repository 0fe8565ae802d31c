-- Dimensions of quantities.
use Rattle.std.specs.Prelude.{Bool}
use denote.Enum.Bare.{sameb}
use Rattle.sim_values.specs.contracts.value.Dimension as dimensions
use Rattle.sim_values.specs.declared.value.Dimension.{Dimension}

abbrev pub same_dimension : Dimension → Dimension → Bool
same_dimension = sameb dimensions.the_type
