-- What gives a parameter its value, as the code has it.
use Rattle.std.specs.Prelude.{Option, Some, None}
use Rattle.param_values.specs.declared.scene.Given as given_type
use Rattle.param_values.specs.declared.scene.Given.TheVariants as given
use Rattle.param_values.specs.declared.scene.Written as written_type
use Rattle.param_values.specs.Settings.{Written, Given, Fixed, Default}

abbrev pub written_by : written_type.Written → Written
written_by w = record { section = w.section; expression = w.expression.now }

abbrev pub maybe_written : Option written_type.Written → Option Written
maybe_written None = None
maybe_written (Some w) = Some (written_by w)

abbrev pub given_by : Option given_type.Given → Option Given
given_by None = None
given_by (Some (given.Fixed w)) = Some (Fixed (written_by w))
given_by (Some (given.Default w)) = Some (Default (written_by w))
