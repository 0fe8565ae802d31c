-- Expressions that give keys their values, as the code has them.
use Rattle.std.specs.Prelude.{Option, Some, None}
use Rattle.inside_keys.specs.Settings.{Posed}
use Rattle.inside_run.specs.declared.posed.Posable.{Posable}

abbrev pub posed_by : Posable → Posed
posed_by p = record {
  expression = p.expression.now;
  place = p.place;
  variables = p.variables;
  check = p.check;
}

abbrev pub maybe_posed : Option Posable → Option Posed
maybe_posed None = None
maybe_posed (Some p) = Some (posed_by p)
