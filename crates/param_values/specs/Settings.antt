-- What a text gives a parameter.
use Rattle.ned_trees.specs.declared.expressions.Expression.{Expression}
use Rattle.param_values.specs.declared.scene.Section.{Section}

-- an expression, and the section in which it stands
pub record Written : Type 0 where
  pub section : Section
  pub expression : Expression

-- what the NED text gives a parameter: `= e`, or `= default(e)`
pub data Given : Type 0 where
  Fixed : Written → Given
  Default : Written → Given
