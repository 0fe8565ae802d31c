-- Constant expressions: those that say their value wherever they stand.
use Rattle.std.specs.Prelude.{Bool, true, false, ◌&&◌}
use Rattle.ned_trees.specs.declared.expressions.Expression.{Expression, fold-Expression}
use Rattle.ned_trees.specs.declared.expressions.Expression.TheOpen.{Expression-F}

-- by whether the parts are so: literals, operators and signs, `?:`, parentheses, `min` and `max`;
-- nothing that refers to a parameter, an index, a size or a submodule
abbrev pub constant_by : Expression-F Bool → Bool
constant_by (Expression-F.Literal v) = true
constant_by (Expression-F.Name x) = false
constant_by (Expression-F.Scoped s x) = false
constant_by (Expression-F.Member x y) = false
constant_by (Expression-F.Element x e y) = false
constant_by Expression-F.Index = false
constant_by Expression-F.IndexCall = false
constant_by Expression-F.ParentIndex = false
constant_by (Expression-F.Sizeof x) = false
constant_by (Expression-F.Exists x) = false
constant_by (Expression-F.ExistsAt x e) = false
constant_by (Expression-F.Chosen c a b) = a && b
constant_by (Expression-F.Group e) = e
constant_by (Expression-F.Signed s e) = e
constant_by (Expression-F.Binary o a b) = a && b
constant_by (Expression-F.Conditional c a b) = c && (a && b)

-- WHETHER AN EXPRESSION IS CONSTANT: it refers to nothing
abbrev pub is_constant : Expression → Bool
is_constant = fold-Expression Bool constant_by
