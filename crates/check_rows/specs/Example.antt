-- What references mean in the rows of values.
use Rattle.std.specs.Prelude.{ℕ, pos, negsuc, int_lt, true, List, ◌++◌, Ok, Err, codes}
use Rattle.std.specs.Prelude.{if◌then◌else◌}
use Rattle.std.specs.Str.{bytes_eq}
use Rattle.sim_values.specs.declared.value.Dimension.TheVariants.{Time}
use Rattle.sim_values.specs.declared.value.Value.TheVariants as value
use Rattle.ned_trees.specs.declared.expressions.Scope.TheVariants.{This, Parent}
use Rattle.sim_values.specs.declared.value_fault.ValueFault.TheVariants.{Unassigned, Circle}
use Rattle.param_eval.specs.Operators.{Evaluated}
use Rattle.param_eval.specs.References.{Reference, Own, Scoped, Member, Element, Index, ParentIndex}
use Rattle.param_eval.specs.References.{Sizeof, Exists, ExistsAt}

-- the parameters of a bare name
abbrev pub own : List ℕ → Evaluated
own x =
    if bytes_eq x (codes "count") then Ok (value.Whole (pos 3))
    else (if bytes_eq x (codes "gap") then Ok (value.Quantity Time (pos 2000000000000))
    else (if bytes_eq x (codes "polite") then Ok (value.Truth true)
    else (if bytes_eq x (codes "least") then Ok (value.Whole (negsuc 9223372036854775807))
    else (if bytes_eq x (codes "round") then Err Circle
    else Err Unassigned))))

-- `this.x` and `sub.x` are their own texts without the points, of `sub[e].x` it is the index
abbrev pub meaning : Reference → Evaluated
meaning (Own x) = own x
meaning (Scoped This x) = Ok (value.Text (codes "this" ++ x))
meaning (Scoped Parent x) = Ok (value.Text (codes "parent" ++ x))
meaning (Member sub x) = Ok (value.Text (sub ++ x))
meaning (Element sub k x) = Ok (value.Whole k)
meaning Index = Ok (value.Whole (pos 5))
meaning ParentIndex = Ok (value.Whole (pos 7))
meaning (Sizeof x) = Err Unassigned
meaning (Exists x) = Ok (value.Truth (bytes_eq x (codes "sub")))
meaning (ExistsAt x k) = Ok (value.Truth (int_lt k (pos 3)))
