use Rattle.std.proofs.Common.{Some, bytes_eq, ap, sym, ◌∙◌, rules, arith}
use Rattle.std.specs.Option.{option_copied}
use Rattle.std.proofs.lemmas.Int.{to_z-of_z}
use mir.Syntax.{w64}
use Rattle.inside_run.proofs.Scopes.{bound_at, unbound_at, there_is}
use Rattle.inside_run.proofs.variables.bound_in.Goals.{in-Some+else-is, in_default}
use Rattle.inside_run.proofs.variables.bound_in.Goals as goal

pub returns-then-is : goal.returns-then-is
returns-then-is c =
    ap Some (to_z-of_z w64 c.in-Some.binding.now.value (search rules))
    ∙ bound_at c.args.bindings.now c.loop-depth.depth c.in-Some.binding.now c.args.name.now (sym c.at.ensures ∙ ap option_copied c.in-Some.is) (ap (bytes_eq c.in-Some.binding.now.variable) (sym c.as_bytes.ensures) ∙ sym c.if-is.ensures) c.loop-depth.invariant

pub loop-depth-preserved : goal.loop-depth-preserved
loop-depth-preserved c = elim c.match-at.branch [
  | in-Some+else-is w ↦ unbound_at c.args.bindings.now c.loop-depth.depth w.in-Some.binding.now c.args.name.now (sym c.at.ensures ∙ ap option_copied w.in-Some.is) (ap (bytes_eq w.in-Some.binding.now.variable) (sym w.as_bytes.ensures) ∙ sym w.if-is.ensures) c.loop-depth.invariant
  | in_default w ↦ absurd (there_is c.args.bindings.now c.loop-depth.depth (omega (arith, c.loop-depth-test.true, c.len-depth-end.ensures)) (sym c.at.ensures ∙ ap option_copied w.in_default.is))
]
