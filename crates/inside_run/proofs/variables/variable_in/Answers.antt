use Rattle.std.proofs.Common.{Some, ap, sym, ◌∙◌, rules, arith}
use Rattle.std.specs.Option.{option_copied}
use Rattle.std.proofs.lemmas.Int.{to_z-of_z}
use mir.Syntax.{w64}
use Rattle.inside_run.proofs.Scopes.{found_at, next_at, there_is}
use Rattle.inside_run.proofs.variables.variable_in.Goals.{in-Some+in_default-bound_by, in_default}
use Rattle.inside_run.proofs.variables.variable_in.Goals as goal

pub returns-in-Some-bound_by : goal.returns-in-Some-bound_by
returns-in-Some-bound_by c =
    ap Some (to_z-of_z w64 c.in-Some-bound_by.number (search rules))
    ∙ found_at c.args.tasks.now c.loop-depth.depth c.in-Some.task.now c.args.name.now c.bound_by.result c.in-Some-bound_by.number (sym c.at.ensures ∙ ap option_copied c.in-Some.is) c.bound_by.ensures c.in-Some-bound_by.is c.loop-depth.invariant

pub loop-depth-preserved : goal.loop-depth-preserved
loop-depth-preserved c = elim c.match-at.branch [
  | in-Some+in_default-bound_by w ↦ next_at c.args.tasks.now c.loop-depth.depth w.in-Some.task.now c.args.name.now w.bound_by.result (sym c.at.ensures ∙ ap option_copied w.in-Some.is) w.bound_by.ensures w.in_default-bound_by.is c.loop-depth.invariant
  | in_default w ↦ absurd (there_is c.args.tasks.now c.loop-depth.depth (omega (arith, c.loop-depth-test.true, c.len-depth-end.ensures)) (sym c.at.ensures ∙ ap option_copied w.in_default.is))
]
