use Rattle.std.proofs.Common.{◌<◌, ◌∙◌, length, ap, sym, arith}
use Rattle.std.proofs.lemmas.Option.{slice_get_within}
use Rattle.std.specs.Option.{option_copied}
use Rattle.inside_walk.proofs.Turns.{less, no_more, one_more, up_to}
use Rattle.inside_walk.proofs.joins.turn_of.Goals as goal

pub overflow_add-depth : goal.overflow_add-depth
overflow_add-depth c =
    let h : c.tasks.depth < length c.args.tasks.now = slice_get_within c.args.tasks.now c.tasks.depth c.in-Some.task.now (sym c.at.ensures ∙ ap option_copied c.in-Some.is) in
    omega (arith, h, c.len-count.ensures)

pub tasks-smaller : goal.tasks-smaller
tasks-smaller c = less (length c.args.tasks.now) c.tasks.depth (slice_get_within c.args.tasks.now c.tasks.depth c.in-Some.task.now (sym c.at.ensures ∙ ap option_copied c.in-Some.is))

pub tasks-preserved : goal.tasks-preserved
tasks-preserved c = record {
  below = up_to (length c.args.tasks.now) c.tasks.depth (slice_get_within c.args.tasks.now c.tasks.depth c.in-Some.task.now (sym c.at.ensures ∙ ap option_copied c.in-Some.is));
  same = one_more c.args.tasks.now c.tasks.depth c.tasks.turn c.push_number.new.turn c.at.result c.in-Some.task c.at.ensures c.in-Some.is c.in_ok-push_number.ensures c.tasks.invariant.same;
}

pub returns : goal.returns
returns c = no_more c.args.tasks.now c.tasks.depth c.tasks.turn c.at.result c.at.ensures c.in_default.is c.tasks.invariant.same
