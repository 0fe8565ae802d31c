use Rattle.std.proofs.Common.{length, ap}
use Rattle.inside_run.proofs.Written.{bound_at_both}
use Rattle.inside_run.proofs.channels.scope_at.Goals as goal

pub returns : goal.returns
returns c =
    bound_at_both c.args.around.now c.args.clauses.now c.args.turn.now _ c.bind_all.new.scope c.bind_all-2.new.scope _ c.in_ok-left.left c.in_ok-_none._none
    c.new-scope.ensures (ap length c.as_slice-all.ensures) c.in_ok-left.ensures.bound c.in_ok-_none.ensures.bound
