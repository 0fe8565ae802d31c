use Rattle.recorders.specs.Hearing.{is_within}
use Rattle.result_lines.proofs.next_vector.next_around.Goals as goal

pub returns : goal.returns
unfolding is_within
returns c = c.next_around_up.ensures
