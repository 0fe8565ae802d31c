use Rattle.network_laws.proofs.Lined.{never_busy, line_time_is}
use Rattle.network_laws.proofs.laws.lines_are_never_busy.Goals as goal

pub returns : goal.returns
returns c = record { time = line_time_is; free = never_busy }
