use Rattle.kernel_actions.proofs.Growing.{run_grows, ended_run_grows}
use Rattle.kernel_actions.proofs.laws.runs_keep_their_positions.Goals as goal

pub returns : goal.returns
returns c = record { events = run_grows; ended = ended_run_grows }
