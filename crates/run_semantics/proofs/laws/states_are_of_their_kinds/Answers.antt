use Rattle.run_semantics.proofs.States.{states_of_run}
use Rattle.run_semantics.proofs.laws.states_are_of_their_kinds.Goals as goal

pub returns : goal.returns
returns c = states_of_run
