-- the model that is run
use Rattle.model_answers.specs.Answering.{answers_of}
use Rattle.checkpoint_runs.proofs.running.Runner.advance.Given as goal

abbrev pub ghosts-go_on : goal.ghosts-go_on
ghosts-go_on g a = record { answers = answers_of a.model.now }

abbrev pub ghosts-begin : goal.ghosts-begin
ghosts-begin g a = record { answers = answers_of a.model.now }
