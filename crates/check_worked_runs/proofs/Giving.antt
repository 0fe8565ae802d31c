-- What a run gives, by answers that compute.
use Rattle.std.proofs.Common.{◌≡◌, ◌∙◌, ℕ, List, [], ap}
use Rattle.module_api.specs.Behaviour.{Behaviour}
use Rattle.model_data.specs.declared.model.Model.{Model}
use Rattle.model_questions.specs.Answers.{Answers}
use Rattle.checkpoint_runs.specs.Running.{fresh_run}
use Rattle.checkpoint_runs.specs.Positions.{events_behind, start_of}
use Rattle.result_files.specs.Files.{scalar_text_of, vector_text_of}
use Rattle.edit_session.specs.Files.{scalars_of_run, vectors_of_run}
use Rattle.desk_client.specs.Answers.{done_text}
use Rattle.desk_answers.specs.Turns.{run_answer}
use Rattle.module_stock.specs.Stock.{stock}
use Rattle.check_worked_runs.specs.Runs.{Gives}
use Rattle.check_worked_runs.proofs.Computed.{answers_are, computed}

abbrev pub answer_with : Behaviour → Answers → ℕ → List ℕ
answer_with b a limit =
    let ran = fresh_run b a limit in
    done_text ran.outcome (start_of limit []) (events_behind (start_of limit []) ran.world.count)

abbrev pub scalars_with : Behaviour → Answers → Model → ℕ → List ℕ
scalars_with b a m limit =
    let world = (fresh_run b a limit).world in
    scalar_text_of m world.records world.finished world.scalars world.emissions

abbrev pub vectors_with : Behaviour → Answers → Model → ℕ → List ℕ
vectors_with b a m limit =
    let world = (fresh_run b a limit).world in
    vector_text_of m world.records world.emissions

answer_so : (b : Behaviour) (m : Model) (limit : ℕ) → run_answer b m limit [] ≡ answer_with b (computed m) limit
answer_so b m limit = ap (λ (a : Answers). answer_with b a limit) (answers_are m)

scalars_so : (b : Behaviour) (m : Model) (limit : ℕ) → scalars_of_run b m limit ≡ scalars_with b (computed m) m limit
scalars_so b m limit = ap (λ (a : Answers). scalars_with b a m limit) (answers_are m)

vectors_so : (b : Behaviour) (m : Model) (limit : ℕ) → vectors_of_run b m limit ≡ vectors_with b (computed m) m limit
vectors_so b m limit = ap (λ (a : Answers). vectors_with b a m limit) (answers_are m)

pub gives : (m : Model) (limit : ℕ) (answer scalars vectors : List ℕ) → answer_with stock (computed m) limit ≡ answer →
    scalars_with stock (computed m) m limit ≡ scalars → vectors_with stock (computed m) m limit ≡ vectors → Gives m limit answer scalars vectors
gives m limit answer scalars vectors a s v = record {
  answer_is = answer_so stock m limit ∙ a;
  scalars_are = scalars_so stock m limit ∙ s;
  vectors_are = vectors_so stock m limit ∙ v;
}
