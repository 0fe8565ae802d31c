-- The result files of a run.
use Rattle.std.specs.Prelude.{ℕ, List}
use Rattle.model_data.specs.declared.model.Model.{Model}
use Rattle.model_questions.specs.declared.record.Record.{Record}
use Rattle.recorders.specs.Scalars.{scalars_of}
use Rattle.recorders.specs.Vectors.{vectors_of}
use Rattle.result_files.specs.declared.files.ResultFiles.{ResultFiles}
use Rattle.result_lines.specs.Header.{header_of}
use Rattle.result_lines.specs.ScalarText.{scalar_text}
use Rattle.result_lines.specs.VectorText.{vector_text}
use Rattle.run_semantics.specs.declared.traces.Emission.{Emission}
use Rattle.run_semantics.specs.declared.traces.Scalar.{Scalar}

-- what is known of the result files of a run of that model before they are written: by the records
-- of its modules, the ids of those that were finished, the scalars that were recorded, and the
-- emissions
abbrev pub files_of : Model → List Record → List ℕ → List Scalar → List Emission → ResultFiles
files_of m records finished recorded emissions = record {
  header = header_of m;
  scalars = scalars_of m records finished recorded emissions;
  vectors = vectors_of m records emissions;
}

-- THE SCALAR FILE of a run of that model
abbrev pub scalar_text_of : Model → List Record → List ℕ → List Scalar → List Emission → List ℕ
scalar_text_of m records finished recorded emissions =
    scalar_text (header_of m) (scalars_of m records finished recorded emissions)

-- THE VECTOR FILE of a run of that model, with the modules of these records and these emissions
abbrev pub vector_text_of : Model → List Record → List Emission → List ℕ
vector_text_of m records emissions =
    vector_text (header_of m) (vectors_of m records emissions) records emissions
