-- What calls show of modules stays right where their values rest on the same.
use Rattle.std.proofs.Common.{◌≡◌, ◌∙◌, ◌++◌, ℕ, List, [], None, ap}
use Rattle.model_questions.specs.declared.record.Record.{Record}
use Rattle.model_questions.specs.Answers.{Answers}
use Rattle.model_data.specs.declared.model.Model.{Model}
use Rattle.model_answers.specs.Answering.{answers_of}
use Rattle.model_agreement.specs.Models.{RestOnSame}
use Rattle.model_agreement.proofs.Modules.{same_modules}
use Rattle.module_tree.proofs.Each.{each_so}
use Rattle.kernel_call_views.specs.Tables.{shown_of, AreShown, IsShown}
use Rattle.kernel_call_views.specs.declared.CallView.{CallView}
use Rattle.kernel_call_views.specs.declared.CallViews.{CallViews}

shown_same : (m n : Model) (rs : List Record) (id : ℕ) → RestOnSame m n → shown_of (answers_of m) rs id ≡ shown_of (answers_of n) rs id
shown_same m n rs id h = ap (λ (a : Answers). shown_of a rs id) (same_modules m n None [] h)

pub rest_shown : (m n : Model) (rs : List Record) (t : CallViews) → RestOnSame m n → AreShown (answers_of m) rs t → AreShown (answers_of n) rs t
rest_shown m n rs t h shown =
    each_so (IsShown (answers_of m) rs) (IsShown (answers_of n) rs) t.entries.seats (λ (id : ℕ) (view : CallView) (is : IsShown (answers_of m) rs id view) (more : List Record). is more ∙ shown_same m n (rs ++ more) id h) shown
