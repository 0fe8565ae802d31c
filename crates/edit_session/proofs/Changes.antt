-- What an edit changes.
use Rattle.std.proofs.Common.{◌≡◌, ℕ, Option, sym, subst, ◌∙◌}
use Rattle.module_api.specs.Behaviour.{Behaviour}
use Rattle.model_data.specs.declared.model.Model.{Model}
use Rattle.model_answers.specs.Answering.{answers_of}
use Rattle.model_edits.specs.declared.edit.Edit.{Edit}
use Rattle.model_edits.specs.Edited.{number_given, IsEditOf, IsOnlyEditOf}
use Rattle.edit_session.specs.declared.session.Change.{Change}
use Rattle.edit_session.specs.Editing.{last_used, Editing, IsChangeBy}
use Rattle.edit_session.specs.Reuse.{IsValidTo}
use Rattle.edit_session.proofs.Giving.{given}

-- the change has the model that was made
pub changed_by : (b : Behaviour) (before : Editing) (e : Edit) (m made : Model) (told : Option ℕ) (change : Change) → m ≡ before.model → IsEditOf m e made → IsOnlyEditOf m e made → change.model ≡ made
    → told ≡ number_given e before.model → change.edited.injection ≡ last_used made.last_injection told → IsValidTo b (answers_of before.model) (answers_of change.model) before.known change.edited.valid_to
    → IsChangeBy b before e change
changed_by b before e m made told change same is only new number injection valid =
    let edited : IsEditOf before.model e made = subst (λ (n : Model). IsEditOf n e made) same is in
    let alone : IsOnlyEditOf before.model e made = subst (λ (n : Model). IsOnlyEditOf n e made) same only in
    record {
      model = subst (λ (n : Model). IsEditOf before.model e n) (sym new) edited;
      only = subst (λ (n : Model). IsOnlyEditOf before.model e n) (sym new) alone;
      valid_to = valid;
      injection = injection ∙ given before.model e made told edited number;
    }
