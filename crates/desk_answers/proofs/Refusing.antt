-- What is told of an edit that is refused.
use Rattle.std.proofs.Common.{◌≡◌, ℕ, List, Option, Some, None, Result, Ok, Err, IfOk, ap, inr}
use Rattle.sim_values.specs.declared.NoMemory.{NoMemory}
use Rattle.module_api.specs.Behaviour.{Behaviour}
use Rattle.model_data.specs.declared.model.Model.{Model}
use Rattle.model_edits.specs.declared.edit.Edit.{Edit}
use Rattle.model_edits.specs.declared.edit.Refusal.{Refusal}
use Rattle.model_edits.specs.Edited.{IsEditOf, IsRuledOut, Refuses}
use Rattle.edit_session.specs.Editing.{Editing}
use Rattle.desk_client.specs.Answers.{edit_refusal_text}
use Rattle.desk_answers.specs.declared.answers.Answer.{Answer}
use Rattle.desk_answers.specs.Turns.{AnswersEdit}

some_apart : (o : Option (List ℕ)) (text : List ℕ) → Some text ≡ o → o ≡ None → ⊥
some_apart None text p q = cc
some_apart (Some other) text p q = cc

-- a refusal that has a text is not lack of memory: so the edit makes no model
no_model : (m : Model) (e : Edit) (r : Refusal) (text : List ℕ) → IsRuledOut m e r → Some text ≡ edit_refusal_text r → (new : Model) → IsEditOf m e new → ⊥
no_model m e r text ruled is new made = some_apart (edit_refusal_text r) text is (ap edit_refusal_text (ruled new made))

pub refusing : (b : Behaviour) (before after : Editing) (e : Edit) (r : Refusal) (told : Result Answer NoMemory) → after ≡ before
    → Refuses before.model e r → IsRuledOut before.model e r → IfOk told (λ answer. Some answer.text ≡ edit_refusal_text r)
    → IfOk told (λ answer. AnswersEdit b before e answer.text after)
refusing b before after e r (Err error) same due ruled is = tt
refusing b before after e r (Ok answer) same due ruled is =
    inr (record { why = r; text_is = is; due = due; none = no_model before.model e r answer.text ruled is }, same)
