-- The number that an accepted edit gives.
use Rattle.std.proofs.Common.{◌≡◌, ℕ, Option, refl, ap, ◌∙◌}
use Rattle.model_data.specs.declared.model.Model.{Model}
use Rattle.model_edits.specs.declared.edit.Edit.{Edit}
use Rattle.model_edits.specs.declared.edit.Edit.TheVariants as edit
use Rattle.model_edits.specs.Edited.{number_given, IsEditOf}
use Rattle.edit_session.specs.Editing.{last_used}

-- where an injection is added its number is the last that was used
last_given : (m : Model) (e : Edit) (new : Model) → IsEditOf m e new → last_used new.last_injection (number_given e m) ≡ number_given e m
last_given m (edit.InsertIni line text) new is = refl
last_given m (edit.ReplaceIni line text) new is = refl
last_given m (edit.RemoveIni line) new is = refl
last_given m (edit.ReplaceNed number text) new is = refl
last_given m (edit.AddConnection name place text) new is = refl
last_given m (edit.RemoveConnection name place) new is = refl
last_given m (edit.SelectConfig name) new is = refl
last_given m (edit.Inject path due kind bits payload) new is = rw is.1 refl
last_given m (edit.Withdraw number) new is = refl

pub given : (m : Model) (e : Edit) (new : Model) (told : Option ℕ) → IsEditOf m e new → told ≡ number_given e m
    → last_used new.last_injection told ≡ number_given e m
given m e new told is same = ap (last_used new.last_injection) same ∙ last_given m e new is
