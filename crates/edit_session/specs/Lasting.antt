-- What an edit changes, and whether the values of a model stay.
use Rattle.std.specs.Prelude.{◌≡◌}
use Rattle.model_data.specs.declared.model.Model.{Model}
use Rattle.model_edits.specs.declared.edit.Edit.{Edit}
use Rattle.model_edits.specs.declared.edit.Edit.TheVariants as edit
use Rattle.same_entries.specs.Counted.{AreSaid}
use Rattle.model_agreement.specs.Models.{RestOnSame}
use Rattle.edit_session.specs.declared.values.Touched.{Touched}
use Rattle.edit_session.specs.declared.values.Touched.TheVariants as touched

-- what an edit changes
abbrev pub touched_by : Edit → Touched
touched_by (edit.InsertIni line text) = touched.Lines
touched_by (edit.ReplaceIni line text) = touched.Lines
touched_by (edit.RemoveIni line) = touched.Lines
touched_by (edit.ReplaceNed number text) = touched.Files
touched_by (edit.AddConnection name place text) = touched.Files
touched_by (edit.RemoveConnection name place) = touched.Files
touched_by (edit.SelectConfig name) = touched.Selection
touched_by (edit.Inject path due kind bits payload) = touched.Messages
touched_by (edit.Withdraw number) = touched.Messages

-- a model has the types of another, its ini text, and the entries along its chain
pub record IsOfSameText (m new : Model) : Type 0 where
  pub types : new.types ≡ m.types
  pub ini : new.ini ≡ m.ini
  pub chain : new.chain ≡ m.chain

-- what stays of a model, and what is known of the new one, where so much was changed
abbrev pub IsTouched : Touched → Model → Model → Type 0
IsTouched touched.Messages m new = RestOnSame m new × IsOfSameText m new
IsTouched touched.Lines m new = (m.types ≡ new.types) × AreSaid new.ini
IsTouched touched.Selection m new = (m.types ≡ new.types) × (new.ini ≡ m.ini)
IsTouched touched.Files m new = new.ini ≡ m.ini
