-- What stays of a model in the one that an edit makes of it.
use Rattle.std.proofs.Common.{◌≡◌, ◌∙◌, ℕ, List, [], ◌∷◌, Option, ap, refl, sym, subst}
use Rattle.ini_config.specs.Edits.{IsEdited}
use Rattle.ini_config.specs.Meaning.{AreLines, IsIniText, IsLine}
use Rattle.ini_trees.specs.declared.lines.IniLine.{IniLine}
use Rattle.ini_trees.specs.declared.lines.LineMeaning.{LineMeaning}
use Rattle.ini_trees.specs.declared.lines.LineMeaning.TheVariants as line
use Rattle.ini_trees.specs.Sections.{section_behind}
use Rattle.model_injections.specs.declared.injection.Injection.{Injection}
use Rattle.model_data.specs.declared.model.Model.{Model}
use Rattle.model_data.specs.Models.{network_of}
use Rattle.model_edits.specs.declared.edit.Edit.{Edit}
use Rattle.model_edits.specs.declared.edit.Edit.TheVariants as edit
use Rattle.model_edits.specs.Edited.{next_injection, with_injection, without, IsEditOf, IsTextEditOf}
use Rattle.model_reading.specs.Models.{IsModelOf}
use Rattle.model_settings.specs.Standings.{setting_of}
use Rattle.same_entries.specs.Counted.{AreSaid, IsSaid}
use Rattle.model_agreement.specs.Models.{RestOnSame}
use Rattle.edit_session.specs.Lasting.{touched_by, IsTouched}

-- ---- messages from outside

with_one_more : (m : Model) (i : Injection) → RestOnSame m (with_injection m i)
unfolding setting_of
with_one_more m i = record { setting = refl; network = refl }

with_others : (m : Model) (is : List Injection) → RestOnSame m (record m { injections = is })
unfolding setting_of
with_others m is = record { setting = refl; network = refl }

-- ---- lines that were read

line_said : (bytes : List ℕ) (m : LineMeaning) → IsLine bytes m → IsSaid m
line_said bytes line.Blank is = tt
line_said bytes line.Comment is = tt
line_said bytes (line.Section name) is = tt
line_said bytes (line.Entry e) is = is.says

lines_said : (section : Option (List ℕ)) (bytes : List (List ℕ)) (lines : List IniLine) → AreLines section bytes lines → AreSaid lines
lines_said section [] [] are = tt
lines_said section [] (l ∷ ls) are = absurd are
lines_said section (b ∷ bs) [] are = absurd are
lines_said section (b ∷ bs) (l ∷ ls) are = (line_said b l.meaning are.0.means, lines_said (section_behind section l.meaning) bs ls are.1)

pub text_said : (bytes : List ℕ) (lines : List IniLine) → IsIniText bytes lines → AreSaid lines
text_said bytes lines is = lines_said _ _ lines is.lines

-- the lines of a model that texts make were read
pub model_said : (texts : List (List ℕ)) (ini config : List ℕ) (m : Model) → IsModelOf texts ini config m → AreSaid m.ini
model_said texts ini config m is = subst AreSaid (sym is.read.lines) (text_said ini is.read.read.lines is.read.read.said)

-- ---- each edit

types_stay : (m new : Model) (e : Edit) (is : IsTextEditOf m e new) → is.parts.types ≡ m.types → m.types ≡ new.types
types_stay m new e is same = sym same ∙ sym (ap (λ (n : Model). n.types) is.made.rest)

ini_of : (m new : Model) (e : Edit) (is : IsTextEditOf m e new) → new.ini ≡ is.parts.lines
ini_of m new e is = ap (λ (n : Model). n.ini) is.made.rest

-- WHAT STAYS after an edit
pub touches : (m new : Model) (e : Edit) → IsEditOf m e new → IsTouched (touched_by e) m new
touches m new (edit.InsertIni place text) h = (types_stay m new (edit.InsertIni place text) h h.behind.0.1, subst AreSaid (sym (ini_of m new (edit.InsertIni place text) h)) (text_said _ h.parts.lines h.behind.1.means))
touches m new (edit.ReplaceIni place text) h = (types_stay m new (edit.ReplaceIni place text) h h.behind.0.1, subst AreSaid (sym (ini_of m new (edit.ReplaceIni place text) h)) (text_said _ h.parts.lines h.behind.1.means))
touches m new (edit.RemoveIni place) h = (types_stay m new (edit.RemoveIni place) h h.behind.0.1, subst AreSaid (sym (ini_of m new (edit.RemoveIni place) h)) (text_said _ h.parts.lines h.behind.1.means))
touches m new (edit.ReplaceNed number text) h = ini_of m new (edit.ReplaceNed number text) h ∙ h.behind.1
touches m new (edit.AddConnection name place text) h = ini_of m new (edit.AddConnection name place text) h ∙ h.behind.1
touches m new (edit.RemoveConnection name place) h = ini_of m new (edit.RemoveConnection name place) h ∙ h.behind.1
touches m new (edit.SelectConfig name) h = (types_stay m new (edit.SelectConfig name) h h.behind.0.1, ini_of m new (edit.SelectConfig name) h ∙ h.behind.1)
touches m new (edit.Inject path due kind bits payload) h =
    let i = next_injection m path due kind bits payload in
    subst (IsTouched (touched_by (edit.Inject path due kind bits payload)) m) (sym h.1) (with_one_more m i, record { types = refl; ini = refl; chain = refl })
touches m new (edit.Withdraw number) h =
    subst (IsTouched (touched_by (edit.Withdraw number)) m) (sym h.1) (with_others m (without number m.injections), record { types = refl; ini = refl; chain = refl })
