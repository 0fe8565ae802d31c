-- The model that an edit makes of a model, and why it makes none.
use Rattle.std.specs.Prelude.{◌≡◌, ℕ, ℤ, ◌+◌, ◌-◌, ◌^◌, ◌==◌, Bool, ◌||◌, true, false, List, []}
use Rattle.std.specs.Prelude.{◌∷◌, ◌++◌, length, nat_le, nat_lt, Option, Some, None, IsSome, Err}
use Rattle.std.specs.Prelude.{if◌then◌else◌}
use Rattle.std.specs.List.{list_any}
use Rattle.sim_values.specs.Memory.{no_memory}
use Rattle.ini_config.specs.declared.error.EditError.TheVariants as errors
use Rattle.ini_trees.specs.declared.lines.IniLine.{IniLine}
use Rattle.ini_config.specs.Edits.{insertion, replacement, removal, IsEdited, Refused}
use Rattle.ini_config.specs.Edits as change
use Rattle.ned_trees.specs.declared.declarations.NedFile.{NedFile}
use Rattle.ned_trees.specs.declared.declarations.TypeDeclaration.{TypeDeclaration}
use Rattle.file_edits.specs.declared.error.FileError.TheVariants as file_errors
use Rattle.file_edits.specs.Changes.{AreTypesOf, IsChanged}
use Rattle.file_edits.specs.Changes as ned
use Rattle.ini_trees.specs.Sections.{IsChain, is_section}
use Rattle.model_injections.specs.declared.injection.Due.{Due}
use Rattle.model_injections.specs.declared.injection.Injection.{Injection}
use Rattle.model_data.specs.declared.model.Model.{Model}
use Rattle.model_data.specs.Models.{network_of}
use Rattle.model_edits.specs.declared.edit.Edit.{Edit}
use Rattle.model_edits.specs.declared.edit.Edit.TheVariants as edit
use Rattle.model_edits.specs.declared.edit.Refusal.{Refusal}
use Rattle.model_data.specs.declared.faults.ConfigFault.TheVariants as configs
use Rattle.model_edits.specs.declared.edit.Refusal.TheVariants as refusal

-- ---- the model

-- what an edit changes of the NED files, where it does
abbrev pub file_change_of : Edit → Option ned.Change
file_change_of (edit.ReplaceNed number text) = Some (ned.Replaced number text)
file_change_of (edit.AddConnection name place text) = Some (ned.Inserted name place text)
file_change_of (edit.RemoveConnection name place) = Some (ned.Removed name place)
file_change_of (edit.InsertIni line text) = None
file_change_of (edit.ReplaceIni line text) = None
file_change_of (edit.RemoveIni line) = None
file_change_of (edit.SelectConfig name) = None
file_change_of (edit.Inject path due kind bits payload) = None
file_change_of (edit.Withdraw number) = None

-- what an edit changes of these lines, where it does
abbrev pub change_of : Edit → List IniLine → Option change.Edit
change_of (edit.InsertIni line text) lines = Some (insertion line text lines)
change_of (edit.ReplaceIni line text) lines = Some (replacement line text lines)
change_of (edit.RemoveIni line) lines = Some (removal line lines)
change_of (edit.ReplaceNed number text) lines = None
change_of (edit.AddConnection name place text) lines = None
change_of (edit.RemoveConnection name place) lines = None
change_of (edit.SelectConfig name) lines = None
change_of (edit.Inject path due kind bits payload) lines = None
change_of (edit.Withdraw number) lines = None

-- the configuration that is selected after an edit, where this one was
abbrev pub selected : Edit → List ℕ → List ℕ
selected (edit.InsertIni line text) config = config
selected (edit.ReplaceIni line text) config = config
selected (edit.RemoveIni line) config = config
selected (edit.ReplaceNed number text) config = config
selected (edit.AddConnection name place text) config = config
selected (edit.RemoveConnection name place) config = config
selected (edit.SelectConfig name) config = name
selected (edit.Inject path due kind bits payload) config = config
selected (edit.Withdraw number) config = config

-- What an edit of texts makes anew: the files with their types, and the lines of the ini text.
pub record Parts : Type 0 where
  pub files : List NedFile
  pub types : List TypeDeclaration
  pub lines : List IniLine

-- those of a model
abbrev pub parts_of : Model → Parts
parts_of m = record { files = m.files; types = m.types; lines = m.ini }

-- the files are those that the change leaves, and the types are theirs; or both are as they were
-- where nothing changes them
abbrev pub AreFilesBehind : Option ned.Change → Parts → Parts → Type 0
AreFilesBehind None old new = (new.files ≡ old.files) × (new.types ≡ old.types)
AreFilesBehind (Some changed) old new =
    IsChanged changed old.files new.files × AreTypesOf new.files new.types

-- the lines are those that the change leaves, or as they were where nothing changes them
abbrev pub AreLinesBehind : Option change.Edit → List IniLine → List IniLine → Type 0
AreLinesBehind None old lines = lines ≡ old
AreLinesBehind (Some changed) old lines = IsEdited changed lines

-- the parts after an edit of those that the model has
abbrev pub AreBehind : Model → Edit → Parts → Type 0
AreBehind m e parts = AreFilesBehind (file_change_of e) (parts_of m) parts
    × AreLinesBehind (change_of e m.ini) m.ini parts.lines

-- The model is the old one, but for these files, types and lines, this configuration, whose section
-- is there, and its chain.
pub record IsWith (m : Model) (parts : Parts) (config : List ℕ) (new : Model) : Type 0 where
  pub rest : new ≡ record m {
    files = parts.files;
    types = parts.types;
    ini = parts.lines;
    config = config;
    chain = new.chain;
  }
  pub exists : is_section config parts.lines ≡ true
  pub chained : IsChain parts.lines config new.chain

-- What an edit of a text or of the configuration makes of a model: all that it doesn't change is as
-- it was, and there is a network to run.
pub record IsTextEditOf (m : Model) (e : Edit) (new : Model) : Type 0 where
  pub parts : Parts
  pub behind : AreBehind m e parts
  pub made : IsWith m parts (selected e m.config) new
  pub network : IsSome (network_of new)

-- ---- injections

-- a payload has at most so many bytes
abbrev pub most_payload : ℕ
most_payload = 4096

-- a model holds at most so many
abbrev pub most_injections : ℕ
most_injections = 10000

-- There is no room for one more: its payload is too long, as many are held as may be, or its number
-- would have more than 32 bits.
abbrev pub has_no_room : Model → List ℕ → Bool
has_no_room m payload = nat_lt most_payload (length payload)
    || (nat_le most_injections (length m.injections) || nat_lt (2 ^ 32 - 2) m.last_injection)

-- the injection that is made: its number is the one after the last that was used, be it held still
-- or not
abbrev pub next_injection : Model → List ℕ → Due → ℤ → ℕ → List ℕ → Injection
next_injection m path due kind bits payload =
    record {
      number = m.last_injection + 1;
      path = path;
      due = due;
      kind = kind;
      bits = bits;
      payload = payload;
    }

abbrev pub with_injection : Model → Injection → Model
with_injection m i = record m { injections = m.injections ++ i ∷ []; last_injection = i.number }

-- it has that number
abbrev pub is_numbered : ℕ → Injection → Bool
is_numbered number i = i.number == number

-- the number that an edit gives to the injection that it adds, where it adds one
abbrev pub number_given : Edit → Model → Option ℕ
number_given (edit.InsertIni line text) m = None
number_given (edit.ReplaceIni line text) m = None
number_given (edit.RemoveIni line) m = None
number_given (edit.ReplaceNed number text) m = None
number_given (edit.AddConnection name place text) m = None
number_given (edit.RemoveConnection name place) m = None
number_given (edit.SelectConfig name) m = None
number_given (edit.Inject path due kind bits payload) m = Some (m.last_injection + 1)
number_given (edit.Withdraw number) m = None

-- all but the one of that number
abbrev pub without : ℕ → List Injection → List Injection
without number [] = []
without number (i ∷ is) = if is_numbered number i then is else i ∷ without number is

-- ---- the model after an edit

-- THE MODEL that an edit makes of a model
abbrev pub IsEditOf : Model → Edit → Model → Type 0
IsEditOf m (edit.InsertIni line text) new = IsTextEditOf m (edit.InsertIni line text) new
IsEditOf m (edit.ReplaceIni line text) new = IsTextEditOf m (edit.ReplaceIni line text) new
IsEditOf m (edit.RemoveIni line) new = IsTextEditOf m (edit.RemoveIni line) new
IsEditOf m (edit.ReplaceNed number text) new = IsTextEditOf m (edit.ReplaceNed number text) new
IsEditOf m (edit.AddConnection name place text) new =
    IsTextEditOf m (edit.AddConnection name place text) new
IsEditOf m (edit.RemoveConnection name place) new =
    IsTextEditOf m (edit.RemoveConnection name place) new
IsEditOf m (edit.SelectConfig name) new = IsTextEditOf m (edit.SelectConfig name) new
IsEditOf m (edit.Inject path due kind bits payload) new =
    (has_no_room m payload ≡ false)
    × (new ≡ with_injection m (next_injection m path due kind bits payload))
IsEditOf m (edit.Withdraw number) new =
    (list_any (is_numbered number) m.injections ≡ true)
    × (new ≡ record m { injections = without number m.injections })

-- ---- refusals

-- why lines are not changed
abbrev pub RefusesChange : Option change.Edit → Refusal → Type 0
RefusesChange None r = ⊥
RefusesChange (Some changed) refusal.TooLarge = Refused changed (Err errors.TooLarge)
RefusesChange (Some changed) refusal.NoSuchLine = Refused changed (Err errors.NoSuchLine)
RefusesChange (Some changed) (refusal.IniSyntax line reason) =
    Refused changed (Err (errors.IniSyntax line reason))
RefusesChange (Some changed) (refusal.NoMemory _) = Unit {0}
RefusesChange (Some changed) _ = ⊥

-- why there is no model with these parts and this configuration: it has no section; it has no
-- chain; there is no network to run
abbrev pub RefusesParts : Model → Parts → List ℕ → Refusal → Type 0
RefusesParts m parts config (refusal.Config configs.NoSuchConfig) =
    is_section config parts.lines ≡ false
RefusesParts m parts config (refusal.Config configs.ChainFault) =
    (is_section config parts.lines ≡ true)
    × ((chain : List (List ℕ)) → IsChain parts.lines config chain → ⊥)
RefusesParts m parts config (refusal.Config configs.NoSuchNetwork) =
    (new : Model) × IsWith m parts config new × (network_of new ≡ None)
RefusesParts m parts config (refusal.NoMemory _) = Unit {0}
RefusesParts m parts config _ = ⊥

-- The parts are made, and there is no model with them.
pub record HasNoModel (m : Model) (e : Edit) (r : Refusal) : Type 0 where
  pub parts : Parts
  pub behind : AreBehind m e parts
  pub refused : RefusesParts m parts (selected e m.config) r

-- Why an edit of the ini text or of the configuration is refused.
abbrev pub RefusesText : Model → Edit → Refusal → Type 0
RefusesText m e refusal.TooLarge = RefusesChange (change_of e m.ini) refusal.TooLarge
RefusesText m e refusal.NoSuchLine = RefusesChange (change_of e m.ini) refusal.NoSuchLine
RefusesText m e (refusal.IniSyntax line reason) =
    RefusesChange (change_of e m.ini) (refusal.IniSyntax line reason)
RefusesText m e (refusal.Config why) = HasNoModel m e (refusal.Config why)
RefusesText m e (refusal.NoMemory _) = Unit {0}
RefusesText m e _ = ⊥

-- Why an edit of the NED files is refused that changes this of them.
abbrev pub RefusesFiles : Model → Edit → ned.Change → Refusal → Type 0
RefusesFiles m e c refusal.TooLarge = ned.Refuses c m.files file_errors.TooLarge
RefusesFiles m e c refusal.NoSuchFile = ned.Refuses c m.files file_errors.NoSuchFile
RefusesFiles m e c refusal.NoSuchType = ned.Refuses c m.files file_errors.NoSuchType
RefusesFiles m e c refusal.NoSuchConnection = ned.Refuses c m.files file_errors.NoSuchConnection
RefusesFiles m e c (refusal.NedSyntax line) = ned.Refuses c m.files (file_errors.NedSyntax line)
RefusesFiles m e c (refusal.Types why) = ned.Refuses c m.files (file_errors.Types why)
RefusesFiles m e c (refusal.Config why) = HasNoModel m e (refusal.Config why)
RefusesFiles m e c (refusal.NoMemory _) = Unit {0}
RefusesFiles m e c _ = ⊥

abbrev pub RefusesInjection : Model → List ℕ → Refusal → Type 0
RefusesInjection m payload refusal.TooLarge = has_no_room m payload ≡ true
RefusesInjection m payload (refusal.NoMemory _) = Unit {0}
RefusesInjection m payload _ = ⊥

abbrev pub RefusesWithdrawal : Model → ℕ → Refusal → Type 0
RefusesWithdrawal m number refusal.NoSuchInjection =
    list_any (is_numbered number) m.injections ≡ false
RefusesWithdrawal m number (refusal.NoMemory _) = Unit {0}
RefusesWithdrawal m number _ = ⊥

-- EACH REFUSAL but lack of memory has its reason, and no reason that comes before it.
abbrev pub Refuses : Model → Edit → Refusal → Type 0
Refuses m (edit.InsertIni line text) r = RefusesText m (edit.InsertIni line text) r
Refuses m (edit.ReplaceIni line text) r = RefusesText m (edit.ReplaceIni line text) r
Refuses m (edit.RemoveIni line) r = RefusesText m (edit.RemoveIni line) r
Refuses m (edit.ReplaceNed number text) r =
    RefusesFiles m (edit.ReplaceNed number text) (ned.Replaced number text) r
Refuses m (edit.AddConnection name place text) r =
    RefusesFiles m (edit.AddConnection name place text) (ned.Inserted name place text) r
Refuses m (edit.RemoveConnection name place) r =
    RefusesFiles m (edit.RemoveConnection name place) (ned.Removed name place) r
Refuses m (edit.SelectConfig name) r = RefusesText m (edit.SelectConfig name) r
Refuses m (edit.Inject path due kind bits payload) r = RefusesInjection m payload r
Refuses m (edit.Withdraw number) r = RefusesWithdrawal m number r

-- Where the edit makes a model, nothing refuses it but lack of memory.
abbrev pub IsRuledOut : Model → Edit → Refusal → Type 0
IsRuledOut m e r = (new : Model) → IsEditOf m e new → r ≡ refusal.NoMemory no_memory

-- The edit makes this model, and no other.
abbrev pub IsOnlyEditOf : Model → Edit → Model → Type 0
IsOnlyEditOf m e new = (other : Model) → IsEditOf m e other → other ≡ new
