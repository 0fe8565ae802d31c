-- What the steps of an edit come to.
use Rattle.std.specs.Prelude.{◌≡◌, ℕ, Bool, true, false, List, IsSome, is_some, Result, Ok, Err}
use Rattle.ini_config.specs.declared.error.EditError.{EditError}
use Rattle.ini_config.specs.declared.error.EditError.TheVariants as errors
use Rattle.ini_trees.specs.declared.lines.IniLine.{IniLine}
use Rattle.ini_trees.specs.Entries.{last_name, network_entry}
use Rattle.ini_trees.specs.Sections.{IsChain, entries_along, is_section}
use Rattle.std.specs.Option.{option_and_then}
use Rattle.model_data.specs.declared.model.Model.{Model}
use Rattle.model_data.specs.Models.{as_network, network_of}
use Rattle.ned_types.specs.Types.{type_named}
use Rattle.ned_trees.specs.declared.declarations.NedFile.{NedFile}
use Rattle.model_edits.specs.declared.edit.Edit.{Edit}
use Rattle.model_edits.specs.declared.edit.Refusal.{Refusal}
use Rattle.model_data.specs.declared.faults.ConfigFault.TheVariants as configs
use Rattle.model_edits.specs.declared.edit.Refusal.TheVariants as refusal
use Rattle.file_edits.specs.declared.changes.TypedFiles.{TypedFiles}
use Rattle.file_edits.specs.declared.error.FileError.{FileError}
use Rattle.file_edits.specs.declared.error.FileError.TheVariants as file_errors
use Rattle.ned_trees.specs.declared.declarations.TypeDeclaration.{TypeDeclaration}
use Rattle.model_edits.specs.Edited.{IsEditOf, IsOnlyEditOf, IsRuledOut, IsTextEditOf, IsWith}
use Rattle.model_edits.specs.Edited.{Parts, Refuses, RefusesFiles, RefusesParts, RefusesText}
use Rattle.file_edits.specs.Changes as ned
use Rattle.sim_values.specs.Memory.{no_memory}

-- whether the option `network` names a network among these types, in these lines along this chain
abbrev pub has_network : List TypeDeclaration → List IniLine → List (List ℕ) → Bool
has_network types lines chain =
    is_some (option_and_then as_network (option_and_then (λ name. type_named (last_name name) types)
    (network_entry (entries_along chain lines))))

-- these files, types and lines
abbrev pub parts : List NedFile → List TypeDeclaration → List IniLine → Parts
parts files types lines = record { files = files; types = types; lines = lines }

-- the lines are changed, and the files and their types are those of the model
abbrev pub with_lines : Model → List IniLine → Parts
with_lines m lines = parts m.files m.types lines

-- the files and their types are changed, and the lines are those of the model
abbrev pub with_files : Model → TypedFiles → Parts
with_files m made = parts made.files made.types m.ini

-- the refusal of changed lines
abbrev pub told_as : EditError → Refusal
told_as errors.TooLarge = refusal.TooLarge
told_as errors.NoSuchLine = refusal.NoSuchLine
told_as (errors.IniSyntax line reason) = refusal.IniSyntax line reason
told_as (errors.NoMemory error) = refusal.NoMemory error

-- the refusal of changed files
abbrev pub told_of : FileError → Refusal
told_of file_errors.TooLarge = refusal.TooLarge
told_of file_errors.NoSuchFile = refusal.NoSuchFile
told_of file_errors.NoSuchType = refusal.NoSuchType
told_of file_errors.NoSuchConnection = refusal.NoSuchConnection
told_of (file_errors.NedSyntax line) = refusal.NedSyntax line
told_of (file_errors.Types why) = refusal.Types why
told_of (file_errors.NoMemory error) = refusal.NoMemory error

-- why a configuration has no chain in these lines
abbrev pub RefusesChain : List IniLine → List ℕ → Refusal → Type 0
RefusesChain lines config (refusal.Config configs.NoSuchConfig) = is_section config lines ≡ false
RefusesChain lines config (refusal.Config configs.ChainFault) =
    (is_section config lines ≡ true) × ((chain : List (List ℕ)) → IsChain lines config chain → ⊥)
RefusesChain lines config (refusal.NoMemory _) = Unit {0}
RefusesChain lines config _ = ⊥

-- a model with these parts and this configuration, or why there is none
abbrev pub Takes : Model → Parts → List ℕ → Model → Result Unit Refusal → Type 0
Takes m parts config new (Ok u) = IsWith m parts config new × IsSome (network_of new)
Takes m parts config new (Err r) = (new ≡ m) × RefusesParts m parts config r

-- the same of lines that were changed, or could not be
abbrev pub TakesMade : Model → Result (List IniLine) EditError → Model
    → Result Unit Refusal → Type 0
TakesMade m (Ok lines) new result = Takes m (with_lines m lines) m.config new result
TakesMade m (Err e) new result = (new ≡ m) × (result ≡ Err (told_as e))

-- the same of files that were changed, or could not be
abbrev pub TakesChanged : Model → Result TypedFiles FileError → Model → Result Unit Refusal → Type 0
TakesChanged m (Ok made) new result = Takes m (with_files m made) m.config new result
TakesChanged m (Err e) new result = (new ≡ m) × (result ≡ Err (told_of e))

-- what comes of an edit of the NED files that changes this of them
abbrev pub ComesOfFiles : Model → Edit → ned.Change → Model → Result Unit Refusal → Type 0
ComesOfFiles m e c new (Ok u) =
    IsTextEditOf m e new × ((other : Model) → IsTextEditOf m e other → other ≡ new)
ComesOfFiles m e c new (Err r) = (new ≡ m) × RefusesFiles m e c r
    × ((other : Model) → IsTextEditOf m e other → r ≡ refusal.NoMemory no_memory)

-- what comes of an edit of the ini text or of the configuration
abbrev pub ComesOfText : Model → Edit → Model → Result Unit Refusal → Type 0
ComesOfText m e new (Ok u) =
    IsTextEditOf m e new × ((other : Model) → IsTextEditOf m e other → other ≡ new)
ComesOfText m e new (Err r) = (new ≡ m) × RefusesText m e r
    × ((other : Model) → IsTextEditOf m e other → r ≡ refusal.NoMemory no_memory)

-- WHAT COMES OF AN EDIT: the one model that it makes; or the model is what it was, and this refusal
-- is due
abbrev pub Comes : Model → Edit → Model → Result Unit Refusal → Type 0
Comes m e new (Ok u) = IsEditOf m e new × IsOnlyEditOf m e new
Comes m e new (Err r) = (new ≡ m) × Refuses m e r × IsRuledOut m e r
