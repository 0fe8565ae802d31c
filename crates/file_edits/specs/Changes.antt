-- Changes of the NED files of a model, and why there are none.
use Rattle.std.specs.Prelude.{◌≡◌, ℕ, ◌≤◌, ◌<◌, Bool, true, false, List, ◌∷◌, ◌++◌, length, drop}
use Rattle.std.specs.Prelude.{nat_lt, remove, slice_set, take, Some, None, Result, Ok, Err}
use Rattle.sim_values.specs.Limits.{max_length}
use Rattle.ned_tokens.specs.Viable.{IsFirstBadLine}
use Rattle.ned_connections.specs.ConnectionText.{IsConnectionText}
use Rattle.ned_connections.specs.Grammar.{whole_item}
use Rattle.ned_trees.specs.declared.connections.ConnectionItem.{ConnectionItem}
use Rattle.ned_trees.specs.declared.declarations.NedFile.{NedFile}
use Rattle.ned_trees.specs.declared.declarations.TypeDeclaration.{TypeDeclaration}
use Rattle.ned_syntax.specs.Grammar.{file}
use Rattle.ned_syntax.specs.NedText.{IsNedFile}
use Rattle.ned_scopes.specs.Scopes.{types_of}
use Rattle.ned_inheritance.specs.declared.table.TypeFault.{TypeFault}
use Rattle.ned_inheritance.specs.Building.{fault_of}
use Rattle.ned_inheritance.specs.Inheritance.{flat_types}
use Rattle.file_edits.specs.Items.{files_with, items_of}
use Rattle.file_edits.specs.declared.changes.TypedFiles.{TypedFiles}
use Rattle.file_edits.specs.declared.error.FileError.{FileError}
use Rattle.file_edits.specs.declared.error.FileError.TheVariants as error

-- THE TYPES of files: the flat type of each type that they declare, and all of them go together
abbrev pub AreTypesOf : List NedFile → List TypeDeclaration → Type 0
AreTypesOf files types = (types ≡ flat_types (types_of files)) × (fault_of (types_of files) ≡ None)

-- a text is longer than what is read
abbrev pub is_large : List ℕ → Bool
is_large text = nat_lt max_length (length text)

-- ---- what is changed

-- a change of files
pub data Change : Type 0 where
  -- the file of this number, counted from 0, is what this text declares
  Replaced : (number : ℕ) (text : List ℕ) → Change
  -- the item of connections that this text is stands at this place, counted from 0, among those of
  -- the module or network of that name
  Inserted : (name : List ℕ) (place : ℕ) (text : List ℕ) → Change
  -- the item at this place is taken out
  Removed : (name : List ℕ) (place : ℕ) → Change

-- What the text declares stands instead of what the file of that number declared, and all other
-- files are as they were.
pub record IsReplaced (number : ℕ) (text : List ℕ) (old new : List NedFile) : Type 0 where
  pub there : number < length old
  pub declared : NedFile
  pub means : IsNedFile text declared
  pub rest : new ≡ slice_set old number declared

-- The item that the text is stands at that place among the items of the type, before the one that
-- stood there, and all else is as it was.
pub record IsInserted (name : List ℕ) (place : ℕ) (text : List ℕ)
    (old new : List NedFile) : Type 0 where
  pub items : List ConnectionItem
  pub own : items_of name old ≡ Some items
  pub there : place ≤ length items
  pub item : ConnectionItem
  pub means : IsConnectionText text item
  pub rest : new ≡ files_with name (take place items ++ item ∷ drop place items) old

-- The item at that place is taken out of the items of the type, and all else is as it was.
pub record IsRemoved (name : List ℕ) (place : ℕ) (old new : List NedFile) : Type 0 where
  pub items : List ConnectionItem
  pub own : items_of name old ≡ Some items
  pub there : place < length items
  pub rest : new ≡ files_with name (remove items place) old

-- THE FILES BEHIND A CHANGE of the old ones
abbrev pub IsChanged : Change → List NedFile → List NedFile → Type 0
IsChanged (Replaced number text) old new = IsReplaced number text old new
IsChanged (Inserted name place text) old new = IsInserted name place text old new
IsChanged (Removed name place) old new = IsRemoved name place old new

-- ---- refusals

-- why a text declares nothing
abbrev pub RefusesText : List ℕ → FileError → Type 0
RefusesText text (error.NedSyntax line) =
    IsFirstBadLine file text line × ((declared : NedFile) → IsNedFile text declared → ⊥)
RefusesText text error.TooLarge = is_large text ≡ true
RefusesText text (error.NoMemory _) = Unit {0}
RefusesText text _ = ⊥

-- why files have no table of types
abbrev pub RefusesTypes : List NedFile → FileError → Type 0
RefusesTypes files (error.Types why) = fault_of (types_of files) ≡ Some why
RefusesTypes files (error.NoMemory _) = Unit {0}
RefusesTypes files _ = ⊥

-- The files are changed, and their types don't go together.
pub record AreApart (c : Change) (old : List NedFile) (why : TypeFault) : Type 0 where
  pub files : List NedFile
  pub changed : IsChanged c old files
  pub apart : fault_of (types_of files) ≡ Some why

abbrev pub RefusesReplacement : ℕ → List ℕ → List NedFile → FileError → Type 0
RefusesReplacement number text old error.TooLarge = is_large text ≡ true
RefusesReplacement number text old error.NoSuchFile =
    (is_large text ≡ false) × (length old ≤ number)
RefusesReplacement number text old (error.NedSyntax line) =
    (is_large text ≡ false) × (number < length old) × IsFirstBadLine file text line
    × ((declared : NedFile) → IsNedFile text declared → ⊥)
RefusesReplacement number text old (error.Types why) = AreApart (Replaced number text) old why
RefusesReplacement number text old (error.NoMemory _) = Unit {0}
RefusesReplacement number text old _ = ⊥

-- why a text is no item of connections
abbrev pub RefusesItem : List ℕ → FileError → Type 0
RefusesItem text (error.NedSyntax line) =
    IsFirstBadLine whole_item text line × ((item : ConnectionItem) → IsConnectionText text item → ⊥)
RefusesItem text error.TooLarge = is_large text ≡ true
RefusesItem text (error.NoMemory _) = Unit {0}
RefusesItem text _ = ⊥

-- The type is there, and there is no such place for one more item.
pub record HasNoPlace (name : List ℕ) (place : ℕ) (old : List NedFile) : Type 0 where
  pub items : List ConnectionItem
  pub own : items_of name old ≡ Some items
  pub none : length items < place

-- The type is there, and has no item at that place.
pub record HasNoItem (name : List ℕ) (place : ℕ) (old : List NedFile) : Type 0 where
  pub items : List ConnectionItem
  pub own : items_of name old ≡ Some items
  pub none : length items ≤ place

-- The type has that place, and the text is no item, by this line.
pub record IsNoItem (name : List ℕ) (place : ℕ) (text : List ℕ) (old : List NedFile)
    (line : ℕ) : Type 0 where
  pub items : List ConnectionItem
  pub own : items_of name old ≡ Some items
  pub there : place ≤ length items
  pub blamed : IsFirstBadLine whole_item text line
  pub none : (item : ConnectionItem) → IsConnectionText text item → ⊥

abbrev pub RefusesInsertion : List ℕ → ℕ → List ℕ → List NedFile → FileError → Type 0
RefusesInsertion name place text old error.TooLarge = is_large text ≡ true
RefusesInsertion name place text old error.NoSuchType =
    (is_large text ≡ false) × (items_of name old ≡ None)
RefusesInsertion name place text old error.NoSuchConnection =
    (is_large text ≡ false) × HasNoPlace name place old
RefusesInsertion name place text old (error.NedSyntax line) =
    (is_large text ≡ false) × IsNoItem name place text old line
RefusesInsertion name place text old (error.Types why) = AreApart (Inserted name place text) old why
RefusesInsertion name place text old (error.NoMemory _) = Unit {0}
RefusesInsertion name place text old _ = ⊥

abbrev pub RefusesRemoval : List ℕ → ℕ → List NedFile → FileError → Type 0
RefusesRemoval name place old error.NoSuchType = items_of name old ≡ None
RefusesRemoval name place old error.NoSuchConnection = HasNoItem name place old
RefusesRemoval name place old (error.Types why) = AreApart (Removed name place) old why
RefusesRemoval name place old (error.NoMemory _) = Unit {0}
RefusesRemoval name place old _ = ⊥

-- EACH REFUSAL but lack of memory has its reason, and no reason that comes before it.
abbrev pub Refuses : Change → List NedFile → FileError → Type 0
Refuses (Replaced number text) old e = RefusesReplacement number text old e
Refuses (Inserted name place text) old e = RefusesInsertion name place text old e
Refuses (Removed name place) old e = RefusesRemoval name place old e

-- WHAT COMES OF A CHANGE: the changed files and their types, or why there are none
abbrev pub AnswersChange : Change → List NedFile → Result TypedFiles FileError → Type 0
AnswersChange c old (Ok made) = IsChanged c old made.files × AreTypesOf made.files made.types
AnswersChange c old (Err e) = Refuses c old e
