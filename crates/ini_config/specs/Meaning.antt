-- What an ini text means.
use Rattle.std.specs.Prelude.{◌≡◌, ℕ, suc, ◌+◌, ◌-◌, ◌<◌, ◌≤◌, Bool, true, false, ◌&&◌, not, List}
use Rattle.std.specs.Prelude.{[], ◌∷◌, ◌++◌, length, take, drop, Option, Some, None, Result, Ok}
use Rattle.std.specs.Prelude.{Err, ◌==◌, ◌⊎◌, if◌then◌else◌, position, codes, nat_lt, slice_index}
use Rattle.std.specs.List.{starts_with}
use Rattle.std.specs.Str.{bytes_eq, is_utf8}
use Rattle.sim_values.specs.Limits.{max_length}
use Rattle.ini_trees.specs.declared.lines.IniEntry.{IniEntry}
use Rattle.ini_trees.specs.declared.lines.IniLine.{IniLine}
use Rattle.ini_trees.specs.declared.lines.LineMeaning.{LineMeaning}
use Rattle.ini_trees.specs.declared.lines.LineMeaning.TheVariants as line
use Rattle.ini_config.specs.declared.error.IniError.{IniError}
use Rattle.ini_config.specs.declared.error.IniError.TheVariants as errors
use Rattle.ini_entries.specs.declared.reason.Reason.{Reason}
use Rattle.ini_entries.specs.declared.reason.Reason.TheVariants as reason
use Rattle.ini_entries.specs.Meaning.{IsEntryMeaning, is_key, Tells}
use Rattle.ini_entries.specs.Names.{is_config_name}
use Rattle.ini_entries.specs.Reasons.{entry_reason}
use Rattle.ini_trees.specs.Sections.{general, is_extends, section_behind}
use Rattle.ini_entries.specs.Texts.{Bytes, is_blank, after_blanks, before_blanks}
use Rattle.ini_config.specs.Texts.{begins_with, lines_of_ini, value_text, holds_variable}

-- ---- entries

-- the last byte is this one
unfoldable pub ends_with : ℕ → Bytes → Bool
ends_with c bytes = nat_lt 0 (length bytes) && slice_index bytes (length bytes - 1) == c

-- UTF-8, not empty, without `${`, and not ending with `\`
abbrev pub is_value : Bytes → Bool
is_value [] = false
is_value (b ∷ bs) = is_utf8 (b ∷ bs) && not (ends_with 92 (b ∷ bs))
    && not (holds_variable 0 (b ∷ bs))

-- no blank, and no byte that begins a comment
abbrev pub is_first_of_entry : ℕ → Bool
is_first_of_entry b = not (is_blank b) && not (b == 35)

-- the first byte is such a byte
abbrev pub begins_entry : Bytes → Bool
begins_entry [] = false
begins_entry (b ∷ bs) = is_first_of_entry b

-- The text is a key, the first `=`, and a value. Blanks round the `=` and at the end of the value
-- belong to neither, and a comment after the value doesn't.
pub record IsParted (bytes key text : Bytes) : Type 0 where
  pub at : ℕ
  pub first : position (λ b. b == 61) bytes ≡ Some at
  pub before : key ≡ before_blanks (take at bytes)
  pub behind : text ≡ value_text (drop (at + 1) bytes)
  pub proper_key : is_key key ≡ true
  pub proper_value : is_value text ≡ true

-- The line is a key and a value that say this. It begins at the first byte.
pub record IsEntry (bytes : Bytes) (e : IniEntry) : Type 0 where
  pub begins : begins_entry bytes ≡ true
  pub parted : IsParted bytes e.key e.value
  pub says : IsEntryMeaning e.key e.value e.meaning

-- ---- lines

abbrev pub in_brackets : Bytes → Bytes
in_brackets inner = 91 ∷ (inner ++ 93 ∷ [])

abbrev pub word_config : Bytes
word_config = codes "Config "

-- `[NAME]` or `[Config NAME]`
abbrev pub IsSectionLine : Bytes → Bytes → Type 0
IsSectionLine name bytes = (bytes ≡ in_brackets name) ⊎ (bytes ≡ in_brackets (word_config ++ name))

-- what follows the word `Config` and a blank, where a text begins with them, or else the text
-- itself
abbrev pub IsNamed : Bytes → Bytes → Type 0
IsNamed inner name = (inner ≡ word_config ++ name)
    ⊎ ((name ≡ inner) × ((other : Bytes) → inner ≡ word_config ++ other → ⊥))

-- the line is a section of that name
abbrev pub IsSection : Bytes → Bytes → Type 0
IsSection bytes name = (is_config_name name ≡ true) × IsSectionLine name bytes

-- THE MEANING of a line:
abbrev pub IsLine : Bytes → LineMeaning → Type 0
-- it is blank, which is empty or only blanks;
IsLine bytes line.Blank = after_blanks bytes ≡ []
-- or a comment, whose first byte other than a blank is `#`;
IsLine bytes line.Comment = (rest : Bytes) × (after_blanks bytes ≡ 35 ∷ rest)
-- or a section, which is `[NAME]` or `[Config NAME]` on the whole line;
IsLine bytes (line.Section name) = IsSection bytes name
-- or an entry.
IsLine bytes (line.Entry entry) = IsEntry bytes entry

-- ---- texts

-- an entry stands in a section, and General extends nothing
abbrev pub may_stand : Option Bytes → LineMeaning → Bool
may_stand None (line.Entry entry) = false
may_stand (Some name) (line.Entry entry) = not (bytes_eq name general && is_extends entry.meaning)
may_stand section _ = true

-- the line with its text and its meaning, which may stand in this section, if in any
pub record IsIniLine (section : Option Bytes) (bytes : Bytes) (read : IniLine) : Type 0 where
  pub text : read.text ≡ bytes
  pub means : IsLine bytes read.meaning
  pub stands : may_stand section read.meaning ≡ true

-- ---- reasons

-- why bytes are no key: there are none; or one of them is a blank, or not ASCII
abbrev pub key_reason : Bytes → Reason
key_reason [] = reason.NoKey
key_reason (b ∷ bs) = reason.BadKey

-- why bytes are no value: there are none; they are not UTF-8; they end with `\`; `${` is in them
abbrev pub value_reason : Bytes → Reason
value_reason [] = reason.NoValue
value_reason (b ∷ bs) = if not (is_utf8 (b ∷ bs)) then reason.BadValue
    else (if ends_with 92 (b ∷ bs) then reason.Continued else reason.Study)

-- why this key and this value are no entry: of a bad key, of a bad value, or because they say
-- nothing
abbrev pub parts_reason : Bytes → Bytes → Reason
parts_reason key text = if not (is_key key) then key_reason key
    else (if not (is_value text) then value_reason text else entry_reason key text)

-- the word `include` and a blank are at the front
abbrev pub asks_for_file : Bytes → Bool
asks_for_file bytes = starts_with (λ a b. a == b) bytes (codes "include ")

-- by the place of the first `=`; a line without one may ask for another file
abbrev pub reason_parted_at : Option ℕ → Bytes → Reason
reason_parted_at None bytes = if asks_for_file bytes then reason.Include else reason.NotAnEntry
reason_parted_at (Some at) bytes =
    parts_reason (before_blanks (take at bytes)) (value_text (drop (at + 1) bytes))

-- why a line is no entry that begins at its first byte
abbrev pub reason_no_entry : Bytes → Reason
reason_no_entry bytes = reason_parted_at (position (λ b. b == 61) bytes) bytes

-- THE REASON of a line that means nothing: it is indented; it begins with `[`, and is no section;
-- or it is no entry.
abbrev pub line_reason : Bytes → Reason
line_reason bytes = if not (begins_entry bytes) then reason.Indented
    else (if begins_with 91 bytes then reason.NotASection else reason_no_entry bytes)

-- THE REASON of a line that means something and may not stand here: it is an entry, and no section
-- stands before it; or it says that General extends another configuration.
abbrev pub place_reason : Option Bytes → Reason
place_reason None = reason.BeforeSection
place_reason (Some name) = reason.GeneralExtends

-- THE REFUSAL of a line in this section, or before any: it means nothing, or it means something
-- that may not stand here.
abbrev pub IsRefused : Option Bytes → Bytes → Reason → Type 0
IsRefused section bytes why =
    (((m : LineMeaning) → IsLine bytes m → ⊥) × (why ≡ line_reason bytes))
    ⊎ ((m : LineMeaning) × IsLine bytes m × (may_stand section m ≡ false)
    × (why ≡ place_reason section))

-- a line is refused for one reason at most
abbrev pub HasOneReason : Option Bytes → Bytes → Type 0
HasOneReason section bytes = (first second : Reason) → IsRefused section bytes first
    → IsRefused section bytes second → first ≡ second

-- ---- whole texts

-- a line for each line, where this section, or none, stands before
abbrev pub AreLines : Option Bytes → List Bytes → List IniLine → Type 0
AreLines section [] [] = Unit {0}
AreLines section [] (read ∷ reads) = ⊥
AreLines section (bytes ∷ more) [] = ⊥
AreLines section (bytes ∷ more) (read ∷ reads) =
    IsIniLine section bytes read × AreLines (section_behind section read.meaning) more reads

-- THE MEANING of an ini text: it is at most 1 MiB long, and each line means what is read of it.
pub record IsIniText (bytes : Bytes) (reads : List IniLine) : Type 0 where
  pub small : length bytes ≤ max_length
  pub lines : AreLines None (lines_of_ini bytes) reads

-- a text has at most one meaning
abbrev pub HasOneMeaning : Bytes → Type 0
HasOneMeaning bytes = (first second : List IniLine) → IsIniText bytes first → IsIniText bytes second
    → first ≡ second

-- The line of this number is the first that is refused, for this reason, where the first has number
-- n.
abbrev pub FirstBadOf : ℕ → Reason → ℕ → Option Bytes → List Bytes → Type 0
FirstBadOf bad why n section [] = ⊥
FirstBadOf bad why n section (bytes ∷ more) =
    ((bad ≡ n) × ((read : IniLine) → IsIniLine section bytes read → ⊥)
    × IsRefused section bytes why)
    ⊎ ((read : IniLine) × IsIniLine section bytes read
    × FirstBadOf bad why (suc n) (section_behind section read.meaning) more)

-- The number, from 1, of the first line that means nothing, or may not stand in its section, and
-- why.
abbrev pub FirstBad : ℕ → Reason → Bytes → Type 0
FirstBad bad why bytes = FirstBadOf bad why 1 None (lines_of_ini bytes)

-- ---- answers

-- What was read of the lines of a text, or why it was refused.
abbrev pub Settles : List Bytes → Result (List IniLine) IniError → Type 0
Settles bytes (Ok reads) = Tells (AreLines None bytes) (Some reads)
Settles bytes (Err (errors.NoMemory _)) = Unit {0}
Settles bytes (Err errors.TooLarge) = ⊥
Settles bytes (Err (errors.IniSyntax bad why)) =
    FirstBadOf bad why 1 None bytes × Tells (AreLines None bytes) None

-- What was read of the line of this number, in this section, and put after these lines, or why it
-- was refused.
abbrev pub SettlesLine : Option Bytes → Bytes → ℕ → List IniLine → List IniLine
    → Result (Unit {0}) IniError → Type 0
SettlesLine section bytes number before behind (Ok done) =
    (read : IniLine) × Tells (IsIniLine section bytes) (Some read) × (behind ≡ before ++ read ∷ [])
SettlesLine section bytes number before behind (Err (errors.NoMemory _)) = Unit {0}
SettlesLine section bytes number before behind (Err errors.TooLarge) = ⊥
SettlesLine section bytes number before behind (Err (errors.IniSyntax bad why)) =
    (bad ≡ number) × Tells (IsIniLine section bytes) None × IsRefused section bytes why

-- this value, or lack of memory
abbrev pub Answers : {X : Type 0} → X → Result X IniError → Type 0
Answers x (Ok found) = found ≡ x
Answers x (Err (errors.NoMemory _)) = Unit {0}
Answers x (Err errors.TooLarge) = ⊥
Answers x (Err (errors.IniSyntax line why)) = ⊥

-- Each refusal but lack of memory has its reason.
abbrev pub Explains : Bytes → IniError → Type 0
Explains bytes (errors.NoMemory _) = Unit {0}
Explains bytes errors.TooLarge = max_length < length bytes
Explains bytes (errors.IniSyntax line why) =
    (length bytes ≤ max_length) × FirstBad line why bytes
