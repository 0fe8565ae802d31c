-- Keys of entries: their parts, and what they are for.
-- OMNeT++ Simulation Manual, "Configuring Simulations", "Per-Object Configuration Options".
use Rattle.std.specs.Prelude.{ℕ, Bool, true, false, ◌&&◌, [], ◌∷◌, Option, Some, None, ◌==◌}
use Rattle.std.specs.Prelude.{if◌then◌else◌}
use Rattle.std.specs.Str.{bytes_eq}
use Rattle.ini_entries.specs.declared.keys.KeyPlace.{KeyPlace}
use Rattle.ini_entries.specs.declared.keys.KeyPlace.TheVariants.{Open, InSet, InBrackets}
use Rattle.ini_entries.specs.declared.keys.KeyPlace.TheVariants.{InSetInBrackets}
use Rattle.ini_trees.specs.Words.{Bytes, word_typename}

-- ---- sets and brackets

-- whether the bytes after this one are in a set, where it is in one or not
abbrev pub in_set_behind : Bool → ℕ → Bool
in_set_behind true b = if b == 125 then false else true
in_set_behind false b = b == 123

-- whether this byte is a `]` outside `{}`
abbrev pub is_closing : Bool → ℕ → Bool
is_closing true b = false
is_closing false b = b == 93

-- whether such a `]` follows, where the bytes before are in a set or not; a byte after a `\` stands
-- for itself
unfoldable pub is_closed_from : Bool → Bool → Bytes → Bool
is_closed_from in_set escaped [] = false
is_closed_from in_set true (b ∷ bs) = is_closed_from in_set false bs
is_closed_from in_set false (b ∷ bs) =
    if is_closing in_set b then true else is_closed_from (in_set_behind in_set b) (b == 92) bs

-- what follows a `[` closes it: without such a `]` it is no bracket
abbrev pub is_closed : Bytes → Bool
is_closed bytes = is_closed_from false false bytes

-- where the bytes after this one stand, where a `]` closes what follows or not; a `{` opens a set
-- between brackets too
abbrev pub place_behind : KeyPlace → ℕ → Bool → KeyPlace
place_behind Open b closed =
    if b == 123 then InSet else (if b == 91 && closed then InBrackets else Open)
place_behind InSet b closed = if b == 125 then Open else InSet
place_behind InBrackets b closed =
    if b == 93 then Open else (if b == 123 then InSetInBrackets else InBrackets)
place_behind InSetInBrackets b closed = if b == 125 then InBrackets else InSetInBrackets

-- ---- the last part

-- a dot outside `{}` and `[]` parts a key
abbrev pub is_parting : KeyPlace → ℕ → Bool
is_parting Open b = b == 46
is_parting InSet b = false
is_parting InBrackets b = false
is_parting InSetInBrackets b = false

-- the last part of what follows, or else what follows itself, where a dot parts it from what stands
-- before
abbrev pub or_rest : Option Bytes → Bool → Bytes → Option Bytes
or_rest (Some part) parts rest = Some part
or_rest None true rest = Some rest
or_rest None false rest = None

-- what stands after the last dot that parts the key; a byte after a `\` stands for itself
unfoldable pub last_part_from : KeyPlace → Bool → Bytes → Option Bytes
last_part_from place escaped [] = None
last_part_from place true (b ∷ bs) = last_part_from place false bs
last_part_from place false (b ∷ bs) = or_rest
    (last_part_from (place_behind place b (is_closed bs)) (b == 92) bs) (is_parting place b) bs

-- THE LAST PART of a key: what stands after its last dot outside `{}` and `[]` that no `\` stands
-- before
abbrev pub last_part : Bytes → Option Bytes
last_part key = last_part_from Open false key

-- What a reader has found that takes each `[` for a bracket: the last part, if no `]` closes the
-- bracket that it is in. At a `]` it goes back to what it kept.
abbrev pub found_behind : KeyPlace → ℕ → Bytes → Option Bytes → Option Bytes → Option Bytes
found_behind Open b rest found kept = if b == 46 then Some rest else found
found_behind InSet b rest found kept = found
found_behind InBrackets b rest found kept =
    if b == 93 then kept else (if b == 46 then Some rest else found)
found_behind InSetInBrackets b rest found kept = found

-- what it keeps at a `[`: what it has found outside brackets
abbrev pub kept_behind : KeyPlace → ℕ → Option Bytes → Option Bytes → Option Bytes
kept_behind Open b found kept = if b == 91 then found else kept
kept_behind InSet b found kept = kept
kept_behind InBrackets b found kept = kept
kept_behind InSetInBrackets b found kept = kept

-- ---- hyphens

-- whether this byte is a `-` outside `{}`
abbrev pub is_hyphen : Bool → ℕ → Bool
is_hyphen true b = false
is_hyphen false b = b == 45

-- whether one follows, where the bytes before are in a set or not; a byte after a `\` stands for
-- itself
unfoldable pub has_hyphen_from : Bool → Bool → Bytes → Bool
has_hyphen_from in_set escaped [] = false
has_hyphen_from in_set true (b ∷ bs) =
    if is_hyphen in_set b then true else has_hyphen_from in_set false bs
has_hyphen_from in_set false (b ∷ bs) =
    if is_hyphen in_set b then true else has_hyphen_from (in_set_behind in_set b) (b == 92) bs

-- a `-` stands in a last part, outside `{}`
abbrev pub has_hyphen : Bytes → Bool
has_hyphen part = has_hyphen_from false false part

-- ---- kinds

-- what the entries of a key are: an option of the configuration, a per-object option of that name,
-- the type of submodules, or a value for parameters
pub data KeyKind : Type 0 where
  OptionKey : KeyKind
  ObjectKey : (name : Bytes) → KeyKind
  TypeKey : KeyKind
  ParameterKey : KeyKind

abbrev pub kind_of_part : Bytes → KeyKind
kind_of_part part = if has_hyphen part then ObjectKey part
    else (if bytes_eq part word_typename then TypeKey else ParameterKey)

abbrev pub kind_by : Option Bytes → KeyKind
kind_by None = OptionKey
kind_by (Some part) = kind_of_part part

-- THE KIND of a key: without a part after a dot it is an option; with a `-` there a per-object
-- option; `typename` is for types, and all else for parameters
abbrev pub kind_of : Bytes → KeyKind
kind_of key = kind_by (last_part key)
