-- What an entry says, by its key and its value.
-- OMNeT++ Simulation Manual, "Configuring Simulations".
use Rattle.std.specs.Prelude.{◌≡◌, ◌≢◌, ℕ, Bool, true, false, ◌&&◌, not, [], ◌∷◌, Option, Some}
use Rattle.std.specs.Prelude.{None, Result, Ok, Err, IsSome, codes, nat_lt}
use Rattle.std.specs.List.{list_all}
use Rattle.std.specs.Str.{chars}
use Rattle.ini_pattern.specs.PatternOf.{pattern_of}
use Rattle.ned_expressions.specs.ExpressionText.{IsExpressionText}
use Rattle.ini_trees.specs.declared.entry.EntryMeaning.{EntryMeaning}
use Rattle.ini_trees.specs.declared.entry.EntryMeaning.TheVariants as meaning
use Rattle.ini_trees.specs.declared.entry.EntryValue.{EntryValue}
use Rattle.ini_trees.specs.declared.entry.EntryValue.TheVariants as value
use Rattle.ini_trees.specs.declared.entry.ParameterEntry.{ParameterEntry}
use Rattle.ini_entries.specs.declared.reason.Reason.{Reason}
use Rattle.ini_entries.specs.declared.reason.Unread.{Unread}
use Rattle.ini_entries.specs.declared.reason.Unread.TheVariants as unread
use Rattle.ini_entries.specs.Constants.{is_constant}
use Rattle.ini_entries.specs.Keys.{OptionKey, ObjectKey, TypeKey, ParameterKey, kind_of}
use Rattle.ini_entries.specs.Names.{is_dotted_name, is_config_name}
use Rattle.ini_entries.specs.Options.{word_network, word_extends, word_time_limit, is_other_option}
use Rattle.ini_entries.specs.Options.{time_literal, IsObjectOption}
use Rattle.ini_entries.specs.Reasons.{entry_reason}
use Rattle.ini_entries.specs.Texts.{Bytes, items_of, is_blank}

abbrev pub word_default : Bytes
word_default = codes "default"

-- ASCII, and no blank
unfoldable pub is_key_byte : ℕ → Bool
is_key_byte b = nat_lt b 128 && not (is_blank b)

abbrev pub is_key : Bytes → Bool
is_key [] = false
is_key (b ∷ bs) = list_all is_key_byte (b ∷ bs)

-- The value of a parameter: the word `default`, or what NED reads as an expression, where that is
-- constant.
abbrev pub IsEntryValue : Bytes → EntryValue → Type 0
IsEntryValue bytes value.Default = bytes ≡ word_default
IsEntryValue bytes (value.Given e) =
    (bytes ≢ word_default) × IsExpressionText bytes e × (is_constant e ≡ true)

-- the pattern of a key, and a value
abbrev pub IsPatternAndValue : Bytes → Bytes → ParameterEntry → Type 0
IsPatternAndValue key bytes p =
    (pattern_of (chars key) ≡ Some p.pattern) × IsEntryValue bytes p.value

-- What the value of a key says. Each key is a pattern, whether it is used as one or not.
abbrev pub IsEntryMeaning : Bytes → Bytes → EntryMeaning → Type 0
-- Options: the network; the bases of a configuration; the time limit; others have no effect.
IsEntryMeaning key bytes (meaning.Network name) =
    (key ≡ word_network) × (name ≡ bytes) × (is_dotted_name bytes ≡ true)
IsEntryMeaning key bytes (meaning.Extends names) =
    (key ≡ word_extends) × (names ≡ items_of bytes) × (list_all is_config_name names ≡ true)
IsEntryMeaning key bytes (meaning.TimeLimit ps) =
    (key ≡ word_time_limit) × IsExpressionText bytes (time_literal ps)
IsEntryMeaning key bytes meaning.Other =
    (kind_of key ≡ OptionKey) × (is_other_option key bytes ≡ true) × IsSome (pattern_of (chars key))
-- Per-object options.
IsEntryMeaning key bytes (meaning.Object o) =
    (kind_of key ≡ ObjectKey o.option) × (pattern_of (chars key) ≡ Some o.pattern)
    × IsObjectOption o.option bytes o.says
-- Types of submodules, and values of parameters.
IsEntryMeaning key bytes (meaning.Type p) = (kind_of key ≡ TypeKey) × IsPatternAndValue key bytes p
IsEntryMeaning key bytes (meaning.Parameter p) =
    (kind_of key ≡ ParameterKey) × IsPatternAndValue key bytes p

-- ---- answers

-- What was found is the only one; where nothing was found there is none.
abbrev pub Tells : {X : Type 0} → (X → Type 0) → Option X → Type 0
Tells P (Some x) = P x × ((y : _) → P y → y ≡ x)
Tells P None = (y : _) → P y → ⊥

-- What was found is the only one; where nothing was found there is none, and the reason told is one
-- of these. Lack of memory says nothing.
abbrev pub Finds : {X : Type 0} → (X → Type 0) → (Reason → Type 0) → Result X Unread → Type 0
Finds P Why (Ok x) = P x × ((y : _) → P y → y ≡ x)
Finds P Why (Err (unread.MeansNothing why)) = ((y : _) → P y → ⊥) × Why why
Finds P Why (Err (unread.NoMemory error)) = Unit {0}

-- What the entry says; where it says nothing, the reason told is its own.
abbrev pub FindsMeaning : Bytes → Bytes → Result EntryMeaning Unread → Type 0
FindsMeaning key bytes result =
    Finds (IsEntryMeaning key bytes) (λ why. why ≡ entry_reason key bytes) result
