-- Why an entry says nothing, where it says nothing. Of several reasons the first in this order is
-- told.
use Rattle.std.specs.Prelude.{codes, if◌then◌else◌, is_some}
use Rattle.std.specs.Str.{bytes_eq, chars}
use Rattle.ini_pattern.specs.PatternOf.{pattern_of}
use Rattle.ini_entries.specs.declared.reason.Reason.{Reason}
use Rattle.ini_entries.specs.declared.reason.Reason.TheVariants as reason
use Rattle.ini_entries.specs.Keys.{KeyKind, OptionKey, ObjectKey, TypeKey, ParameterKey, kind_of}
use Rattle.ini_entries.specs.Options.{word_network, word_extends, word_time_limit, word_modes}
use Rattle.ini_entries.specs.Options.{is_other_option}
use Rattle.ini_entries.specs.Texts.{Bytes}

-- An option that may not have its value, or that no entry may have: it asks for another file, for
-- more than one run, or for another resolution of times; or else it is not supported.
abbrev pub option_reason : Bytes → Reason
option_reason key =
    if bytes_eq key (codes "include") then reason.Include
    else (if bytes_eq key (codes "repeat") then reason.Repeated
    else (if bytes_eq key (codes "simtime-resolution") then reason.Resolution
    else reason.Unsupported))

-- A per-object option of that name: its value is no list of recording modes, or no truth.
abbrev pub object_reason : Bytes → Reason
object_reason name = if bytes_eq name word_modes then reason.BadModes else reason.NotATruth

-- The key is no pattern; or else this.
abbrev pub pattern_reason : Bytes → Reason → Reason
pattern_reason key why = if is_some (pattern_of (chars key)) then why else reason.BadPattern

-- By the kind of the key. An option that may have its value has a key that is no pattern. Of other
-- keys the key comes first, and then the value, which for types and parameters is neither `default`
-- nor a constant expression.
abbrev pub kind_reason : Bytes → Bytes → KeyKind → Reason
kind_reason key bytes OptionKey =
    if is_other_option key bytes then reason.BadPattern else option_reason key
kind_reason key bytes (ObjectKey name) = pattern_reason key (object_reason name)
kind_reason key bytes TypeKey = pattern_reason key reason.BadExpression
kind_reason key bytes ParameterKey = pattern_reason key reason.BadExpression

-- THE REASON of an entry of this key and this value that says nothing. Of options with effect it is
-- that the value is not the name of a network, no list of names of configurations, or no time.
abbrev pub entry_reason : Bytes → Bytes → Reason
entry_reason key bytes =
    if bytes_eq key word_network then reason.NotANetwork
    else (if bytes_eq key word_extends then reason.NotConfigurations
    else (if bytes_eq key word_time_limit then reason.NotATime
    else kind_reason key bytes (kind_of key)))
