-- Names of NED, and of sections.
use Rattle.std.specs.Prelude.{ℕ, Bool, false, ◌||◌, ◌&&◌, [], ◌∷◌, ◌==◌, is_none}
use Rattle.std.specs.List.{list_all}
use Rattle.ned_tokens.specs.Runs.{is_in, is_letter}
use Rattle.ned_tokens.specs.Words.{keyword_of}
use Rattle.ned_tokens.specs.declared.runs.Class.TheVariants as class
use Rattle.ini_entries.specs.Texts.{Bytes, parts_at}

-- a letter or `_`
unfoldable pub begins_name : ℕ → Bool
begins_name b = is_letter b || b == 95

-- a letter, a digit or `_`
unfoldable pub goes_on_name : ℕ → Bool
goes_on_name b = is_in class.Name b

abbrev pub is_spelled : Bytes → Bool
is_spelled [] = false
is_spelled (b ∷ bs) = begins_name b && list_all goes_on_name bs

-- a letter or `_`, then letters, digits and `_`; no word of the language
abbrev pub is_name : Bytes → Bool
is_name bytes = is_spelled bytes && is_none (keyword_of bytes)

-- names separated by dots: that of a package and a type, or of a type alone
abbrev pub is_dotted_name : Bytes → Bool
is_dotted_name bytes = list_all is_name (parts_at 46 bytes)

-- a letter, a digit, `_` or `-`
unfoldable pub is_config_byte : ℕ → Bool
is_config_byte b = goes_on_name b || b == 45

-- the name of a section: such bytes, one at least
abbrev pub is_config_name : Bytes → Bool
is_config_name [] = false
is_config_name (b ∷ bs) = list_all is_config_byte (b ∷ bs)
