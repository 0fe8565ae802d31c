-- What the program is asked for.
use Rattle.std.specs.Prelude.{◌≡◌, ◌<◌, ◌^◌, ◌==◌, ◌++◌, ℕ, Bool, not, true, false, if◌then◌else◌}
use Rattle.std.specs.Prelude.{List, [], ◌∷◌, Option, Some, None, codes, unwrap_or, option_and_then}
use Rattle.std.specs.Prelude.{option_map, map}
use Rattle.std.specs.String.{string_bytes}
use Rattle.std.specs.List.{ends_with}
use Rattle.std.specs.Str.Parse.{IsNumeral, digits_value, without_leading_plus}
use Rattle.clap.specs.Matches.{first_value, matched_of, one_text, raw_values}
use Rattle.clap.specs.declared.parser.matches.Found.{Found}
use Rattle.clap.specs.declared.parser.matches.ValueSource.{ValueSource}
use Rattle.clap.specs.declared.parser.matches.ValueSource.TheVariants as source
use Rattle.nedrun_exit.specs.declared.stops.ExitReason.{ExitReason}
use Rattle.nedrun_exit.specs.declared.stops.ExitReason.TheVariants as stop
use Rattle.nedrun_options.specs.declared.words.Options.{Options}

-- the number that a word says in decimal digits, where it fits
abbrev pub IsNumberOf : List ℕ → ℕ → Type 0
IsNumberOf word n = IsNumeral 10 (without_leading_plus word)
    → digits_value 10 (without_leading_plus word) < 2 ^ 64
    → n ≡ digits_value 10 (without_leading_plus word)

-- the limit that a word gives; 1,000,000 where there is none
abbrev pub IsLimitOf : Option (List ℕ) → ℕ → Type 0
IsLimitOf None n = n ≡ 1000000
IsLimitOf (Some word) n = IsNumberOf word n

-- whether a word is among those that the program was started with, by where its value comes from
abbrev pub is_given : Option ValueSource → Bool
is_given None = false
is_given (Some source.DefaultValue) = false
is_given (Some source.CommandLine) = true

-- the interval that a word gives, where it is not zero; 1,000 where there is none
abbrev pub IsIntervalOf : Option (List ℕ) → ℕ → Type 0
IsIntervalOf None n = n ≡ 1000
IsIntervalOf (Some word) n = 0 < digits_value 10 (without_leading_plus word) → IsNumberOf word n

-- the folder of that name: the one that the program runs in, where the name is empty
abbrev pub folder_of : List ℕ → List ℕ
folder_of [] = codes "."
folder_of (b ∷ bs) = b ∷ bs

-- all that was found of the word of that name
abbrev pub values_of : Found → List ℕ → List (List ℕ)
values_of found name = unwrap_or (option_map raw_values (matched_of found name)) []

-- the files after the options
abbrev pub files_of : Found → List (List ℕ)
files_of found = values_of found (codes "ini") ++ values_of found (codes "ned")

-- the name of a NED file
abbrev pub is_ned : List ℕ → Bool
is_ned name = ends_with (λ a b. a == b) name (codes ".ned")

-- the first of these files is an ini file
abbrev pub begins_with_ini : List (List ℕ) → Bool
begins_with_ini [] = false
begins_with_ini (file ∷ files) = not (is_ned file)

-- the first of these files, if it is an ini file; or else the one that is taken where none is named
abbrev pub first_ini : List (List ℕ) → List ℕ
first_ini [] = codes "omnetpp.ini"
first_ini (file ∷ files) = if is_ned file then codes "omnetpp.ini" else file

-- the NED files among these files, of which the first may be an ini file
abbrev pub ned_files : List (List ℕ) → List (List ℕ)
ned_files [] = []
ned_files (file ∷ files) = if is_ned file then file ∷ files else files

-- THE INI FILE is the one that the word for it names; or else the first of the files
abbrev pub ini_of : Option (List ℕ) → List (List ℕ) → List ℕ
ini_of (Some named) files = named
ini_of None files = first_ini files

-- THE NED FILES are all of the files, where the word for the ini file names that; or else those
-- after it
abbrev pub texts_of : Option (List ℕ) → List (List ℕ) → List (List ℕ)
texts_of (Some named) files = files
texts_of None files = ned_files files

-- WHAT THE PROGRAM IS ASKED FOR is what its words say, each by its name.
pub record IsGiven (found : Found) (words : Options) : Type 0 where
  pub config : string_bytes words.config
      ≡ unwrap_or (first_value found (codes "config")) (codes "General")
  pub limit : IsLimitOf (one_text found (codes "limit")) words.limit
  pub named : words.names_limit
      ≡ is_given (option_and_then (λ a. a.source) (matched_of found (codes "limit")))
  pub interval : IsIntervalOf (one_text found (codes "interval")) words.interval
  pub directory : string_bytes words.directory
      ≡ folder_of (unwrap_or (first_value found (codes "directory")) (codes "."))
  pub strict : words.strict
      ≡ is_given (option_and_then (λ a. a.source) (matched_of found (codes "strict")))
  pub progress : words.progress
      ≡ is_given (option_and_then (λ a. a.source) (matched_of found (codes "progress")))
  pub ini : string_bytes words.ini ≡ ini_of (first_value found (codes "file")) (files_of found)
  pub texts : map string_bytes words.texts.items
      ≡ texts_of (first_value found (codes "file")) (files_of found)
  pub folders : option_map string_bytes words.folders ≡ first_value found (codes "folders")

-- why the words aren't there: they can't be had; they are not as they should be, or ask for help;
-- or memory ran out
abbrev pub AreUnreadWords : ExitReason → Type 0
AreUnreadWords (stop.Words _) = Unit {0}
AreUnreadWords (stop.Failed line error) =
    string_bytes line ≡ codes "command line: the words can't be read"
AreUnreadWords (stop.NoMemory _) = Unit {0}
AreUnreadWords _ = ⊥
