-- How clauses keep what is asked.
use Rattle.std.specs.Prelude.{◌≡◌, ℕ, List, Option, Some, None, refl}
use Rattle.std.specs.Coded.{Coded, code_by, coded_list, coded_option, coded_ℕ}
use Rattle.transcripts.specs.declared.asked.AskedLine.{AskedLine}
use Rattle.transcripts.specs.declared.asked.AskedLine.TheVariants.{Line, TooLong}

abbrev line : AskedLine → Option (List ℕ)
line (Line text) = Some text
line TooLong = None

abbrev asked : Option (List ℕ) → AskedLine
asked (Some text) = Line text
asked None = TooLong

pub asked-line : (a : AskedLine) → asked (line a) ≡ a
asked-line (Line text) = refl
asked-line TooLong = refl

-- what is asked is stored as the line, where it is kept
abbrev pub asked_code : Coded AskedLine
asked_code = code_by (Option (List ℕ)) (coded_option (coded_list coded_ℕ)) line asked asked-line
