-- Where no line of an ini text is a per-object option, no option is said.
use Rattle.std.proofs.Common.{◌≡◌, ℕ, Bool, true, false, ◌||◌, List, [], ◌∷◌, ◌++◌, Option, Some, None, is_some, refl, sym, ap, ◌∙◌, if◌then◌else◌}
use Rattle.std.proofs.lemmas.Bool.{false≢true}
use Rattle.std.proofs.lemmas.List.Folds.{list_any-append}
use Rattle.std.specs.List.{cons_option, find, flat_map, list_any}
use Rattle.std.specs.Option.{option_and_then}
use Rattle.ini_trees.specs.declared.entry.EntryMeaning.{EntryMeaning}
use Rattle.ini_trees.specs.declared.entry.ObjectOption.{ObjectOption}
use Rattle.ini_trees.specs.declared.lines.IniEntry.{IniEntry}
use Rattle.ini_trees.specs.declared.lines.IniLine.{IniLine}
use Rattle.ini_trees.specs.declared.lines.LineMeaning.{LineMeaning}
use Rattle.ini_trees.specs.declared.lines.LineMeaning.TheVariants as line
use Rattle.ini_trees.specs.Entries.{object_for, object_said, speaks_of}
use Rattle.ini_trees.specs.Sections.{entries_along, entries_from, entries_under, entry_here, is_in, section_behind}
use Rattle.model_data.specs.declared.model.Model.{Model}
use Rattle.model_data.specs.Models.{entries_in}
use Rattle.recorders.specs.Options.{has_option_line, is_option_line}
use Rattle.recorders.specs.Selection.{option_of}
use Rattle.model_questions.specs.Records.{path_under}
use Rattle.std.specs.Str.{is_utf8}
use Rattle.recorders.proofs.Unwanted.{first_false, rest_false}

-- an entry is of a per-object option
abbrev says : IniEntry → Bool
says e = is_some (object_said e.meaning)

abbrev line_says : IniLine → Bool
line_says l = is_option_line l.meaning

none_of : {X : Type 0} (o : Option X) → is_some o ≡ false → o ≡ None
none_of None e = refl
none_of (Some x) e = absurd (false≢true (sym e))

both_false : (a b : Bool) → a ≡ false → b ≡ false → (a || b) ≡ false
both_false true b p q = p
both_false false b p q = q

-- of entries that say nothing of the kind, none that is found does
found_first : (test : IniEntry → Bool) (e : IniEntry) (es : List IniEntry) → says e ≡ false → option_and_then (λ (e : IniEntry). object_said e.meaning) (find test es) ≡ None → option_and_then (λ (e : IniEntry). object_said e.meaning) (find test (e ∷ es)) ≡ None
found_first test e es h rest = go (test e) refl
  where
    go : (b : Bool) → test e ≡ b → option_and_then (λ (e : IniEntry). object_said e.meaning) (find test (e ∷ es)) ≡ None
    go true q = rw q (none_of (object_said e.meaning) h)
    go false q = rw q rest

found_none : (test : IniEntry → Bool) (es : List IniEntry) → list_any says es ≡ false → option_and_then (λ (e : IniEntry). object_said e.meaning) (find test es) ≡ None
found_none test [] h = refl
found_none test (e ∷ es) h = found_first test e es (first_false (says e) (list_any says es) h) (found_none test es (rest_false (says e) (list_any says es) h))

-- nor does an entry before such
more_none : (b : Bool) (m : LineMeaning) (rest : List IniEntry) → is_option_line m ≡ false → list_any says rest ≡ false → list_any says (cons_option (entry_here b m) rest) ≡ false
more_none true (line.Entry e) rest h r = both_false (says e) (list_any says rest) h r
more_none true line.Blank rest h r = r
more_none true line.Comment rest h r = r
more_none true (line.Section name) rest h r = r
more_none false m rest h r = r

from_none : (name : List ℕ) (section : Option (List ℕ)) (ls : List IniLine) → list_any line_says ls ≡ false → list_any says (entries_from name section ls) ≡ false
from_none name section [] h = refl
from_none name section (l ∷ ls) h =
    more_none (is_in name section) l.meaning (entries_from name (section_behind section l.meaning) ls) (first_false (line_says l) (list_any line_says ls) h)
    (from_none name (section_behind section l.meaning) ls (rest_false (line_says l) (list_any line_says ls) h))

along_none : (names : List (List ℕ)) (ls : List IniLine) → list_any line_says ls ≡ false → list_any says (entries_along names ls) ≡ false
along_none [] ls h = refl
along_none (name ∷ names) ls h =
    list_any-append says (entries_under name ls) (entries_along names ls)
    ∙ both_false (list_any says (entries_under name ls)) (list_any says (entries_along names ls)) (from_none name None ls h) (along_none names ls h)

either_none : {X : Type 0} (b : Bool) (o : Option X) → o ≡ None → (if b then o else None) ≡ None
either_none true o h = h
either_none false o h = refl

-- NO OPTION IS SAID of anything
pub none_said : (m : Model) (path name option : List ℕ) → has_option_line m ≡ false → None ≡ option_of (entries_in m) path name option
none_said m path name option h =
    let whole : List ℕ = path_under (path_under path name) option in
    sym
    (either_none (is_utf8 whole) (option_and_then (λ (e : IniEntry). object_said e.meaning) (find (speaks_of whole) (entries_in m)))
    (found_none (speaks_of whole) (entries_in m) (along_none m.chain m.ini h)))
