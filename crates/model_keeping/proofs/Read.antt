-- Entries of lines that were read.
use Rattle.std.proofs.Common.{Bool, true, false, List, [], ◌∷◌, ◌++◌, ℕ, Option, Some, None}
use Rattle.std.proofs.lemmas.List.Elements.{All-append, All-cons, All-nil}
use Rattle.std.specs.List.{All, cons_option}
use Rattle.edit_places.specs.Edited.{IsRead}
use Rattle.ini_trees.specs.declared.lines.IniEntry.{IniEntry}
use Rattle.ini_trees.specs.declared.lines.IniLine.{IniLine}
use Rattle.ini_trees.specs.declared.lines.LineMeaning.{LineMeaning}
use Rattle.ini_trees.specs.declared.lines.LineMeaning.TheVariants as line
use Rattle.ini_trees.specs.Sections.{entries_along, entries_from, entries_under, entry_here, is_in, section_behind}
use Rattle.same_entries.specs.Counted.{AreSaid, IsSaid}

read_here : (b : Bool) (m : LineMeaning) (rest : List IniEntry) → IsSaid m → All IsRead rest → All IsRead (cons_option (entry_here b m) rest)
read_here true (line.Entry e) rest said are = All-cons IsRead e rest said are
read_here true line.Blank rest said are = are
read_here true line.Comment rest said are = are
read_here true (line.Section name) rest said are = are
read_here false m rest said are = are

read_from : (name : List ℕ) (section : Option (List ℕ)) (lines : List IniLine) → AreSaid lines → All IsRead (entries_from name section lines)
read_from name section [] said = All-nil IsRead
read_from name section (l ∷ ls) said =
    read_here (is_in name section) l.meaning (entries_from name (section_behind section l.meaning) ls) said.0 (read_from name (section_behind section l.meaning) ls said.1)

pub entries_read : (chain : List (List ℕ)) (lines : List IniLine) → AreSaid lines → All IsRead (entries_along chain lines)
entries_read [] lines said = All-nil IsRead
entries_read (name ∷ chain) lines said = All-append IsRead (entries_under name lines) (entries_along chain lines) (read_from name None lines said) (entries_read chain lines said)
