-- Which places an edit of entries reaches.
use Rattle.std.specs.Prelude.{◌≡◌, ◌≤◌, ◌+◌, ◌-◌, ℕ, Bool, false, List, ◌++◌, Some, length}
use Rattle.std.specs.Prelude.{take, drop}
use Rattle.std.specs.List.{list_any, All}
use Rattle.inside_edits.specs.Entries.{IsBetween}
use Rattle.ini_entries.specs.Meaning.{IsEntryMeaning}
use Rattle.ini_trees.specs.declared.lines.IniEntry.{IniEntry}
use Rattle.ini_trees.specs.Entries.{value_for}
use Rattle.ini_trees.specs.Words.{Bytes}
use Rattle.place_index.specs.Places.{PathsOf, reaches}
use Rattle.rest_index.specs.Rests.{is_among}

-- an entry says what its key and its value say, as one does that was read of a text
abbrev pub IsRead : IniEntry → Type 0
IsRead e = IsEntryMeaning e.key e.value e.meaning

-- THE COMMON ENDS of two lists of entries: so many at the front are the same, and so many at the back
pub record HaveEnds (one other : List IniEntry) (front back : ℕ) : Type 0 where
  pub within : front + back ≤ length one
  pub within_other : front + back ≤ length other
  pub fronts : take front one ≡ take front other
  pub backs : drop (length one - back) one ≡ drop (length other - back) other

-- the entries from that number on, before another number
abbrev pub between : ℕ → ℕ → List IniEntry → List IniEntry
between from to es = take (to - from) (drop from es)

-- one of these entries speaks of the path of a place
abbrev pub is_reached : PathsOf → List IniEntry → ℕ → Bool
is_reached paths es p = list_any (λ (e : IniEntry). reaches e (paths p)) es

-- THE PLACES THAT AN EDIT REACHES: between entries that stay before it and behind it some were taken
-- out, and others put in; the places are those of whose paths one of all these speaks.
abbrev pub AreReached : PathsOf → List IniEntry → List IniEntry → List ℕ → Type 0
AreReached paths before after places = (taken : List IniEntry) × (put : List IniEntry)
    × IsBetween before after taken put
    × ((p : ℕ) → is_among p places ≡ is_reached paths (taken ++ put) p)

-- NONE IS MISSED: of the path of each other place the entries say after the edit what they said
-- before it
abbrev pub NoneIsMissed : PathsOf → List IniEntry → List IniEntry → List ℕ → Type 0
NoneIsMissed paths before after places = (p : ℕ) (path : Bytes) → paths p ≡ Some path
    → is_among p places ≡ false → value_for path after ≡ value_for path before
