-- Places, each with a path of the ini text or none, and where they are listed.
use Rattle.std.specs.Prelude.{◌≡◌, ℕ, Bool, true, false, ◌&&◌, List, [], Option, Some, None}
use Rattle.std.specs.Char.{is_ascii}
use Rattle.std.specs.List.{list_all}
use Rattle.std.specs.Str.{is_utf8}
use Rattle.ini_trees.specs.declared.lines.IniEntry.{IniEntry}
use Rattle.ini_trees.specs.Entries.{last_name, speaks_of}
use Rattle.ini_trees.specs.Words.{Bytes}
use Rattle.rest_index.specs.Rests.{is_among}

-- the path of each place that has one
abbrev pub PathsOf : Type 0
PathsOf = ℕ → Option Bytes

-- the places that are listed under each text
abbrev pub Listing : Type 0
Listing = Bytes → List ℕ

-- the entry speaks of a path, which is a text
abbrev pub reaches : IniEntry → Option Bytes → Bool
reaches e None = false
reaches e (Some path) = is_utf8 path && speaks_of path e

-- all bytes are ASCII characters
abbrev pub are_ascii : Bytes → Bool
are_ascii path = list_all is_ascii path

-- A PLACE IS LISTED under the last name of its path; under the empty text too, where the path has
-- other characters than those of ASCII
pub record IsListed (p : ℕ) (path : Bytes) (under : Listing) : Type 0 where
  pub named : is_among p (under (last_name path)) ≡ true
  pub odd : are_ascii path ≡ false → is_among p (under []) ≡ true

-- EACH PLACE that has a path is listed so
abbrev pub AreListed : PathsOf → Listing → Type 0
AreListed paths under = (p : ℕ) (path : Bytes) → paths p ≡ Some path → IsListed p path under
