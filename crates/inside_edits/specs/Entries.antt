-- Entries that an edit of the ini text takes out and puts in.
use Rattle.std.specs.Prelude.{◌≡◌, ℕ, ◌++◌, Bool, true, false, List}
use Rattle.std.specs.List.{list_any}
use Rattle.ini_trees.specs.declared.lines.IniEntry.{IniEntry}
use Rattle.ini_trees.specs.Entries.{speaks_of, value_for}

-- AN EDIT OF ENTRIES: between those that stay before it and behind it, these stood, and those stand
-- now. One that inserts a line took out none; one that removes a line puts in none.
pub record IsBetween (before after : List IniEntry) (taken put : List IniEntry) : Type 0 where
  pub front : List IniEntry
  pub back : List IniEntry
  pub was : before ≡ front ++ (taken ++ back)
  pub is : after ≡ front ++ (put ++ back)

-- one of these entries counts for the path, and matches it
abbrev pub is_spoken_of : List ℕ → List IniEntry → Bool
is_spoken_of path entries = list_any (speaks_of path) entries

-- ONLY PATHS THAT AN EDITED KEY MATCHES are told something else
abbrev pub OnlyMatchedPathsChange : Type 0
OnlyMatchedPathsChange = (before after taken put : List IniEntry) (path : List ℕ)
    → IsBetween before after taken put → is_spoken_of path (taken ++ put) ≡ false
    → value_for path after ≡ value_for path before

-- FIRST MATCH: and of those a key that is matched by an entry before the edit isn't either
abbrev pub OnlyFirstMatchesChange : Type 0
OnlyFirstMatchesChange = (front taken put back : List IniEntry) (path : List ℕ)
    → is_spoken_of path front ≡ true
    → value_for path (front ++ (put ++ back)) ≡ value_for path (front ++ (taken ++ back))
