-- Entries by their numbers, and the numbers by keys.
use Rattle.std.specs.Prelude.{◌≡◌, ℕ, suc, ◌≤◌, nat_le, Bool, false, ◌&&◌, List, []}
use Rattle.std.specs.Prelude.{◌∷◌, length, drop, slice_get, Option, Some, None, if◌then◌else◌}
use Rattle.std.specs.HashMap.{HashMap, get_by_text}
use Rattle.std.specs.declared.string.String.{String}
use Rattle.ini_trees.specs.declared.lines.IniEntry.{IniEntry}
use Rattle.ini_trees.specs.Entries.{speaks_of}
use Rattle.ini_trees.specs.Words.{Bytes}
use Rattle.ini_index.specs.Keys.{has_key, key_of}

-- the number of the first entry that passes a test, where the first of these entries has number n
abbrev pub first_from : (IniEntry → Bool) → ℕ → List IniEntry → Option ℕ
first_from test n [] = None
first_from test n (e ∷ es) = if test e then Some n else first_from test (suc n) es

-- an entry has that key and speaks of the path
abbrev pub is_found : Bytes → Bytes → IniEntry → Bool
is_found key path e = has_key key e && speaks_of path e

-- a number is not below the one that was found
abbrev pub is_past : Option ℕ → ℕ → Bool
is_past None n = false
is_past (Some best) n = nat_le best n

-- the number that is less
abbrev pub sooner : Option ℕ → Option ℕ → Option ℕ
sooner best None = best
sooner best (Some n) = if is_past best n then best else Some n

-- of the entries from that number on each key has its first one; and each of these entries has the
-- next one of its own key
pub record AreNotedFrom {S A : Type 0} (n : ℕ) (es : List IniEntry) (heads : HashMap (String A) ℕ S)
    (nexts : List (Option ℕ)) : Type 0 where
  pub size : length nexts ≡ length es
  pub first : (key : Bytes) → get_by_text heads key ≡ first_from (has_key key) n (drop n es)
  pub next : (k : ℕ) (e : IniEntry) → n ≤ k → slice_get es k ≡ Some e
      → slice_get nexts k ≡ Some (first_from (has_key (key_of e.meaning)) (suc k) (drop (suc k) es))
