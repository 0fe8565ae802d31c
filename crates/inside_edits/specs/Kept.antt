-- What an edit of the ini text leaves of the values that are kept.
use Rattle.std.specs.Prelude.{◌≡◌, ℕ, Bool, true, false, List, Option, Some}
use Rattle.ini_trees.specs.declared.entry.EntryValue.{EntryValue}
use Rattle.inside_keys.specs.declared.found.Found.{Found}
use Rattle.inside_keys.specs.declared.key.Key.{Key}
use Rattle.inside_keys.specs.Settings.{ModuleRules}
use Rattle.inside_keys.specs.Values.{rules_of}
use Rattle.param_keeping.specs.Laws.{with_live}
use Rattle.param_keeping.specs.Stores.{Store, IsStored, key_at}
use Rattle.rest_index.specs.Rests.{is_among, is_live, IsLeft, RestsOn}
use Rattle.inside_edits.specs.Reads.{SaysTheSame, path_read, with_entries}

-- the values of keys that are kept
abbrev pub KeptValues : Type 0
KeptValues = Store Key Found

-- NO PLACE IS MISSED: of each place that counts and isn't one of these the new text says, of the path
-- that its key reads, what the old one said
abbrev pub MissNone : ModuleRules → (List ℕ → Option EntryValue) → KeptValues → List ℕ → Type 0
MissNone s after kept seeds = (p : ℕ) (k : Key) → key_at kept.entries p ≡ Some k
    → is_live kept.live p ≡ true → is_among p seeds ≡ false → SaysTheSame s.entry after (path_read k)

-- WHAT IS KEPT OVER AN EDIT OF THE INI TEXT is the new model's: where some places are given up, with
-- all that rest on them, and none is missed among these, what is left may be kept under the new text;
-- and each value that is given up rests on one at these places.
abbrev pub KeptOverIniEdit : Type 0
KeptOverIniEdit = (s : ModuleRules) (after : List ℕ → Option EntryValue) (n : ℕ) (kept : KeptValues)
    (seeds given : List ℕ) (live : List Bool) → IsStored (rules_of s) n kept
    → MissNone s after kept seeds → IsLeft kept.rows seeds kept.live given live →
    IsStored (rules_of (with_entries after s)) n (with_live kept live)
    × ((p : ℕ) → is_live kept.live p ≡ true → is_live live p ≡ false → RestsOn kept.rows seeds p)
