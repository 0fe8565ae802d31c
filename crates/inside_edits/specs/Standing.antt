-- The inside of a module has the value that it had, though values that it asked for are others.
use Rattle.std.specs.Prelude.{◌≡◌, ℕ, suc, true, List, Option, Some, Ok, slice_get}
use Rattle.ini_trees.specs.declared.entry.EntryValue.{EntryValue}
use Rattle.inside_keys.specs.declared.found.Found.{Found}
use Rattle.inside_keys.specs.declared.key.Key.{Key}
use Rattle.inside_keys.specs.declared.key.Module.{Module}
use Rattle.inside_keys.specs.declared.key.What.TheVariants as what
use Rattle.inside_keys.specs.Keys.{key}
use Rattle.inside_keys.specs.Settings.{ModuleRules}
use Rattle.inside_keys.specs.Values.{rules_of}
use Rattle.inside_uses.specs.Uses.{IsAbove, KnownValues, ServesAs, is_of_inner}
use Rattle.param_following.specs.Following.{followed}
use Rattle.param_following.specs.Waiting.{IsRight}
use Rattle.param_keeping.specs.Stores.{IsStored}
use Rattle.rest_index.specs.Rests.{asked_of, is_among, is_live}
use Rattle.inside_edits.specs.Kept.{KeptValues}
use Rattle.inside_edits.specs.Reads.{with_entries}

-- of what stands at a place the inside of that module is served as well by what is known now: by the
-- same value, or by another one of a parameter of an inner module
abbrev pub ServesStill : Module → KeptValues → KnownValues → ℕ → Type 0
ServesStill m before now q = (j : Key) (f : Found) → slice_get before.entries q ≡ Some (j, f)
    → ServesAs (is_of_inner m j) (Some f) (now j)

-- AN INSIDE STANDS: let it count among values that are kept under an ini text, and let values be known
-- under another one, each found in so many steps, which serve for all that it asked for. Under the
-- other text it is found in one step more, and is what it was.
abbrev pub InsideStands : Type 0
InsideStands = (s : ModuleRules) (after : List ℕ → Option EntryValue) (n k : ℕ) (m : Module)
    (v : Found) (before : KeptValues) (now : KnownValues) (p : ℕ) → IsAbove s m
    → IsStored (rules_of s) n before → slice_get before.entries p ≡ Some (key m what.Inside, v)
    → is_live before.live p ≡ true → IsRight (rules_of (with_entries after s)) k now
    → ((q : ℕ) → is_among q (asked_of before.rows p) ≡ true → ServesStill m before now q) →
    followed (rules_of (with_entries after s)) (suc k) (key m what.Inside) ≡ Some (Ok v)
