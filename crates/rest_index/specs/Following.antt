-- How places are given up, one after another.
use Rattle.std.specs.Prelude.{ℕ, Bool, true, false, List, [], ◌∷◌, ◌++◌, if◌then◌else◌}
use Rattle.std.specs.Prelude.{length, nat_lt, slice_set}
use Rattle.rest_index.specs.declared.giving_up.Flags.{Flags}
use Rattle.rest_index.specs.declared.row.Row.{Row}
use Rattle.rest_index.specs.Rests.{asked_of, is_among, is_live, users_of}

-- a place is given up, where it counts
abbrev pub without : Flags → ℕ → Flags
without g p = if is_live g.live p
    then record { live = slice_set g.live p false; given = g.given ++ p ∷ [] } else g

-- these are
abbrev pub without_all : Flags → List ℕ → Flags
without_all g [] = g
without_all g (p ∷ ps) = without_all (without g p) ps

-- one is that may have asked for a place, where it did
abbrev pub without_user : List Row → ℕ → Flags → ℕ → Flags
without_user rows p g u = if is_among p (asked_of rows u) then without g u else g

-- of these those that asked for a place
abbrev pub without_users : List Row → ℕ → Flags → List ℕ → Flags
without_users rows p g [] = g
without_users rows p g (u ∷ us) = without_users rows p (without_user rows p g u) us

-- all that asked for a place
abbrev pub without_askers : List Row → Flags → ℕ → Flags
without_askers rows g p = without_users rows p g (users_of rows p)

-- one counts again
abbrev pub with_one : List Bool → ℕ → List Bool
with_one live p = if nat_lt p (length live) then slice_set live p true else live

-- these do
abbrev pub with_all : List Bool → List ℕ → List Bool
with_all live [] = live
with_all live (p ∷ ps) = with_all (with_one live p) ps
