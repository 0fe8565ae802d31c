-- What was found over a base is put into it.
use Rattle.std.specs.Prelude.{ℕ, zero, ◌≡◌, ◌⊎◌, Bool, true, List, [], ◌∷◌, ◌++◌, length, slice_get}
use Rattle.std.specs.Prelude.{Option, Some, None}
use Rattle.param_following.specs.Following.{Rules}
use Rattle.param_engine.specs.Tables.{Entries, known, AreNoted}
use Rattle.param_engine.specs.Tables.{key_at as own_key_at}
use Rattle.param_engine.specs.Working.{Grows}
use Rattle.rest_index.specs.Rests.{asked_of, is_live}
use Rattle.param_keeping.specs.Added.{IsAdded}
use Rattle.param_keeping.specs.Stores.{Keeping, Store, IsStored, known_in, key_at, one_more}
use Rattle.param_keeping.specs.Stores.{store_of}
use Rattle.param_base.specs.Asking.{known_by}
use Rattle.param_base.specs.Spots.{over_base}

-- the place where what stood at a place stands now, by a list of these
abbrev pub or_first : Option ℕ → ℕ
or_first None = zero
or_first (Some p) = p

abbrev pub moved_to : List ℕ → ℕ → ℕ
moved_to places own = or_first (slice_get places own)

-- a key stands at a place of a store, and counts
abbrev pub StandsAt : {K V : Type 0} → Store K V → K → ℕ → Type 0
StandsAt s k p = (key_at s.entries p ≡ Some k) × (is_live s.live p ≡ true)

-- AN ENTRY IS PUT INTO A STORE: its key is known there already, and nothing changes; or it is added,
-- with the places of what it asked for.
abbrev pub IsPut : {K V : Type 0} → (K → K → Bool) → Store K V → K → V → List ℕ → ℕ → Store K V
    → Type 0
IsPut same s k v asked p after = ((after ≡ s) × StandsAt s k p)
    ⊎ ((known_in same s k ≡ None) × IsAdded same s p k v asked after)

-- what is known is one of two
abbrev pub IsOneOf : {K V : Type 0} → (K → Option V) → (K → Option V) → (K → Option V) → Type 0
IsOneOf {K} {V} one other knows = (k : K) (v : V) → knows k ≡ Some v
    → (one k ≡ Some v) ⊎ (other k ≡ Some v)

-- a key stands in the table
abbrev pub IsMet : {K V : Type 0} → Entries K V → K → Type 0
IsMet es k = (own : ℕ) × (own_key_at es own ≡ Some k)

-- THE COUNT OF EVALUATIONS: one more for each entry whose key the base doesn't know
abbrev pub more_if_unknown : {V : Type 0} → Option V → ℕ → ℕ
more_if_unknown None n = one_more n
more_if_unknown (Some v) n = n

abbrev pub counted_with : {K V : Type 0} → (K → Option V) → Entries K V → ℕ → ℕ
counted_with knows [] n = n
counted_with knows (e ∷ es) n = counted_with knows es (more_if_unknown (knows e.0) n)

-- WHAT IS LEFT ALONE: no place gets another key; and a place that counts, or whose key the table
-- doesn't know, has what it had, asked for what it asked for, and counts as it did
pub record LeavesAlone {K V : Type 0} (same : K → K → Bool) (es : Entries K V) (s after : Store K V)
    : Type 0 where
  pub keys : (q : ℕ) (k : K) → key_at s.entries q ≡ Some k → key_at after.entries q ≡ Some k
  pub alone : (q : ℕ) (k : K) → key_at s.entries q ≡ Some k
      → (is_live s.live q ≡ true) ⊎ (known same es k ≡ None) →
      (slice_get after.entries q ≡ slice_get s.entries q)
      × (asked_of after.rows q ≡ asked_of s.rows q) × (is_live after.live q ≡ is_live s.live q)

-- A table of one's own, found over a base, is being put into it, entry by entry from the front: the
-- base may be kept still, has what it had, and of the table those before; and for each of these the
-- list says where it stands now.
pub record IsPutSoFar {K V F : Type 0} (rules : Rules K V F) (start : Keeping K V)
    (flags : List Bool) (es rest : Entries K V) (places : List ℕ) (s : Store K V) : Type 0 where
  pub before : Entries K V
  pub parts : es ≡ before ++ rest
  pub noted : AreNoted (over_base rules start flags) (known rules.same es) before rest
  pub base : IsStored rules (length s.entries) s
  pub grows : Grows (known_by rules.same start flags) (known_in rules.same s)
  pub only : IsOneOf (known_by rules.same start flags) (known rules.same es) (known_in rules.same s)
  pub met : (k : K) (v : V) → known_in rules.same s k ≡ Some v
      → (known_by rules.same start flags k ≡ Some v) ⊎ IsMet before k
  pub stand : (own : ℕ) (k : K) → own_key_at before own ≡ Some k
      → StandsAt s k (moved_to places own)
  pub as_long : length places ≡ length before
  pub leaves : LeavesAlone rules.same es (store_of start flags) s
