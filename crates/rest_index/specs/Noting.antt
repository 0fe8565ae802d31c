-- A place is noted, with what it asked for.
use Rattle.std.specs.Prelude.{◌≡◌, ◌≢◌, ◌⊎◌, ℕ, Bool, true, false, if◌then◌else◌, List, [], ◌∷◌, ◌++◌}
use Rattle.std.specs.Prelude.{length}
use Rattle.rest_index.specs.declared.row.Row.{Row}
use Rattle.rest_index.specs.Rests.{asked_of, is_among, users_of, AreClosed, AreIndexed}

-- one that is among these is the last of them
abbrev pub IsLastAlone : ℕ → List ℕ → Type 0
IsLastAlone u us = is_among u us ≡ true → (front : List ℕ) × (us ≡ front ++ u ∷ [])

-- One more is known to have asked for a place, one of these, which did not know it yet.
pub record IsOneMore (user : ℕ) (places : List ℕ) (p : ℕ) (before after : List ℕ) : Type 0 where
  pub wanted : is_among p places ≡ true
  pub unknown : is_among user before ≡ false
  pub added : after ≡ before ++ user ∷ []

-- Some of these places may know of one more that asked for them, each only where it did not know it
-- yet; all else is as it was.
pub record HaveMoreUsers (user : ℕ) (places : List ℕ) (before after : List Row) : Type 0 where
  pub asked : (u : ℕ) → asked_of after u ≡ asked_of before u
  pub users : (p : ℕ) → (users_of after p ≡ users_of before p)
      ⊎ IsOneMore user places p (users_of before p) (users_of after p)
  pub as_long : length after ≡ length before

-- each of these knows one that asked for it
abbrev pub AllKnow : List Row → ℕ → List ℕ → Type 0
AllKnow rows u places = (p : ℕ) → is_among p places ≡ true → is_among u (users_of rows p) ≡ true

-- with one more, if it is not among them yet
abbrev pub with_user : List ℕ → ℕ → List ℕ
with_user us u = if is_among u us then us else us ++ u ∷ []

-- A place asked for these, and all others for what they asked for before; those that it asked for
-- know of it, once more only if they did not before, and all others know what they knew; the index
-- misses nothing, and what counts asked for what counts alone.
pub record IsNotedAt (place : ℕ) (asked : List ℕ) (before after : List Row)
    (live : List Bool) : Type 0 where
  pub own : asked_of after place ≡ asked
  pub others : (u : ℕ) → u ≢ place → asked_of after u ≡ asked_of before u
  pub users : (p : ℕ) → users_of after p
      ≡ (if is_among p asked then with_user (users_of before p) place else users_of before p)
  pub indexed : AreIndexed after
  pub closed : AreClosed after live
  pub as_long : length after ≡ length before
