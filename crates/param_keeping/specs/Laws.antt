-- What an edit leaves of a store.
use Rattle.std.specs.Prelude.{◌≡◌, ℕ, Bool, true, false, List, Some}
use Rattle.param_following.specs.Asking.{Asking}
use Rattle.param_following.specs.Following.{Rules}
use Rattle.param_following.specs.Laws.{IsExact}
use Rattle.rest_index.specs.Rests.{is_among, is_live, IsLeft, RestsOn}
use Rattle.param_keeping.specs.Stores.{Store, IsStored, key_at}

-- other values count
abbrev pub with_live : {K V : Type 0} → Store K V → List Bool → Store K V
with_live s live = record s { live = live }

-- the same keys, which ask for something else
abbrev pub asking_else : {K V F : Type 0} → Rules K V F → (K → Asking K V F V) → Rules K V F
asking_else rules asking = record rules { asking = asking }

-- each key that counts asks as before, unless it is at one of these places
abbrev pub AskAsBefore : {K V F : Type 0} → Rules K V F → (K → Asking K V F V) → Store K V
    → List ℕ → Type 0
AskAsBefore {K} rules asking s seeds = (p : ℕ) (k : K) → key_at s.entries p ≡ Some k
    → is_live s.live p ≡ true → is_among p seeds ≡ false → asking k ≡ rules.asking k

-- WHAT IS KEPT OVER AN EDIT IS THE NEW MODEL'S. Let a store be kept under the old rules, and let each
-- key that counts ask under the new ones as before, unless it is at one of some places. Where these
-- are given up with all that rest on them, what is left may be kept under the new rules; and each
-- place that is given up rests on one of these.
abbrev pub KeptOverEdit : {K V F : Type 0} → Rules K V F → (K → Asking K V F V) → Type 0
KeptOverEdit {K} {V} rules asking = (n : ℕ) (s : Store K V) (seeds given : List ℕ)
    (live : List Bool) → IsExact rules → IsStored rules n s → AskAsBefore rules asking s seeds
    → IsLeft s.rows seeds s.live given live →
    IsStored (asking_else rules asking) n (with_live s live)
    × ((p : ℕ) → is_live s.live p ≡ true → is_live live p ≡ false → RestsOn s.rows seeds p)
