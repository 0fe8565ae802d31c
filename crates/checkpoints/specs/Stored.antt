-- Stored positions, and how far apart they are taken.
use Rattle.std.specs.Prelude.{◌≡◌, ℕ, zero, suc, ◌*◌, ◌^◌, ◌%◌, ◌<◌, ◌≤◌, ◌==◌, ◌||◌, nat_le}
use Rattle.std.specs.Prelude.{nat_lt, min, Bool, false, List, [], ◌∷◌, ◌++◌, Option, Some, None}
use Rattle.std.specs.Prelude.{length, map, if◌then◌else◌}
use Rattle.std.specs.List.{filter}
use Rattle.kernel_actions.specs.declared.position.Position.{Position}

-- how many events were executed in each
abbrev pub counts_of : List Position → List ℕ
counts_of ps = map (λ (p : Position). p.count) ps

-- each is of a smaller count
abbrev pub AreBelow : ℕ → List Position → Type 0
AreBelow n [] = Unit {0}
AreBelow n (p ∷ ps) = (p.count < n) × AreBelow n ps

-- each is of a greater count
abbrev pub AreAbove : ℕ → List Position → Type 0
AreAbove n [] = Unit {0}
AreAbove n (p ∷ ps) = (n < p.count) × AreAbove n ps

-- by rising counts
abbrev pub AreRising : List Position → Type 0
AreRising [] = Unit {0}
AreRising (p ∷ ps) = AreAbove p.count ps × AreRising ps

-- Positions that are stored: they rise, beside them stand their counts, and the intervals are 1 at
-- least.
pub record AreStored (held : List Position) (counts : List ℕ) (first interval : ℕ) : Type 0 where
  pub rising : AreRising held
  pub counts_are : counts ≡ counts_of held
  pub first_is : 1 ≤ first
  pub interval_is : 1 ≤ interval

-- THOSE UP TO an event
abbrev pub up_to : ℕ → List Position → List Position
up_to event ps = filter (λ (p : Position). nat_le p.count event) ps

-- the last one, which of rising ones is that of the greatest count
abbrev pub last_from : Position → List Position → Position
last_from p [] = p
last_from p (q ∷ qs) = last_from q qs

abbrev pub last_of : List Position → Option Position
last_of [] = None
last_of (p ∷ ps) = Some (last_from p ps)

-- how many there are before the first that is after an event
abbrev pub number_up_to : ℕ → List ℕ → ℕ
number_up_to event [] = zero
number_up_to event (n ∷ ns) = if nat_le n event then suc (number_up_to event ns) else zero

-- ---- how far apart

-- WHAT IS STORED of a run at rising counts of events (its positions, or their counts alone), and
-- after each multiple of how many events one is due: where nothing is stored, and as it is now
pub record Timeline (A : Type 0) : Type 0 where
  pub first : ℕ
  pub interval : ℕ
  pub stored : List A

-- nothing is stored
abbrev pub begun : {A : Type 0} → ℕ → Timeline A
begun first = record { first = first; interval = first; stored = [] }

-- nothing is stored of it
abbrev pub IsBegun : {A : Type 0} → Timeline A → Type 0
IsBegun t = t ≡ begun t.first

-- its counts alone
abbrev pub counts_in : Timeline Position → Timeline ℕ
counts_in t = record { first = t.first; interval = t.interval; stored = counts_of t.stored }

-- AT MOST SO MANY are stored
abbrev pub most_stored : ℕ
most_stored = 64

-- twice the interval, but at most 2^62
abbrev pub doubled : ℕ → ℕ
doubled interval = min (2 * interval) (2 ^ 62)

abbrev pub is_multiple : ℕ → ℕ → Bool
is_multiple interval n = n % interval == 0

-- whether one of so many events stays where there is one too many: a multiple of the interval, and
-- the newest
abbrev pub stays : ℕ → ℕ → ℕ → Bool
stays interval newest n = is_multiple interval n || n == newest

-- Where one too many is stored the interval is doubled, and of all those stay that are multiples of
-- that, and the newest.
abbrev pub thinned : {A : Type 0} → (A → ℕ) → ℕ → Timeline A → Timeline A
thinned count newest t =
    if nat_lt most_stored (length t.stored)
    then record {
      first = t.first;
      interval = doubled t.interval;
      stored = filter (λ a. stays (doubled t.interval) newest (count a)) t.stored;
    }
    else t

-- ONE MORE IS TAKEN, after the others
abbrev pub taken : {A : Type 0} → (A → ℕ) → A → Timeline A → Timeline A
taken count a t = thinned count (count a)
    (record { first = t.first; interval = t.interval; stored = t.stored ++ a ∷ [] })

-- one more position
abbrev pub with_position : Position → Timeline Position → Timeline Position
with_position p t = taken (λ (q : Position). q.count) p t

-- one more count
abbrev pub with_count : ℕ → Timeline ℕ → Timeline ℕ
with_count n t = taken (λ k. k) n t

-- SOME ARE LEFT, the first ones: the interval stays, but where none is left it is again the first
abbrev pub left : {A : Type 0} → Timeline A → List A → Timeline A
left t [] = begun t.first
left t (a ∷ more) = record { first = t.first; interval = t.interval; stored = a ∷ more }

-- those up to an event are left
abbrev pub cut_after : ℕ → Timeline Position → Timeline Position
cut_after event t = left t (up_to event t.stored)

-- the last of them is of so many events
abbrev pub ends_at : ℕ → List ℕ → Bool
ends_at n [] = false
ends_at n (k ∷ []) = k == n
ends_at n (k ∷ l ∷ ks) = ends_at n (l ∷ ks)
