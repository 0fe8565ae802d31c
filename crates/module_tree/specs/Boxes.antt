-- The boxes of modules, by their ids.
use Rattle.std.specs.Prelude.{◌≡◌, ℕ, suc, ◌==◌, ◌≤◌, ◌<◌, ◌^◌, nat_lt, List, [], ◌∷◌, length}
use Rattle.std.specs.Prelude.{Option, Some, None, if◌then◌else◌}

-- a box, and the id of its module
pub record Seated (X : Type 0) : Type 0 where
  pub id : ℕ
  pub box : X

-- boxes by rising ids, and up to which id there is room
pub record Held (X : Type 0) : Type 0 where
  pub seats : List (Seated X)
  pub room : ℕ

module _ {X : Type 0} where
  abbrev pub nothing : Held X
  nothing = record { seats = []; room = 0 }

  abbrev pub with_seats : List (Seated X) → Held X → Held X
  with_seats seats h = record { seats = seats; room = h.room }

  -- the box of the module of that id
  abbrev pub box_of : ℕ → List (Seated X) → Option X
  box_of id [] = None
  box_of id (s ∷ ss) = if s.id == id then Some s.box else box_of id ss

  -- the greatest id, that of the last box, where there is one; else that one
  abbrev pub last_after : Option ℕ → List (Seated X) → Option ℕ
  last_after before [] = before
  last_after before (s ∷ ss) = last_after (Some s.id) ss

  abbrev pub last_id : List (Seated X) → Option ℕ
  last_id ss = last_after None ss

  -- with one more, before the first of a greater id
  abbrev pub with_box : ℕ → X → List (Seated X) → List (Seated X)
  with_box id x [] = record { id = id; box = x } ∷ []
  with_box id x (s ∷ ss) = if nat_lt id s.id then record { id = id; box = x } ∷ s ∷ ss
      else s ∷ with_box id x ss

  -- without the one of that id
  abbrev pub without_box : ℕ → List (Seated X) → List (Seated X)
  without_box id [] = []
  without_box id (s ∷ ss) = if s.id == id then ss else s ∷ without_box id ss

  -- without those of these ids
  abbrev pub without_boxes : List ℕ → List (Seated X) → List (Seated X)
  without_boxes [] ss = ss
  without_boxes (id ∷ ids) ss = without_boxes ids (without_box id ss)

  -- with others, each in its place
  abbrev pub with_boxes : List (Seated X) → List (Seated X) → List (Seated X)
  with_boxes [] ts = ts
  with_boxes (s ∷ ss) ts = with_box s.id s.box (with_boxes ss ts)

  -- none of these modules has a box among those
  abbrev pub AreFree : List (Seated X) → List (Seated X) → Type 0
  AreFree [] ts = Unit {0}
  AreFree (s ∷ ss) ts = (box_of s.id ts ≡ None) × AreFree ss ts

  -- the ids rise, from this number on, and all are below that one
  abbrev pub AreRising : ℕ → ℕ → List (Seated X) → Type 0
  AreRising from below [] = Unit {0}
  AreRising from below (s ∷ ss) = (from ≤ s.id) × (s.id < below) × AreRising (suc s.id) below ss

  -- it holds of each box with the id of its module
  abbrev pub EachBox : (ℕ → X → Type 0) → List (Seated X) → Type 0
  EachBox P [] = Unit {0}
  EachBox P (s ∷ ss) = P s.id s.box × EachBox P ss

  -- what a list of slots holds, from this id on
  abbrev pub seats_from : ℕ → List (Option X) → List (Seated X)
  seats_from id [] = []
  seats_from id (None ∷ os) = seats_from (suc id) os
  seats_from id (Some x ∷ os) = record { id = id; box = x } ∷ seats_from (suc id) os

  -- So many of these slots hold a box, and there are no more than ids.
  pub record IsCounted (count : ℕ) (slots : List (Option X)) : Type 0 where
    pub counted : count ≡ length (seats_from 0 slots)
    pub few : length slots ≤ 2 ^ 32
