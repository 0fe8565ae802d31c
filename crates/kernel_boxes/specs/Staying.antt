-- Which boxes stay where a run goes back.
use Rattle.std.specs.Prelude.{ℕ, suc, ◌==◌, ◌≤◌, ◌&&◌, bytes_eq, Bool, true, false, List, [], ◌∷◌}
use Rattle.std.specs.Prelude.{Option, Some, None, if◌then◌else◌}
use Rattle.std.specs.List.{filter, list_any}
use Rattle.module_api.specs.Meaning.{Module}
use Rattle.run_semantics.specs.declared.traces.Instance.{Instance}
use Rattle.run_semantics.specs.Run.{Part}
use Rattle.kernel_boxes.specs.Seats.{BoxAt}

-- a box is that of one of these modules: of its id, and of its kind
abbrev pub is_of : List Instance → BoxAt → Bool
is_of [] s = false
is_of (i ∷ is) s = if i.id == s.id then bytes_eq i.kind s.box.kind else is_of is s

-- THE BOXES THAT STAY where a run goes back to these modules: each that is of the id and of the
-- kind of one of them
abbrev pub staying : List Instance → List BoxAt → List BoxAt
staying saved = filter (is_of saved)

-- whether the module of that id has one of these boxes
abbrev pub is_held : ℕ → List Part → Bool
is_held id boxes = list_any (λ (p : Part). p.id == id) boxes

-- of these modules the first one that has none of these boxes
abbrev pub first_without : List Part → List Part → Option Part
first_without boxes [] = None
first_without boxes (p ∷ ps) = if is_held p.id boxes then first_without boxes ps else Some p

-- the ids of modules rise, from this one on
abbrev pub IdsRise : ℕ → List Instance → Type 0
IdsRise from [] = Unit {0}
IdsRise from (i ∷ is) = (from ≤ i.id) × IdsRise (suc i.id) is

-- whether the box of a module is of that id's module, where it is the first of these
abbrev pub is_first : ℕ → List Instance → Option Module → Bool
is_first id saved None = false
is_first id [] (Some box) = false
is_first id (i ∷ is) (Some box) = i.id == id && bytes_eq i.kind box.kind

-- of these modules those after the one of that id, where it is the first
abbrev pub after_id : ℕ → List Instance → List Instance
after_id id [] = []
after_id id (i ∷ is) = if i.id == id then is else i ∷ is

-- whether a box stays when the one of that id is looked at, with these modules left: all others do
abbrev pub stays_at : ℕ → List Instance → BoxAt → Bool
stays_at id saved s = if s.id == id then is_first id saved (Some s.box) else true
