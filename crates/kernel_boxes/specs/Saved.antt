-- Boxes as the kinds and states of their modules.
use Rattle.std.specs.Prelude.{◌≡◌, ℕ, IsTrue, List, [], ◌∷◌, Option, Some, None, map}
use Rattle.std.proofs.Common.{Global}
use Rattle.std.specs.declared.dyn_box.DynBox.{DynBox}
use Rattle.module_api.specs.Behaviour.{Behaviour, State}
use Rattle.module_api.specs.Meaning.{Module, IsSameModule}
use Rattle.module_tree.specs.Boxes.{Held}
use Rattle.run_semantics.specs.declared.traces.Instance.{Instance}
use Rattle.run_semantics.specs.Event.{with_state}
use Rattle.run_semantics.specs.Laws.{AreStates}
use Rattle.run_semantics.specs.Run.{standing}
use Rattle.kernel_boxes.specs.Seats.{BoxAt, instance_of, module_in, with_module, AreOfKinds}
use Rattle.kernel_boxes.specs.Seats.{Members, seat_of}

module _ {X : Type 0} {Y : X → Type 0} where
  -- what the boxes of a tree are, by rising ids
  abbrev pub seats_held : Members X Y → Held (DynBox X Global Y) → List BoxAt
  seats_held members tree = map (seat_of members) tree.seats

  -- what a world holds of them
  abbrev pub instances_held : Members X Y → Held (DynBox X Global Y) → List Instance
  instances_held members tree = map instance_of (seats_held members tree)

-- the module of that id, with its box, where it has one
abbrev pub instance_at : ℕ → Option Module → Option Instance
instance_at id None = None
instance_at id (Some box) = Some (record { id = id; kind = box.kind; state = box.state })

-- it alone, where it is
abbrev pub listed : Option Instance → List Instance
listed None = []
listed (Some i) = i ∷ []

-- there is a box, and the bytes are a state of its kind
abbrev pub Takes : State → Option Module → Type 0
Takes state None = ⊥
Takes state (Some box) = IsTrue (box.naming.is_state state)

-- The box of that id is still of its kind and naming, whatever its state, and no other changed.
pub record IsLoaded (id : ℕ) (old new : List BoxAt) : Type 0 where
  pub before : Module
  pub after : Module
  pub found : module_in id old ≡ Some before
  pub same : IsSameModule before after
  pub seats : new ≡ with_module id after old

-- Boxes can be brought into these states: each box is of its kind, they are those of the same
-- modules, and each state is one of its kind.
pub record CanTake (b : Behaviour) (saved : List Instance) (seats : List BoxAt) : Type 0 where
  pub kinds : AreOfKinds b seats
  pub same : standing (map instance_of seats) ≡ standing saved
  pub states : AreStates b saved

-- each in its turn takes its state
abbrev pub with_states : List Instance → List Instance → List Instance
with_states [] is = is
with_states (s ∷ ss) is = with_states ss (with_state s.id s.state is)
