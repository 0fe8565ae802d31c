-- Boxes, by the ids of their modules.
use Rattle.std.specs.Prelude.{◌≡◌, ℕ, ◌==◌, ◌<◌, List, [], ◌∷◌, Option, Some, None, map}
use Rattle.std.specs.Prelude.{if◌then◌else◌}
use Rattle.std.proofs.Common.{Global}
use Rattle.std.specs.declared.dyn_box.DynBox.{DynBox}
use Rattle.module_api.specs.declared.simple_module.SimpleModule.{Ghosts}
use Rattle.module_api.specs.Behaviour.{Behaviour}
use Rattle.module_api.specs.Meaning.{Module, IsOfKind}
use Rattle.module_tree.specs.Boxes.{Seated}
use Rattle.run_semantics.specs.declared.traces.Instance.{Instance}
use Rattle.run_semantics.specs.Run.{standing}

-- a box, and the id of its module
pub record BoxAt : Type 0 where
  pub id : ℕ
  pub box : Module

-- what a world holds of a box
abbrev pub instance_of : BoxAt → Instance
instance_of s = record { id = s.id; kind = s.box.kind; state = s.box.state }

-- each box is of its kind
abbrev pub AreOfKinds : Behaviour → List BoxAt → Type 0
AreOfKinds b [] = Unit {0}
AreOfKinds b (s ∷ ss) = IsOfKind b s.box × AreOfKinds b ss

-- Each box is of its kind, and the same modules stand as before.
pub record AreKept (b : Behaviour) (old new : List BoxAt) : Type 0 where
  pub kinds : AreOfKinds b new
  pub standing_is : standing (map instance_of new) ≡ standing (map instance_of old)

-- what the box of the module of that id is, where it has one
abbrev pub module_in : ℕ → List BoxAt → Option Module
module_in id [] = None
module_in id (s ∷ ss) = if s.id == id then Some s.box else module_in id ss

-- it is another
abbrev pub with_module : ℕ → Module → List BoxAt → List BoxAt
with_module id box [] = []
with_module id box (s ∷ ss) = if s.id == id then record { id = s.id; box = box } ∷ ss
    else s ∷ with_module id box ss

-- the ids of all that stand are below this one
abbrev pub AreBelow : ℕ → List Instance → Type 0
AreBelow id [] = Unit {0}
AreBelow id (i ∷ is) = (i.id < id) × AreBelow id is

-- what each box says of itself: the members of its trait, which a clause hands over as
-- `SimpleModule-box`
abbrev pub Members : (X : Type 0) → (X → Type 0) → Type 1
Members X Y = (b : DynBox X Global Y) → Ghosts (Y b.vtable)

module _ {X : Type 0} {Y : X → Type 0} where
  -- the box, and the id of its module
  abbrev pub seat_of : Members X Y → Seated (DynBox X Global Y) → BoxAt
  seat_of members s = record { id = s.id; box = (members s.box).meaning s.box.value }
