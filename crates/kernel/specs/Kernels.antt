-- What a kernel is, by what its boxes mean.
use Rattle.std.specs.Prelude.{ℕ, ◌+◌, ◌^◌, ◌<◌, List, map}
use Rattle.module_api.specs.Behaviour.{Behaviour}
use Rattle.run_semantics.specs.World.{World}
use Rattle.run_semantics.specs.declared.outcome.Outcome.{Outcome}
use Rattle.run_semantics.specs.Run.{Ran}
use Rattle.kernel_boxes.specs.Seats.{BoxAt, AreOfKinds, AreKept, Members, seat_of}
use Rattle.kernel.specs.Seats.{world_of}
use Rattle.kernel.specs.declared.kernel.Kernel.{Kernel}

module _ {C X : Type 0} {Y : X → Type 0} where
  -- what its boxes are, in the order of their ids
  abbrev pub boxes_in : Members X Y → Kernel C X Y → List BoxAt
  boxes_in members k = map (seat_of members) k.boxes.seats

  -- its world
  abbrev pub world_in : Members X Y → Kernel C X Y → World
  world_in members k = world_of k.core (boxes_in members k)

  -- a run that ended so, and left this kernel
  abbrev pub ran_in : Members X Y → Outcome → Kernel C X Y → Ran
  ran_in members outcome k = record { world = world_in members k; outcome = outcome }

  -- each of its boxes is of its kind
  abbrev pub HasKinds : Behaviour → Members X Y → Kernel C X Y → Type 0
  HasKinds b members k = AreOfKinds b (boxes_in members k)

  -- Its modules can be called: each box is of its kind, and so many more insertions have numbers.
  pub record IsCallable (b : Behaviour) (members : Members X Y) (insertions : ℕ)
      (k : Kernel C X Y) : Type 0 where
    pub room : (world_in members k).next + insertions < 2 ^ 128
    pub kinds : HasKinds b members k

  -- what a call of modules leaves, one that fails too
  abbrev pub KeepsBoxes : Behaviour → Members X Y → Kernel C X Y → Kernel C X Y → Type 0
  KeepsBoxes b members before after = AreKept b (boxes_in members before) (boxes_in members after)
