-- Modules that were created.
use Rattle.std.specs.Prelude.{ℕ, ◌≤◌, ◌<◌, List, length}
use Rattle.std.specs.List.{All}
use Rattle.run_semantics.specs.declared.outcome.EventFlow.{EventFlow}
use Rattle.run_semantics.specs.declared.outcome.EventFlow.TheVariants as flow
use Rattle.run_semantics.specs.World.{World}

-- the module of that id was created, whether it lives or not
abbrev pub IsCreated : ℕ → World → Type 0
IsCreated id w = (0 < id) × (id ≤ length w.records)

-- no id is beyond those of the modules that were created
abbrev pub AreWithin : List ℕ → World → Type 0
AreWithin ids w = All (λ id. id ≤ length w.records) ids

-- where it goes on the network is there
abbrev pub HasNetwork : EventFlow → World → Type 0
HasNetwork flow.GoOn w = 1 ≤ length w.records
HasNetwork flow.Stop w = Unit {0}
HasNetwork (flow.Break path fault) w = Unit {0}
