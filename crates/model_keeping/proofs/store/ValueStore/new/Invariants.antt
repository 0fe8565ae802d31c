use Rattle.std.proofs.Common.{◌≡◌, ◌<◌, ℕ, List, Some}
use Rattle.model_keeping.specs.Paths.{path_of_place}
use Rattle.place_index.specs.Listed.{under_of}
use Rattle.place_index.specs.Places.{IsListed}
use Rattle.model_keeping.proofs.store.ValueStore.new.Given as goal

abbrev pub invariant-loop-place : goal.invariant-loop-place
invariant-loop-place l = (p : ℕ) (path : List ℕ) → p < l.place → path_of_place l.fn.kept.entries p ≡ Some path → IsListed p path (under_of l.index)
