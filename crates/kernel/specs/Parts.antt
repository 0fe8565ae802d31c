-- The part of an id, where there is one.
use Rattle.std.specs.Prelude.{ℕ, ◌==◌, List, [], ◌∷◌, Option, Some, None, if◌then◌else◌}
use Rattle.run_semantics.specs.Run.{Part}

abbrev pub part_in : ℕ → List Part → Option Part
part_in id [] = None
part_in id (p ∷ ps) = if p.id == id then Some p else part_in id ps
