-- Looks in a list.
use Rattle.std.specs.Prelude.{List, [], ◌∷◌, Option, Some, None}
use Rattle.kernel_actions.specs.declared.looks.LookedAt.{LookedAt}

-- the first one, where there is one, and those after it
abbrev pub looks_in : Option LookedAt → List LookedAt → List LookedAt
looks_in None later = []
looks_in (Some first) later = first ∷ later
