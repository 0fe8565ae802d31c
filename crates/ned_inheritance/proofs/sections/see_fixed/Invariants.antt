use Rattle.std.proofs.Common.{◌≡◌, ◌||◌, ℕ, List, length}
use Rattle.ned_inheritance.specs.Seen.{names_in, is_in}
use Rattle.ned_types.specs.Types.{is_fixed_in}
use Rattle.ned_inheritance.proofs.sections.see_fixed.Given as goal

abbrev pub invariant-lines : goal.invariant-lines
invariant-lines l = (n : List ℕ) → (is_in n (names_in l.fixed.keys) || is_fixed_in n l.rest) ≡ (is_in n (names_in l.initial.fixed.keys) || is_fixed_in n l.lines)

abbrev pub decreases-lines : goal.decreases-lines
decreases-lines l = length l.rest
