use Rattle.std.proofs.Common.{◌≡◌, ◌-◌, ℕ, List, length, true}
use Rattle.path_table.specs.Groups.{begins_dead, numbers_of}
use Rattle.path_table.proofs.groups.front_from.Given as goal

abbrev pub invariant-places : goal.invariant-places
invariant-places l = (path : List ℕ) → l.numbers ≡ numbers_of path 0 l.modules → begins_dead path l.front l.modules ≡ true → begins_dead path l.place l.modules ≡ true

abbrev pub decreases-places : goal.decreases-places
decreases-places l = length l.numbers - l.place
