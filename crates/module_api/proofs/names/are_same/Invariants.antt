use Rattle.std.proofs.Common.{◌≡◌, ◌↔◌, length}
use Rattle.module_api.proofs.names.are_same.Given as goal

-- what is left is the same exactly where the names are
abbrev pub invariant-words : goal.invariant-words
invariant-words l = l.name ≡ l.other ↔ l.left ≡ l.right

abbrev pub decreases-words : goal.decreases-words
decreases-words l = length l.left
