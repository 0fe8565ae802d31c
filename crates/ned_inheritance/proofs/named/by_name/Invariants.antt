use Rattle.std.proofs.Common.{◌≡◌, ◌||◌, ◌++◌, [], length}
use Rattle.ned_inheritance.specs.Named.{is_one_taken}
use Rattle.ned_inheritance.specs.Places.{duplicate_from}
use Rattle.ned_types.specs.Types.{has_duplicate}
use Rattle.ned_inheritance.proofs.named.by_name.Given as goal

abbrev pub invariant-types : goal.invariant-types
invariant-types l = (l.named ++ l.rest ≡ l.types) × ((is_one_taken l.named l.rest || has_duplicate l.rest) ≡ has_duplicate l.types) × (duplicate_from l.named (length l.named) l.rest ≡ duplicate_from [] 0 l.types)

abbrev pub decreases-types : goal.decreases-types
decreases-types l = length l.rest
