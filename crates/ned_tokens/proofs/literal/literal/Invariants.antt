use Rattle.std.proofs.Common.{◌≡◌, [], Some, false, length}
use Rattle.ned_tokens.specs.Literals.{literal_from, held}
use Rattle.ned_tokens.proofs.literal.literal.Given as goal

abbrev pub invariant-bytes : goal.invariant-bytes
invariant-bytes l = literal_from l.escapes (held l.proper l.found.items) l.rest ≡ literal_from false (Some []) l.bytes

abbrev pub decreases-bytes : goal.decreases-bytes
decreases-bytes l = length l.rest
