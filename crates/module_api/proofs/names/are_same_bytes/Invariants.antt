use Rattle.std.proofs.Common.{◌≡◌, length}
use Rattle.std.specs.Str.{bytes_eq}
use Rattle.module_api.proofs.names.are_same_bytes.Given as goal

-- what is left decides
abbrev pub invariant-bytes : goal.invariant-bytes
invariant-bytes l = bytes_eq l.left l.right ≡ bytes_eq l.name l.other

abbrev pub decreases-bytes : goal.decreases-bytes
decreases-bytes l = length l.left
