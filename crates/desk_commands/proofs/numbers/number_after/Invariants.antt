use Rattle.std.proofs.Common.{◌≡◌, length}
use Rattle.desk_commands.specs.Numbers.{number_after}
use Rattle.desk_commands.proofs.numbers.number_after.Given as goal

abbrev pub invariant-digits : goal.invariant-digits
invariant-digits l = number_after l.number l.rest ≡ number_after l.so_far l.digits

abbrev pub decreases-digits : goal.decreases-digits
decreases-digits l = length l.rest
