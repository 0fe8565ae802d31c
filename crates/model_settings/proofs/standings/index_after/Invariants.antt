use Rattle.std.proofs.Common.{◌≡◌, length}
use Rattle.model_settings.specs.Standings.{index_after}
use Rattle.model_settings.proofs.standings.index_after.Given as goal

abbrev pub invariant-digits : goal.invariant-digits
invariant-digits l = index_after l.number l.rest ≡ index_after l.so_far l.digits

abbrev pub decreases-digits : goal.decreases-digits
decreases-digits l = length l.rest
