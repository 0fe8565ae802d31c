-- none of the lines before declares a parameter
use Rattle.std.proofs.Common.{◌≡◌, ◌≤◌, length}
use Rattle.inside_keys.specs.Values.{carrier}
use Rattle.inside_run.proofs.channels.carry.Given as goal

abbrev pub invariant-lines : goal.invariant-lines
invariant-lines l = record {
  same : carrier l.site l.channel l.rest l.carrier ≡ carrier l.site l.channel l.lines l.carrier;
  fewer : length l.rest ≤ length l.lines;
}

abbrev pub decreases-lines : goal.decreases-lines
decreases-lines l = length l.rest
