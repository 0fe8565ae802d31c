-- what is come to along the rest of the line is what is come to along all of it
use Rattle.std.proofs.Common.{◌≡◌, length}
use Rattle.std.specs.Option.{option_copied}
use Rattle.inside_keys.specs.Channels.{base_in, kind_along}
use Rattle.inside_keys.proofs.channel.root_kind.Given as goal

abbrev pub invariant-loop-next : goal.invariant-loop-next
invariant-loop-next l =
    kind_along l.names l.types l.left (option_copied l.next)
    ≡ kind_along l.names l.types (length l.types) (base_in (option_copied l.declared))

abbrev pub decreases-loop-next : goal.decreases-loop-next
decreases-loop-next l = l.left
