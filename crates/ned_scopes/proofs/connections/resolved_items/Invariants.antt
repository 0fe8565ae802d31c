use Rattle.std.proofs.Common.{◌≡◌, ◌++◌, drop, map}
use Rattle.ned_scopes.specs.Scopes.{resolved_item}
use Rattle.ned_scopes.proofs.connections.resolved_items.Given as goal

abbrev pub invariant-loop-item : goal.invariant-loop-item
invariant-loop-item l = l.all ++ map (resolved_item l.types l.scopes) (drop l.item-index l.items) ≡ map (resolved_item l.types l.scopes) l.items
