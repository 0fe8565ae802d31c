-- the clauses before have bound their variables
use Rattle.std.proofs.Common.{◌≡◌, ◌≤◌, ◌++◌, List, length, reverse, take}
use Rattle.ned_trees.specs.declared.connections.Clause.{Clause}
use Rattle.inside_keys.specs.Given.{bound_by}
use Rattle.inside_run.proofs.channels.bind_all.Given as goal

abbrev pub invariant-clauses : goal.invariant-clauses
invariant-clauses l = record {
  fewer : l.left ≤ l.all;
  bound : (more : List Clause) → bound_by (l.clauses ++ more) l.fn.scope (reverse (take l.all l.turn)) ≡ bound_by (l.rest ++ more) l.scope (reverse (take l.left l.turn));
}

abbrev pub decreases-clauses : goal.decreases-clauses
decreases-clauses l = length l.rest
