use Rattle.std.proofs.Common.{◌≡◌, ◌<◌, ℕ, length, None, get_or}
use Rattle.ini_trees.specs.Numbers.{name_at, AreNumbers}
use Rattle.ini_trees.specs.Sections.{bases_named}
use Rattle.ini_trees.proofs.bases.base_rows.Given as goal

abbrev pub invariant-loop-bases : goal.invariant-loop-bases
invariant-loop-bases l = record {
  size : length l.rows ≡ l.bases-index;
  fit : (k : ℕ) → k < l.bases-index → AreNumbers l.names (bases_named (name_at l.names k) l.lines) (get_or l.rows k None);
}
