use Rattle.std.proofs.Common.{◌≡◌, ◌-◌, ◌++◌, ◌≤◌, length, take}
use Rattle.result_lines.proofs.progress.put_all.Given as goal

abbrev pub invariant-loop-sent : goal.invariant-loop-sent
invariant-loop-sent g l = record {
  within : l.sent ≤ length l.piece;
  bytes : (g.O.Out.taken l.out).bytes ≡ (g.O.Out.taken l.fn.out).bytes ++ take l.sent l.piece;
  failures : (g.O.Out.taken l.out).failures ≡ (g.O.Out.taken l.fn.out).failures;
}

abbrev pub decreases-loop-sent : goal.decreases-loop-sent
decreases-loop-sent g l = length l.piece - l.sent
