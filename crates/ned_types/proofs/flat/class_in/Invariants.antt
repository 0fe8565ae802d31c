use Rattle.std.proofs.Common.{◌≡◌, drop}
use Rattle.ned_types.specs.Flat.{class_in}
use Rattle.ned_types.proofs.flat.class_in.Given as goal

abbrev pub invariant-loop-line : goal.invariant-loop-line
invariant-loop-line l = class_in (drop l.line-index l.lines) ≡ class_in l.lines
