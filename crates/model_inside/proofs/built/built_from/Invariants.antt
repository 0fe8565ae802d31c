use Rattle.std.proofs.Common.{◌≡◌, ◌++◌, map, drop}
use Rattle.model_inside.specs.Built.{built_part}
use Rattle.model_inside.proofs.built.built_from.Given as goal

abbrev pub invariant-loop-part : goal.invariant-loop-part
invariant-loop-part l = l.built ++ map (built_part l.types l.lines) (drop l.part-index l.parts) ≡ map (built_part l.types l.lines) l.parts
