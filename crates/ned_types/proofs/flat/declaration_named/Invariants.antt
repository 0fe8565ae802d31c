use Rattle.std.proofs.Common.{◌≡◌, drop}
use Rattle.ned_types.specs.Flat.{declaration_named}
use Rattle.ned_types.proofs.flat.declaration_named.Given as goal

abbrev pub invariant-loop-line : goal.invariant-loop-line
invariant-loop-line l = declaration_named l.name (drop l.line-index l.lines) ≡ declaration_named l.name l.lines
