use Rattle.std.proofs.Common.{◌≡◌, drop}
use Rattle.std.specs.Option.{option_copied, option_or}
use Rattle.run_semantics.specs.Routes.{change_of}
use Rattle.run_semantics.proofs.routes.change_of.Given as goal

abbrev pub invariant-loop-change : goal.invariant-loop-change
invariant-loop-change l = option_or (change_of l.gate (drop l.change-index l.changes)) (option_copied l.last) ≡ change_of l.gate l.changes
