use Rattle.std.proofs.Common.{◌≡◌, ◌&&◌, drop}
use Rattle.std.specs.List.{list_any}
use Rattle.run_semantics.specs.declared.routes.GateChange.{GateChange}
use Rattle.run_semantics.specs.Routes.{change_of, is_joined, joins, leads_to}
use Rattle.run_semantics.specs.World.{is_live}
use Rattle.kernel_actions.proofs.gates.is_joined.Given as goal

abbrev pub invariant-loop-change : goal.invariant-loop-change
invariant-loop-change l = list_any (λ (c : GateChange). leads_to l.gate c.to && (is_live l.core c.gate.id && joins l.gate (change_of c.gate l.core.changes))) (drop l.change-index l.changes) ≡ is_joined l.gate l.core
