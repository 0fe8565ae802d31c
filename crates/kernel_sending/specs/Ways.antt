-- Where chains of hops lead, in code.
use Rattle.std.specs.Prelude.{List}
use Rattle.run_semantics.specs.declared.routes.PassedHop.{PassedHop}
use Rattle.run_semantics.specs.declared.routes.PlacedGate.{PlacedGate}
use Rattle.run_semantics.specs.Perform.{Flow, flow_of}
use Rattle.run_semantics.specs.World.{World}
use Rattle.kernel_sending.specs.declared.sending.Way.{Way}
use Rattle.kernel_sending.specs.declared.sending.Way.TheVariants.{Reached, Ended}

-- what is done where a chain leads
abbrev pub after_chain : (List PassedHop → PlacedGate → World → Flow) → Way → World → Flow
after_chain reached (Reached hops end) w = reached hops end w
after_chain reached (Ended turn) w = flow_of turn w
