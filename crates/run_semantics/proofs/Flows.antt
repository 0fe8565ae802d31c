-- The world of a flow.
use Rattle.std.proofs.Common.{◌≡◌, Bool, true, false, refl, if◌then◌else◌}
use Rattle.run_semantics.specs.declared.outcome.EventFlow.{EventFlow}
use Rattle.run_semantics.specs.declared.outcome.EventFlow.TheVariants.{GoOn, Stop, Break}
use Rattle.run_semantics.specs.World.{World}
use Rattle.run_semantics.specs.Perform.{Flow, On, Stopped, Broken, flow_of}

abbrev pub in_flow : Flow → World
in_flow (On w) = w
in_flow (Stopped w) = w
in_flow (Broken w path f) = w

pub in_flow-of : (turn : EventFlow) (w : World) → in_flow (flow_of turn w) ≡ w
in_flow-of GoOn w = refl
in_flow-of Stop w = refl
in_flow-of (Break path f) w = refl

-- of two ways on, each where the test says so
pub either_way : (Q : World → Type 0) (c : Bool) (f g : Flow) → (c ≡ true → Q (in_flow f)) → (c ≡ false → Q (in_flow g)) → Q (in_flow (if c then f else g))
either_way Q true f g h k = h refl
either_way Q false f g h k = k refl
