-- Two gates are joined, with what is asked for first.
use Rattle.std.proofs.Common.{◌≡◌, ◌∙◌, List, Option, Some, Result, Bor, ap, sym, subst}
use Rattle.std.specs.Option.{option_copied}
use Rattle.inside_keys.specs.Inside as inside
use Rattle.inside_keys.specs.Inside.{Rest}
use Rattle.inside_keys.specs.Places.{Scope}
use Rattle.inside_keys.specs.declared.found.State.{State}
use Rattle.inside_parts.specs.declared.fault.InsideError.{InsideError}
use Rattle.inside_wiring.specs.declared.wiring.Carrier.{Carrier}
use Rattle.inside_wiring.specs.declared.wiring.GateId.{GateId}
use Rattle.ned_trees.specs.declared.connections.Arrow.{Arrow}
use Rattle.ned_trees.specs.declared.connections.Arrow.TheVariants.{Both}
use Rattle.ned_trees.specs.declared.connections.Channel.{Channel}
use Rattle.ned_trees.specs.declared.connections.Connection.{Connection}
use Rattle.inside_walk.specs.declared.task.Carry.TheVariants as carry
use Rattle.inside_walk.specs.declared.task.Ground.{Ground}
use Rattle.inside_walk.specs.declared.task.Next.{Next}
use Rattle.inside_walk.specs.declared.task.Task.{Task}
use Rattle.inside_walk.specs.Tasks.{Leads, carried, joined}

module _ (g : Ground) (r : Result Next InsideError) (us : List Task) (left right : GateId) (scope : Scope) (s : State) (rest : Rest) where
  -- what carries messages back is asked for
  pub both_lead : (way : Arrow) (k : Carrier) → way ≡ Both
      → Leads g r us (inside.carried_from g.site g.submodules.now g.gates.now g.is_whole right scope s (λ c. carried g (carry.Back Both left right k) c scope s rest))
      → Leads g r us (inside.back_then g.site g.submodules.now g.gates.now g.is_whole way left right scope s rest k)
  both_lead way k e h = subst (λ w. Leads g r us (inside.back_then g.site g.submodules.now g.gates.now g.is_whole w left right scope s rest k)) (sym e) h

  -- what carries messages onwards is asked for
  pub onwards_lead : (c : Connection) (id : GateId) (found : Option (Bor Channel)) (channel : Bor Channel)
      → option_copied found ≡ inside.channel_of g.is_whole c → found ≡ Some channel → id ≡ inside.source_of c.arrow left right
      → Leads g r us (inside.carried_from g.site g.submodules.now g.gates.now g.is_whole id scope s (λ k. carried g (carry.Onwards c.arrow left right) k scope s rest))
      → Leads g r us (joined g c left right scope s rest)
  onwards_lead c id found channel e is f h =
      subst (λ o. Leads g r us (inside.joined_by g.site g.submodules.now g.gates.now g.is_whole o c.arrow left right scope s rest)) (sym (ap option_copied is) ∙ e)
      (subst (λ i. Leads g r us (inside.carried_from g.site g.submodules.now g.gates.now g.is_whole i scope s (λ k. carried g (carry.Onwards c.arrow left right) k scope s rest))) f h)
