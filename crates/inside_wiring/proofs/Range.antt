-- An index of a gate vector that isn't there.
use Rattle.std.proofs.Common.{◌≡◌, ℕ, ◌≤◌, ℤ, Option, Some, None, Err, nat_lt, if◌then◌else◌, arith, length, refl, ap, ◌∙◌, false}
use Rattle.std.proofs.lemmas.List.{get_or_past}
use Rattle.sim_values.specs.declared.model_fault.ModelFault.TheVariants.{GateSize}
use Rattle.inside_parts.specs.declared.parts.NamedGate.{NamedGate}
use Rattle.inside_wiring.specs.declared.wiring.GateId.{GateId}
use Rattle.inside_wiring.specs.declared.wiring.Role.{Role}
use Rattle.inside_wiring.specs.Ends.{at_natural, at_index, gate_of_vector, unless_taken, natural}
use Rattle.inside_wiring.specs.Wired.{Wired}

past : (w : Wired) (other : Option GateId) (role : Role) (g : NamedGate) (i : Option ℕ) → length w.sizes ≤ g.vector → at_natural w other role g i ≡ Err GateSize
past w other role g None h = refl
past w other role g (Some i) h = ap (λ n. if nat_lt i n then unless_taken w other role (gate_of_vector g i) else Err GateSize) (get_or_past w.sizes g.vector 0 h)
    ∙ (let none : nat_lt i 0 ≡ false = grind arith in ap (λ b. if b then unless_taken w other role (gate_of_vector g i) else Err GateSize) none)

pub past_all : (w : Wired) (other : Option GateId) (role : Role) (g : NamedGate) (z : ℤ) → length w.sizes ≤ g.vector → at_index w other role g z ≡ Err GateSize
past_all w other role g z h = past w other role g (natural z) h
