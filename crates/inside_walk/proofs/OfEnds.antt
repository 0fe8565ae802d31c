-- Ends of connections that have taken a gate.
use Rattle.std.proofs.Common.{◌≡◌, ℕ, ◌+◌, ◌≤◌, ℤ, Bool, true, List, length, Option, Some, Result, Ok, Err, if◌then◌else◌, refl, ap, sym, subst, ◌∙◌, arith}
use Rattle.param_following.specs.Asking.{Done}
use Rattle.inside_keys.specs.declared.found.State.{State}
use Rattle.inside_keys.specs.Asked.{KeyAsking, result_then}
use Rattle.inside_keys.specs.Inside.{Rest}
use Rattle.inside_keys.specs.Places.{Scope}
use Rattle.sim_values.specs.declared.model_fault.ModelFault.{ModelFault}
use Rattle.sim_values.specs.declared.model_fault.ModelFault.TheVariants.{NoGate}
use Rattle.inside_parts.specs.declared.fault.InsideError.{InsideError}
use Rattle.ned_trees.specs.declared.connections.Connection.{Connection}
use Rattle.ned_trees.specs.declared.connections.End.{End}
use Rattle.ned_trees.specs.declared.connections.Owner.{Owner}
use Rattle.inside_wiring.specs.declared.ends.Taken.{Taken}
use Rattle.inside_parts.specs.declared.parts.NamedGate.{NamedGate}
use Rattle.inside_wiring.specs.declared.wiring.Role.{Role}
use Rattle.inside_wiring.specs.declared.wiring.GateId.{GateId}
use Rattle.inside_wiring.specs.Ends.{at_single, at_next, at_index, gate_named, fits}
use Rattle.inside_walk.specs.declared.task.Ground.{Ground}
use Rattle.inside_walk.specs.declared.task.Next.{Next}
use Rattle.inside_walk.specs.declared.task.Side.{Side}
use Rattle.inside_walk.specs.declared.task.Side.TheVariants as side
use Rattle.inside_walk.specs.declared.task.Task.{Task}
use Rattle.inside_walk.specs.Tasks.{Leads, continued, scope_of, end_at, role_at, other_at, taken, gate_begun, part_begun}
use Rattle.inside_walk.specs.Weights.{of_end, of_maybe, of_owner, of_position}

module _ (g : Ground) (c : Connection) where
  taken_same : (at : Side) (scope : Scope) (s : State) (rest : Rest) (t : Taken) → taken g c at scope (record { parts = s.parts; wiring = t.wiring; turns = s.turns; written = s.written }) rest t ≡ taken g c at scope s rest t
  taken_same side.Left scope s rest t = refl
  taken_same (side.Right l) scope s rest t = refl

  module _ (at : Side) (ts us : List Task) (s : State) (gate : NamedGate) (t : Taken) (r : Result Next InsideError)
      (h : Leads g r us (taken g c at (scope_of ts) (record { parts = s.parts; wiring = t.wiring; turns = s.turns; written = s.written }) (continued g ts) t)) (other : Option GateId) (role : Role)
      (same_other : other ≡ other_at at c) (same_role : role ≡ role_at at c) where
    led : (found : Result Taken ModelFault) → found ≡ Ok t → Leads g r us (result_then found (taken g c at (scope_of ts) s (continued g ts)))
    led found e = subst (λ y. Leads g r us y) (taken_same at (scope_of ts) s (continued g ts) t ∙ sym (ap (λ (f : Result Taken ModelFault). result_then f (taken g c at (scope_of ts) s (continued g ts))) e)) h

    pub single_leads : at_single s.wiring other role gate ≡ Ok t → Leads g r us (result_then (at_single s.wiring (other_at at c) (role_at at c) gate) (taken g c at (scope_of ts) s (continued g ts)))
    single_leads e = led (at_single s.wiring (other_at at c) (role_at at c) gate)
        (sym (ap (λ o. at_single s.wiring o (role_at at c) gate) same_other) ∙ sym (ap (λ l. at_single s.wiring other l gate) same_role) ∙ e)

    pub next_leads : at_next s.wiring other role gate ≡ Ok t → Leads g r us (result_then (at_next s.wiring (other_at at c) (role_at at c) gate) (taken g c at (scope_of ts) s (continued g ts)))
    next_leads e = led (at_next s.wiring (other_at at c) (role_at at c) gate)
        (sym (ap (λ o. at_next s.wiring o (role_at at c) gate) same_other) ∙ sym (ap (λ l. at_next s.wiring other l gate) same_role) ∙ e)

    pub index_leads : (i z : ℤ) → i ≡ z → at_index s.wiring other role gate i ≡ Ok t
        → Leads g r us (result_then (at_index s.wiring (other_at at c) (role_at at c) gate z) (taken g c at (scope_of ts) s (continued g ts)))
    index_leads i z same e = led (at_index s.wiring (other_at at c) (role_at at c) gate z)
        (sym (ap (λ o. at_index s.wiring o (role_at at c) gate z) same_other) ∙ sym (ap (λ l. at_index s.wiring other l gate z) same_role) ∙ sym (ap (λ k. at_index s.wiring other role gate k) same) ∙ e)

  -- the gate of that part is there, and has the role
  pub part_leads : (at : Side) (ts us : List Task) (s : State) (part n : ℕ) (e : End) (role : Role) (gate : NamedGate) (b : Bool) (r : Result Next InsideError) → e ≡ end_at at c → role ≡ role_at at c → n ≡ length s.wiring.sizes
      → gate_named g.gates.now s.parts n part e.gate.name ≡ Ok gate → b ≡ fits gate.is_own gate.kind.direction e.gate.half role → b ≡ true
      → Leads g r us (gate_begun g c at (scope_of ts) s (continued g ts) gate) → Leads g r us (part_begun g c at (scope_of ts) s (continued g ts) part)
  part_leads at ts us s part n e role gate b r same_end same_role same_count found is_fit fit h =
      subst (λ y. Leads g r us y)
      (sym (
      ap (λ (f : Result NamedGate ModelFault). result_then f next)
      (sym (ap (λ k. gate_named g.gates.now s.parts k part (end_at at c).gate.name) same_count) ∙ sym (ap (λ (d : End). gate_named g.gates.now s.parts n part d.gate.name) same_end) ∙ found)
      ∙ ap (λ x. if x then gate_begun g c at (scope_of ts) s (continued g ts) gate else Done (Err NoGate))
      (sym (ap (λ l. fits gate.is_own gate.kind.direction (end_at at c).gate.half l) same_role) ∙ sym (ap (λ (d : End). fits gate.is_own gate.kind.direction d.gate.half role) same_end) ∙ sym is_fit ∙ fit)
      ))
      h
    where
      next : NamedGate → KeyAsking
      next f = if fits f.is_own f.kind.direction (end_at at c).gate.half (role_at at c) then gate_begun g c at (scope_of ts) s (continued g ts) f else Done (Err NoGate)

-- ---- weights

pub less_with_position : (p r : ℕ) → r ≤ p + r + 2
less_with_position p r = omega arith

pub less_with_name : (m p r : ℕ) → p + r + 2 ≤ m + p + r + 4
less_with_name m p r = omega arith

pub less_without_name : (e : End) (r : ℕ) → of_position e.gate.index + r + 2 ≤ of_end e + r
less_without_name e r = omega arith

pub less_named : (e : End) (m : Owner) (r : ℕ) → e.owner ≡ Some m → of_maybe m.index + of_position e.gate.index + r + 4 ≤ of_end e + r
less_named e m r h = let same : of_owner e.owner ≡ of_maybe m.index = ap of_owner h in omega (arith, same)
