-- Why a session ends early.
use Rattle.std.proofs.Common.{◌≡◌, ◌⊎◌, ◌&&◌, Bool, true, false, inl, inr, refl, sym, subst, Option, Some, None, Result, Ok, Err, IfOk, IfErr, OnOk, IsErrAnd, IsSomeAnd}
use Rattle.input_lines.specs.Waits.{Waiting}
use Rattle.model_data.specs.declared.model.Model.{Model}
use Rattle.model_reading.specs.declared.begin.BeginFault.{BeginFault}
use Rattle.desk_client.specs.Stops.{at_stop}
use Rattle.desk_client.specs.declared.clients.ServeEnd.{ServeEnd as Why}
use Rattle.desk_client.specs.declared.clients.ServeEnd.TheVariants as why
use Rattle.nedrun_exit.specs.declared.stops.ExitReason.{ExitReason}
use Rattle.nedrun_exit.specs.declared.stops.ExitReason.TheVariants as stop
use Rattle.nedrun_client.specs.Stops.{IsLost, IsReason}
use Rattle.nedrun_client.proofs.Reasons.{for_reason, reason_lost}
use Rattle.nedrun.specs.Stops.{IsStopOf, end_of}

stuck_at : (o : Option ExitReason) (waiting : Waiting) (Q : ExitReason → Type 0) (result : Result Unit ExitReason) → IsSomeAnd o (IsReason waiting)
    → ((s : ExitReason) → o ≡ Some s → result ≡ Err s) → ((s : ExitReason) → IsReason waiting s → Q s) → IfErr result Q
stuck_at None waiting Q result h is to = absurd h
stuck_at (Some s) waiting Q result h is to = subst (λ (r : Result Unit ExitReason). IfErr r Q) (sym (is s refl)) (to s h)

-- at its end a session ends early only for a fault that is told
at_end : (strict fault : Bool) (Q : ExitReason → Type 0) → (strict ≡ true → Q stop.Fault) → IfErr (end_of (strict && fault)) Q
at_end true true Q told = told refl
at_end true false Q told = tt
at_end false fault Q told = tt

-- a session ends early for a refusal, because the user can't go on, or for a fault
pub session_ends : {K : Type 0} (served : Result (K × Why) BeginFault) (result : Result Unit ExitReason)
    (stop_of : K → Option ExitReason) (waiting_of : K → Waiting) (Over : K → Type 0) (R : BeginFault → Type 0) (strict : Bool) (fault_of : K → Bool)
    → IfOk served (λ r. at_stop (Over r.0) (IsSomeAnd (stop_of r.0) (IsReason (waiting_of r.0))) (λ _ _. IsSomeAnd (stop_of r.0) IsLost) r.1)
    → IfErr served R
    → IfOk served (λ r. r.1 ≡ why.End → result ≡ end_of (strict && fault_of r.0))
    → IfOk served (λ r. (r.1 ≡ why.End → ⊥) → (s : ExitReason) → stop_of r.0 ≡ Some s → result ≡ Err s)
    → IfErr served (λ fault. IsErrAnd result (IsStopOf fault))
    → IfErr result (λ s. ((fault : BeginFault) × R fault × IsStopOf fault s) ⊎ (((waiting : Waiting) × IsReason waiting s) ⊎ ((strict ≡ true) × (s ≡ stop.Fault))))
session_ends (Err fault) (Ok _) stop_of waiting_of Over R strict fault_of stopped refused over stuck told = tt
session_ends (Err fault) (Err s) stop_of waiting_of Over R strict fault_of stopped refused over stuck told = inl (fault, refused, told)
session_ends (Ok (k, why.End)) result stop_of waiting_of Over R strict fault_of stopped refused over stuck told =
    subst (λ (r : Result Unit ExitReason). IfErr r (λ s. ((fault : BeginFault) × R fault × IsStopOf fault s) ⊎ (((waiting : Waiting) × IsReason waiting s) ⊎ ((strict ≡ true) × (s ≡ stop.Fault)))))
    (sym (over refl)) (at_end strict (fault_of k) (λ s. ((fault : BeginFault) × R fault × IsStopOf fault s) ⊎ (((waiting : Waiting) × IsReason waiting s) ⊎ ((strict ≡ true) × (s ≡ stop.Fault)))) (λ e. inr (inr (e, refl))))
session_ends (Ok (k, why.Gone)) result stop_of waiting_of Over R strict fault_of stopped refused over stuck told =
    stuck_at (stop_of k) (waiting_of k) (λ s. ((fault : BeginFault) × R fault × IsStopOf fault s) ⊎ (((waiting : Waiting) × IsReason waiting s) ⊎ ((strict ≡ true) × (s ≡ stop.Fault)))) result stopped
    (stuck (λ e. cc)) (λ s h. inr (inl (waiting_of k, h)))
session_ends (Ok (k, why.Device page written)) result stop_of waiting_of Over R strict fault_of stopped refused over stuck told =
    stuck_at (stop_of k) (waiting_of k) (λ s. ((fault : BeginFault) × R fault × IsStopOf fault s) ⊎ (((waiting : Waiting) × IsReason waiting s) ⊎ ((strict ≡ true) × (s ≡ stop.Fault)))) result
    (for_reason IsLost (IsReason (waiting_of k)) (stop_of k) (reason_lost (waiting_of k)) stopped)
    (stuck (λ e. cc)) (λ s h. inr (inl (waiting_of k, h)))

-- a session that does not end early was served
pub session_served : {K : Type 0} (served : Result (K × Why) BeginFault) (result : Result Unit ExitReason) (M : Model → Type 0) (Q : Model → K × Why → Type 0)
    → IfOk served (λ r. (model : Model) × M model × Q model r)
    → IfErr served (λ fault. IsErrAnd result (IsStopOf fault))
    → OnOk result ((model : Model) × M model)
session_served (Ok r) (Ok _) M Q of told = (of.0, of.1)
session_served (Ok r) (Err _) M Q of told = tt
session_served (Err fault) (Ok _) M Q of told = absurd told
session_served (Err fault) (Err _) M Q of told = tt
