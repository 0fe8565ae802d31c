-- What follows a reply, by what the core and the kernel do one after the other.
use Rattle.std.proofs.Common.{◌≡◌, ℕ, List, Option, Some, None, refl, sym, ap, ◌∙◌}
use Rattle.module_api.specs.declared.reply.Action.{Action}
use Rattle.module_api.specs.declared.reply.Read.{Read}
use Rattle.module_api.specs.declared.reply.Reply.{Reply}
use Rattle.model_questions.specs.Answers.{Answers}
use Rattle.run_semantics.specs.declared.occasions.Occasion.{Occasion}
use Rattle.run_semantics.specs.declared.outcome.RunFault.{RunFault}
use Rattle.run_semantics.specs.declared.outcome.EventFlow.{EventFlow}
use Rattle.run_semantics.specs.declared.traces.Instance.{Instance}
use Rattle.run_semantics.specs.World.{World}
use Rattle.run_semantics.specs.Perform.{Flow, acted, answered_by, ask_noted, broken, flow_of, read_fault, unless_fault}
use Rattle.kernel.proofs.Apart.{with_modules, broken_is, ask_noted_apart}

-- the questions of a core's reads are those of the world with these modules
noted_with : (ms : List Instance) (o : Occasion) (id : ℕ) (reads : List Read) (core core' : World) → core' ≡ ask_noted o id reads core → with_modules ms core' ≡ ask_noted o id reads (with_modules ms core)
noted_with ms o id reads core core' e = ap (with_modules ms) e ∙ sym (ask_noted_apart ms o id reads core)

-- a read has this fault, or none
told_by : (m : Answers) (does : Action → World → Flow) (o : Occasion) (id : ℕ) (reply : Reply) (w : World) (found told : Option RunFault) → told ≡ read_fault m w.records id reply.reads → told ≡ found
    → unless_fault id found (acted does o id reply.actions) (ask_noted o id reply.reads w) ≡ answered_by m does o id reply w
told_by m does o id reply w found told is e = ap (λ f. unless_fault id f (acted does o id reply.actions) (ask_noted o id reply.reads w)) (sym e ∙ is)

-- a read has a fault
pub follow_broken : (m : Answers) (does : Action → World → Flow) (o : Occasion) (ms : List Instance) (id : ℕ) (reply : Reply) (core core' : World) (told : Option RunFault) (f : RunFault) (turn : EventFlow) (reads : List Read) → reads ≡ reply.reads → told ≡ read_fault m core.records id reads → told ≡ Some f
    → core' ≡ ask_noted o id reads core → flow_of turn core' ≡ broken id f core' → flow_of turn (with_modules ms core') ≡ answered_by m does o id reply (with_modules ms core)
follow_broken m does o ms id reply core core' told f turn reads same is e noted step =
    broken_is ms id f core' core' turn refl step
    ∙ ap (broken id f) (noted_with ms o id reply.reads core core' (noted ∙ ap (λ rs. ask_noted o id rs core) same))
    ∙ told_by m does o id reply (with_modules ms core) (Some f) told (is ∙ ap (read_fault m core.records id) same) e

-- no read has a fault
pub follow_on : (m : Answers) (does : Action → World → Flow) (o : Occasion) (ms : List Instance) (id : ℕ) (reply : Reply) (core core' left : World) (told : Option RunFault) (turn : EventFlow) (reads : List Read) (actions : List Action) → reads ≡ reply.reads → actions ≡ reply.actions
    → told ≡ read_fault m core.records id reads → told ≡ None → core' ≡ ask_noted o id reads core → flow_of turn left ≡ acted does o id actions (with_modules ms core') → flow_of turn left ≡ answered_by m does o id reply (with_modules ms core)
follow_on m does o ms id reply core core' left told turn reads actions same done is e noted step =
    step
    ∙ ap (λ xs. acted does o id xs (with_modules ms core')) done
    ∙ ap (acted does o id reply.actions) (noted_with ms o id reply.reads core core' (noted ∙ ap (λ rs. ask_noted o id rs core) same))
    ∙ told_by m does o id reply (with_modules ms core) None told (is ∙ ap (read_fault m core.records id) same) e

-- ---- the same of a core alone

pub last_broken : (m : Answers) (does : Action → World → Flow) (o : Occasion) (id : ℕ) (reply : Reply) (core core' : World) (told : Option RunFault) (f : RunFault) (turn : EventFlow) (reads : List Read) → reads ≡ reply.reads → told ≡ read_fault m core.records id reads → told ≡ Some f
    → core' ≡ ask_noted o id reads core → flow_of turn core' ≡ broken id f core' → flow_of turn core' ≡ answered_by m does o id reply core
last_broken m does o id reply core core' told f turn reads same is e noted step =
    step
    ∙ ap (broken id f) (noted ∙ ap (λ rs. ask_noted o id rs core) same)
    ∙ told_by m does o id reply core (Some f) told (is ∙ ap (read_fault m core.records id) same) e

pub last_on : (m : Answers) (does : Action → World → Flow) (o : Occasion) (id : ℕ) (reply : Reply) (core core' left : World) (told : Option RunFault) (turn : EventFlow) (reads : List Read) (actions : List Action) → reads ≡ reply.reads → actions ≡ reply.actions
    → told ≡ read_fault m core.records id reads → told ≡ None → core' ≡ ask_noted o id reads core → flow_of turn left ≡ acted does o id actions core' → flow_of turn left ≡ answered_by m does o id reply core
last_on m does o id reply core core' left told turn reads actions same done is e noted step =
    step
    ∙ ap (λ xs. acted does o id xs core') done
    ∙ ap (acted does o id reply.actions) (noted ∙ ap (λ rs. ask_noted o id rs core) same)
    ∙ told_by m does o id reply core None told (is ∙ ap (read_fault m core.records id) same) e
