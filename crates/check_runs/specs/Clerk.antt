-- Modules that record scalars, as examples. A Clerk records one as it begins, emits the greatest
-- value twice and sets a timer; it records a second scalar for a message, and a third at the end of
-- the run. So its scalars say how often each of its methods was called. The name that a Scribe
-- records has a blank in it, which is none of a scalar.
use Rattle.std.specs.Prelude.{ℕ, ℤ, pos, neg_ℤ, Bool, true, false, ◌||◌, List, [], ◌∷◌, IsTrue}
use Rattle.std.specs.Prelude.{codes, refl, if◌then◌else◌}
use Rattle.std.specs.Str.{bytes_eq}
use Rattle.module_api.specs.declared.call.CallReason.{CallReason}
use Rattle.module_api.specs.declared.call.CallReason.TheVariants as prompt
use Rattle.module_api.specs.declared.reply.Action.{Action}
use Rattle.module_api.specs.declared.reply.Action.TheVariants.{Emit, RecordScalar}
use Rattle.module_api.specs.Behaviour.{Naming, Behaviour}
use Rattle.module_api.specs.Laws.{law_of_reads, KeepsStates, IsLawful}
use Rattle.module_api.specs.Meaning.{Module}
use Rattle.module_parts.specs.Replies.{timer_set}

abbrev pub clerk_actions : CallReason → List Action
clerk_actions (prompt.Initialize stage) =
    RecordScalar (codes "opened") (neg_ℤ (pos 3)) ∷ Emit (codes "noted") (pos 9223372036854775807)
    ∷ Emit (codes "noted") (pos 9223372036854775807)
    ∷ timer_set 0 (pos 0) ∷ []
clerk_actions (prompt.Message message) = RecordScalar (codes "heard") (pos 1) ∷ []
clerk_actions prompt.Finish = RecordScalar (codes "x") (pos 7) ∷ []

abbrev pub scribe_actions : CallReason → List Action
scribe_actions (prompt.Initialize stage) = RecordScalar (codes "a b") (pos 1) ∷ []
scribe_actions (prompt.Message message) = []
scribe_actions prompt.Finish = []

-- what a Clerk does that records one scalar, and a Scribe
abbrev pub only : Bool → List ℕ → ℤ → List Action
only true name value = RecordScalar name value ∷ []
only false name value = []

-- one stage, no state, and these actions for what it is called for
abbrev pub acting : (CallReason → List Action) → Naming
acting actions = record {
  stages = 1;
  is_state = λ state. bytes_eq state [];
  initial = [];
  reply = λ state call. record {
    reply = record { reads = []; actions = actions call.prompt };
    state = state;
  };
}

abbrev pub kind_of : Bool → List ℕ
kind_of true = codes "Clerk"
kind_of false = codes "Scribe"

abbrev pub actions_of : Bool → CallReason → List Action
actions_of true = clerk_actions
actions_of false = scribe_actions

-- a Clerk, or a Scribe
abbrev pub office_module : Bool → Module
office_module is_clerk =
    record { kind = kind_of is_clerk; naming = acting (actions_of is_clerk); state = [] }

-- the catalogue that knows these two, and its laws
unfoldable pub office : Behaviour
office = record {
  known = λ kind. bytes_eq kind (codes "Clerk") || bytes_eq kind (codes "Scribe");
  naming = λ kind. acting (actions_of (bytes_eq kind (codes "Clerk")));
}

pub office_lawful : IsLawful office
unfolding office
office_lawful = record {
  reads = λ kind state call ps gs h. refl;
  states = λ kind known. record { starts = refl; goes_on = λ state call h. h };
}
