-- How long payloads are, and how many injections there are.
use Rattle.std.specs.Prelude.{ℕ, ◌≤◌, List, length}
use Rattle.event_set.specs.Order.{Each}
use Rattle.event_set.specs.declared.pending.Pending.{Pending}
use Rattle.model_injections.specs.declared.injection.Injection.{Injection}
use Rattle.model_edits.specs.Edited.{most_injections, most_payload}
use Rattle.run_semantics.specs.Event.{message_of}

-- a payload has at most 4,096 bytes
abbrev pub IsShort : List ℕ → Type 0
IsShort payload = length payload ≤ most_payload

abbrev pub AreShort : List Injection → Type 0
AreShort is = Each (λ (i : Injection). IsShort i.payload) is

-- so has the message of each of these events
abbrev pub BringShort : List Pending → Type 0
BringShort ps = Each (λ (p : Pending). IsShort (message_of p).payload) ps

-- there are at most 10,000, each with such a payload
pub record AreBounded (is : List Injection) : Type 0 where
  pub few : length is ≤ most_injections
  pub short : AreShort is
