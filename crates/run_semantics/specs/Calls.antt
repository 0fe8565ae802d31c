-- Calls of modules.
use Rattle.std.specs.Prelude.{ℕ, ◌==◌, List, [], ◌∷◌, Option, Some, None, if◌then◌else◌}
use Rattle.module_api.specs.declared.call.Call.{Call}
use Rattle.module_api.specs.declared.call.CallReason.{CallReason}
use Rattle.module_api.specs.declared.reply.Reply.{Reply}
use Rattle.module_api.specs.Behaviour.{Behaviour, Replied}
use Rattle.model_questions.specs.Answers.{Answers, gates_of, parameters_of}
use Rattle.model_questions.specs.Records.{path_of, record_at, index_of}
use Rattle.run_semantics.specs.declared.traces.Instance.{Instance}
use Rattle.run_semantics.specs.Deeds.{Flow, On}
use Rattle.run_semantics.specs.World.{World}

-- what a module is told
abbrev pub call_of : Answers → ℕ → CallReason → World → Call
call_of m id prompt w = record {
  time = w.clock;
  event = w.count;
  id = id;
  path = path_of w.records id;
  index = index_of (record_at w.records id);
  parameters = parameters_of m w.records id;
  gates = gates_of m w.records id;
  prompt = prompt;
}

-- the module of that id, where it stands
abbrev pub instance_in : ℕ → List Instance → Option Instance
instance_in id [] = None
instance_in id (i ∷ is) = if i.id == id then Some i else instance_in id is

-- the module of that id has a new state
abbrev pub with_state : ℕ → List ℕ → List Instance → List Instance
with_state id state [] = []
with_state id state (i ∷ is) = if i.id == id then record i { state = state } ∷ is
    else i ∷ with_state id state is

abbrev pub changed : ℕ → List ℕ → World → World
changed id state w = record w { modules = with_state id state w.modules }

-- what a reply leads to is done where the module has its new state
abbrev pub replied : (Reply → World → Flow) → ℕ → Replied → World → Flow
replied follow id r w = follow r.reply (changed id r.state w)

abbrev pub called : Behaviour → Answers → (Reply → World → Flow) → ℕ → CallReason → World
    → Option Instance → Flow
called b m follow id prompt w None = On w
called b m follow id prompt w (Some i) =
    replied follow id ((b.naming i.kind).reply i.state (call_of m id prompt w)) w

-- a call of the module of that id, and what follows its reply; a call of what isn't there is passed
-- over
abbrev pub calling : Behaviour → Answers → (Reply → World → Flow) → ℕ → CallReason → World → Flow
calling b m follow id prompt w = called b m follow id prompt w (instance_in id w.modules)
