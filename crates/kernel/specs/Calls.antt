-- Calls, by what they show of their modules, and by what they are for.
use Rattle.std.specs.Prelude.{ℕ}
use Rattle.module_api.specs.Behaviour.{Behaviour}
use Rattle.module_api.specs.declared.reply.Reply.{Reply}
use Rattle.model_questions.specs.Answers.{Answers}
use Rattle.run_semantics.specs.Calls.{calling}
use Rattle.run_semantics.specs.Perform.{Flow, answered_by, deed}
use Rattle.run_semantics.specs.declared.occasions.Occasion.{Occasion}
use Rattle.module_api.specs.declared.call.Call.{Call}
use Rattle.module_api.specs.declared.call.CallReason.{CallReason}
use Rattle.model_questions.specs.Records.{record_at, index_of}
use Rattle.run_semantics.specs.World.{World}
use Rattle.kernel_call_views.specs.declared.CallView.{CallView}

-- what the module of that id is told, where calls show this of it
abbrev pub call_with : ℕ → CallReason → CallView → World → Call
call_with id prompt shown w = record {
  time = w.clock;
  event = w.count;
  id = id;
  path = shown.path;
  index = index_of (record_at w.records id);
  parameters = shown.parameters;
  gates = shown.gates;
  prompt = prompt;
}

-- WHAT FOLLOWS THE REPLY of a module that is finished: nothing but deeds
abbrev pub answered_last : Answers → Occasion → ℕ → Reply → World → Flow
answered_last m o id = answered_by m (deed id) o id

-- a call with that
abbrev pub called_last : Behaviour → Answers → Occasion → ℕ → CallReason → World → Flow
called_last b m o id prompt w = calling b m (answered_last m o id) id prompt w
