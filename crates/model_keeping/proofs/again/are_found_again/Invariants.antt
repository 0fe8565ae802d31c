use Rattle.inside_keys.specs.Values.{rules_of}
use Rattle.model_settings.specs.Standings.{setting_of}
use Rattle.param_engine.specs.Tables.{IsKept}
use Rattle.model_keeping.proofs.again.are_found_again.Given as goal

abbrev pub invariant-loop-place : goal.invariant-loop-place
invariant-loop-place l = IsKept (rules_of (setting_of l.after)) l.since.entries
