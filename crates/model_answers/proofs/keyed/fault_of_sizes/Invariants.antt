use Rattle.std.proofs.Common.{◌≡◌, drop}
use Rattle.param_engine.specs.Tables.{IsKept}
use Rattle.inside_keys.specs.Values.{rules_of}
use Rattle.model_answers.specs.Keyed.{fault_of_sizes}
use Rattle.model_answers.specs.Reading.{settings_of}
use Rattle.model_answers.proofs.keyed.fault_of_sizes.Given as goal

abbrev pub invariant-loop-gate : goal.invariant-loop-gate
invariant-loop-gate l = record {
  same : fault_of_sizes (settings_of l.from) l.site (drop l.gate-index l.gates) ≡ fault_of_sizes (settings_of l.from) l.site l.gates;
  kept : IsKept (rules_of (settings_of l.from)) l.own.entries;
}
