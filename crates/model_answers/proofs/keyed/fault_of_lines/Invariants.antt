use Rattle.std.proofs.Common.{◌≡◌, drop}
use Rattle.param_engine.specs.Tables.{IsKept}
use Rattle.inside_keys.specs.Values.{rules_of}
use Rattle.model_answers.specs.Keyed.{fault_of_lines}
use Rattle.model_answers.specs.Reading.{settings_of}
use Rattle.model_answers.proofs.keyed.fault_of_lines.Given as goal

abbrev pub invariant-loop-line : goal.invariant-loop-line
invariant-loop-line l = record {
  same : fault_of_lines (settings_of l.from) l.site (drop l.line-index l.lines) ≡ fault_of_lines (settings_of l.from) l.site l.lines;
  kept : IsKept (rules_of (settings_of l.from)) l.own.entries;
}
