use Rattle.std.proofs.Common.{◌≡◌, ◌++◌, drop}
use Rattle.param_engine.specs.Tables.{IsKept}
use Rattle.inside_keys.specs.Values.{rules_of}
use Rattle.model_questions.specs.Answers.{with_values}
use Rattle.model_answers.specs.Keyed.{names_in, value_in}
use Rattle.model_answers.specs.Reading.{settings_of}
use Rattle.model_answers.proofs.keyed.push_lines.Given as goal

abbrev pub invariant-loop-line : goal.invariant-loop-line
invariant-loop-line l = record {
  pushed : l.parameters ++ with_values (value_in (settings_of l.from) l.site) (names_in (drop l.line-index l.lines))
      ≡ l.fn.parameters ++ with_values (value_in (settings_of l.from) l.site) (names_in l.lines);
  kept : IsKept (rules_of (settings_of l.from)) l.own.entries;
}
