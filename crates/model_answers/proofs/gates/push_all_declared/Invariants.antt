use Rattle.std.proofs.Common.{◌≡◌, ◌++◌, drop}
use Rattle.param_engine.specs.Tables.{IsKept}
use Rattle.inside_keys.specs.Values.{rules_of}
use Rattle.model_answers.specs.Insides.{declared_size, sized_gates}
use Rattle.model_answers.specs.Reading.{settings_of}
use Rattle.model_answers.proofs.gates.push_all_declared.Given as goal

abbrev pub invariant-loop-gate : goal.invariant-loop-gate
invariant-loop-gate l = record {
  pushed : l.gates ++ sized_gates (declared_size (settings_of l.from) l.site) (drop l.gate-index l.of_type)
      ≡ l.fn.gates ++ sized_gates (declared_size (settings_of l.from) l.site) l.of_type;
  kept : IsKept (rules_of (settings_of l.from)) l.own.entries;
}
