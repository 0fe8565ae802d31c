use Rattle.std.proofs.Common.{◌≡◌, ◌++◌, drop}
use Rattle.model_answers.specs.Insides.{seated_size, sized_gates}
use Rattle.model_answers.specs.Reading.{maybe_seat, settings_of}
use Rattle.model_answers.proofs.gates.push_all_seated.Given as goal

abbrev pub invariant-loop-gate : goal.invariant-loop-gate
invariant-loop-gate l =
    l.gates ++ sized_gates (seated_size (settings_of l.from) (maybe_seat l.seat)) (drop l.gate-index l.of_type)
    ≡ l.fn.gates ++ sized_gates (seated_size (settings_of l.from) (maybe_seat l.seat)) l.of_type
