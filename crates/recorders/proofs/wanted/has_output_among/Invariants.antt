use Rattle.std.proofs.Common.{◌≡◌, drop}
use Rattle.model_data.specs.Models.{entries_in}
use Rattle.recorders.specs.Wanted.{has_output_among}
use Rattle.recorders.proofs.wanted.has_output_among.Given as goal

abbrev pub invariant-loop-statistic : goal.invariant-loop-statistic
invariant-loop-statistic l =
    has_output_among l.output (entries_in l.model) l.path (drop l.statistic-index l.statistics)
    ≡ has_output_among l.output (entries_in l.model) l.path l.statistics
