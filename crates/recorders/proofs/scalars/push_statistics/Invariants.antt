use Rattle.std.proofs.Common.{◌≡◌, ◌++◌, drop}
use Rattle.recorders.specs.Scalars.{lines_among}
use Rattle.recorders.proofs.scalars.push_statistics.Given as goal

abbrev pub invariant-loop-statistic : goal.invariant-loop-statistic
invariant-loop-statistic l =
    l.found ++ lines_among l.member.model.now l.member.records.now l.member.emissions.now l.member.id (drop l.statistic-index l.statistics)
    ≡ l.fn.found ++ lines_among l.member.model.now l.member.records.now l.member.emissions.now l.member.id l.statistics
