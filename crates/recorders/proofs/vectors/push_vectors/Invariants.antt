use Rattle.std.proofs.Common.{◌≡◌, ◌++◌, drop}
use Rattle.recorders.specs.Vectors.{vectors_among}
use Rattle.recorders.proofs.vectors.push_vectors.Given as goal

abbrev pub invariant-loop-statistic : goal.invariant-loop-statistic
invariant-loop-statistic l =
    l.found ++ vectors_among l.member.model.now l.member.records.now l.member.emissions.now l.member.id (drop l.statistic-index l.statistics)
    ≡ l.fn.found ++ vectors_among l.member.model.now l.member.records.now l.member.emissions.now l.member.id l.statistics
