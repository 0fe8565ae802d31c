use Rattle.std.proofs.Common.{ap, ◌∙◌, ◌++◌, List}
use Rattle.std.proofs.lemmas.Result.{on_ok_weaker}
use Rattle.recorders.specs.declared.scalar_line.ScalarLine.{ScalarLine}
use Rattle.recorders.proofs.Reading.{statistic_by_places}
use Rattle.recorders.proofs.scalars.push_statistic.Goals as goal

pub returns : goal.returns
returns c =
    on_ok_weaker c.push_modes.result
    (λ h.
    h
    ∙ ap (λ (lines : List ScalarLine). c.args.found.now ++ lines)
    (statistic_by_places c.args.member.now.model.now c.args.member.now.records.now c.args.member.now.emissions.now c.args.member.now.id c.args.statistic.now c.in_ok-vector.vector
    c.as_bytes-path.result.now c.as_bytes.result.now c.args.member.now.heard.now c.as_slice.result.now c.as_slice-2.result.now
    c.in_ok-vector.ensures c.as_bytes-path.ensures c.as_bytes.ensures c.requires
    (c.as_slice.ensures.value ∙ c.in_ok-values.ensures)
    (c.as_slice-2.ensures ∙ c.in_ok-modes.ensures)))
    c.push_modes.ensures
