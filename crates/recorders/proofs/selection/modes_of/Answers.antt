use Rattle.std.proofs.Common.{ap, ◌∙◌, List}
use Rattle.std.specs.Prelude.{codes}
use Rattle.std.specs.Option.{option_copied}
use Rattle.model_data.specs.Models.{entries_in}
use Rattle.ned_trees.specs.declared.declarations.RecordedMode.{RecordedMode}
use Rattle.recorders.specs.Selection.{recorded_modes, option_of}
use Rattle.recorders.proofs.selection.modes_of.Goals as goal

pub returns : goal.returns
returns c =
    c.in_ok-found.ensures
    ∙ ap (λ (ms : List RecordedMode). recorded_modes ms (option_copied c.in_ok-said.said)) c.as_slice.ensures
    ∙ ap (recorded_modes c.args.statistic.now.modes) (c.in_ok-said.ensures ∙ ap (λ n. option_of (entries_in c.args.model.now) c.args.path.now n (codes "result-recording-modes")) c.as_bytes-name.ensures)
