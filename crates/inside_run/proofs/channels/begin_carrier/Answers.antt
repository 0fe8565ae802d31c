use Rattle.std.proofs.Common.{ap, sym, ◌∙◌}
use Rattle.std.specs.Option.{option_copied}
use Rattle.inside_run.specs.Weights.{lines_weight}
use Rattle.inside_run.proofs.Moves.{costs_as}
use Rattle.inside_run.proofs.channels.begin_carrier.Goals as goal

pub returns-clause-costs : goal.returns-clause-costs
returns-clause-costs g c =
    let s = g.S.ModuleSource.setting c.args.scene.now in
    costs_as s c.carry.result _ _ (ap lines_weight (sym (ap option_copied c.in-Some.is) ∙ c.in_ok-lines.ensures)) (c.carry.ensures.costs s)
