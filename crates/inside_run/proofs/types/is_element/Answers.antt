use Rattle.std.proofs.Common.{ap, ◌∙◌}
use Rattle.inside_keys.specs.Settings.{Whereabouts}
use Rattle.inside_keys.specs.Values.{is_among}
use Rattle.inside_run.proofs.types.is_element.Goals as goal

pub returns : goal.returns
returns g c =
    let s = g.S.ModuleSource.setting c.args.scene.now in
    c.is_among.ensures s ∙ ap (λ (w : Whereabouts). is_among s c.args.count w.index) c.in_ok-stands.ensures
