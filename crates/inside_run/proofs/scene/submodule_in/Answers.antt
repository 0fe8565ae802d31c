use Rattle.std.proofs.Common.{◌≡◌, Some, sym, ap, ◌∙◌}
use Rattle.inside_keys.specs.Inside.{submodule_names}
use Rattle.inside_parts.specs.Names.{position_of}
use Rattle.inside_run.specs.Scenes.{names_in}
use Rattle.inside_run.proofs.Submodules.{named_at}
use Rattle.inside_run.proofs.scene.submodule_in.Goals as goal

pub returns-in-Some-position : goal.returns-in-Some-position
returns-in-Some-position g c =
    let both : Some c.in-Some.names.now ≡ Some (submodule_names c.args.declared.now) = c.in-Some.ensures ∙ ap names_in c.requires in
    let same : c.in-Some.names.now ≡ submodule_names c.args.declared.now = cc in
    let at : position_of c.args.name.now (submodule_names c.args.declared.now) ≡ Some c.in-Some-position.place = ap (position_of c.args.name.now) (sym same) ∙ sym c.position.ensures ∙ c.in-Some-position.is in
    c.get.ensures.value ∙ sym (named_at c.args.name.now c.args.declared.now.submodules c.in-Some-position.place at)
