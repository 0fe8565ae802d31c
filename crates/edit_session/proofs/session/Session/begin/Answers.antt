use Rattle.std.proofs.Common.{sym, subst}
use Rattle.model_data.specs.declared.model.Model.{Model}
use Rattle.same_entries.specs.Counted.{AreSaid}
use Rattle.edit_session.proofs.Lasting.{model_said}
use Rattle.edit_session.proofs.session.Session.begin.Goals as goal

pub of_text-requires : goal.of_text-requires
of_text-requires g c =
    subst (λ (m : Model). AreSaid m.ini) (sym c.in-Ok.ensures)
    (model_said c.args.texts.now c.args.ini.now c.args.config.now c.in_ok-model.model c.in_ok-model.ensures.accepted)
