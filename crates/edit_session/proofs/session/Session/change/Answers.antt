use Rattle.std.proofs.Common.{sym, subst}
use Rattle.model_data.specs.declared.model.Model.{Model}
use Rattle.model_agreement.specs.Models.{RestOnSame}
use Rattle.model_edits.specs.Edited.{IsEditOf}
use Rattle.edit_session.specs.Sessions.{editing_of}
use Rattle.edit_session.proofs.Changes.{changed_by}
use Rattle.edit_session.proofs.Lasting.{touches}
use Rattle.edit_session.specs.Lasting.{IsTouched}
use Rattle.edit_session.specs.declared.values.Touched.{Touched}
use Rattle.edit_session.proofs.session.Session.change.Goals as goal

pub change_to-requires-clause-touched : goal.change_to-requires-clause-touched
change_to-requires-clause-touched g c =
    let is = subst (λ (m : Model). IsEditOf m c.args.edit c.in_ok-model.model) c.model.ensures c.in_ok-model.ensures.accepted in
    subst (λ (t : Touched). IsTouched t c.args.self.now.model c.in_ok-model.model) (sym c.touched_by-touched.ensures) (touches c.args.self.now.model c.in_ok-model.model c.args.edit is)

pub returns-in-Ok-clause-changed : goal.returns-in-Ok-clause-changed
returns-in-Ok-clause-changed g c = record {
  by = changed_by g.C.Catalogue.behaviour (editing_of (λ b. (g.dyn-1.0.entry b.vtable).1) c.args.self.now) c.args.edit c.model.result.now c.in_ok-model.model c.number_given-given.result c.in-Ok.change
      c.model.ensures c.in_ok-model.ensures.accepted c.in_ok-model.ensures.only c.in-Ok.ensures.model c.number_given-given.ensures c.in-Ok.ensures.injection c.in-Ok.ensures.valid;
  known = c.in-Ok.ensures.known;
  good = c.in-Ok.ensures.good;
  same = λ e. subst (λ (m : Model). RestOnSame c.args.self.now.model m) (sym c.in-Ok.ensures.model) (c.in-Ok.ensures.same e);
}
