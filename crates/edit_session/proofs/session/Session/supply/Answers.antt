use Rattle.std.proofs.Common.{refl, sym, ◌∙◌}
use Rattle.edit_session.specs.Editing.{wanted_of}
use Rattle.edit_session.specs.Sessions.{editing_of}
use Rattle.edit_session.proofs.Boxes.{none_wanted, some_wanted}
use Rattle.edit_session.proofs.session.Session.supply.Goals as goal

pub returns-in-None-clause-err : goal.returns-in-None-clause-err
returns-in-None-clause-err g c = (refl, refl, (λ _. none_wanted (wanted_of g.C.Catalogue.behaviour (editing_of (λ b. (g.dyn-1.0.entry b.vtable).1) c.args.self.now)) (sym c.wanted_id.ensures ∙ c.in-None.is), λ _. refl))

pub place-requires-clause-id : goal.place-requires-clause-id
place-requires-clause-id g c = sym c.wanted_id.ensures ∙ c.in-Some.is

pub returns-in-Ok-clause-ok : goal.returns-in-Ok-clause-ok
returns-in-Ok-clause-ok g c = (some_wanted (wanted_of g.C.Catalogue.behaviour (editing_of (λ b. (g.dyn-1.0.entry b.vtable).1) c.args.self.now)) c.in-Some.id (sym c.wanted_id.ensures ∙ c.in-Some.is), c.in-Ok.ensures.ok)
