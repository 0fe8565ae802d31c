use Rattle.model_answers.specs.Answering.{answers_of}
use Rattle.kernel.specs.Kernels.{world_in}
use Rattle.edit_session.proofs.Edited.{good_of}
use Rattle.edit_session.proofs.Valid.{valid_of, known_of}
use Rattle.edit_session.proofs.session.Session.valid_to.Goals as goal

pub returns-clause-valid : goal.returns-clause-valid
returns-clause-valid g c =
    valid_of g.C.Catalogue.behaviour g.C.Catalogue.lawful (answers_of c.args.self.now.model) (answers_of c.args.model.now) (world_in (λ b. (g.dyn-1.0.entry b.vtable).1) c.args.self.now.runner.kernel)
    c.args.self.now.known c.in-Some.last c.agreement.result c.in-Some.is c.requires.sound.kept.asked (rw (c.evaluated.ensures, c.records.ensures.records, c.questions.ensures) at c.agreement.ensures)

pub returns-clause-known : goal.returns-clause-known
returns-clause-known g c =
    known_of g.C.Catalogue.behaviour (answers_of c.args.self.now.model) (answers_of c.args.model.now) (world_in (λ b. (g.dyn-1.0.entry b.vtable).1) c.args.self.now.runner.kernel)
    c.args.self.now.known c.in-Some.last c.agreement.result c.in-Some.is c.requires.sound.kept.asked (rw (c.evaluated.ensures, c.records.ensures.records, c.questions.ensures) at c.agreement.ensures)

pub returns-clause-good : goal.returns-clause-good
returns-clause-good g c =
    let kernel = c.args.self.now.runner.kernel in
    good_of g.C.Catalogue.behaviour g.C.Catalogue.lawful (answers_of c.args.self.now.model) (answers_of c.args.model.now) (world_in (λ b. (g.dyn-1.0.entry b.vtable).1) kernel) c.args.self.now.runner.positions
    c.args.self.now.known c.in-Some.last c.agreement.result c.in-Some.is c.requires.sound.kept.asked c.requires.sound.kept.good (rw (c.evaluated.ensures, c.records.ensures.records, c.questions.ensures) at c.agreement.ensures)
