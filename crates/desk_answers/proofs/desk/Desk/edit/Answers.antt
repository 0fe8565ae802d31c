use Rattle.std.proofs.Common.{refl}
use Rattle.desk_answers.specs.Turns.{editing_at}
use Rattle.desk_answers.proofs.Refusing.{refusing}
use Rattle.desk_answers.proofs.desk.Desk.edit.Goals as goal

pub returns-in-Err-clause-answer : goal.returns-in-Err-clause-answer
returns-in-Err-clause-answer g c =
    refusing g.C.Catalogue.behaviour (editing_at (λ b. (g.dyn-1.0.entry b.vtable).1) c.args.self.now) (editing_at (λ b. (g.dyn-1.0.entry b.vtable).1) c.args.self.now) c.args.edit c.in-Err.refusal
    c.refused.result refl c.in-Err.ensures.refused c.in-Err.ensures.complete c.refused.ensures.text

-- the answer is that of the edit, which stays valid to that event
pub returns-in_ok-text-in-Ok-clause-told : goal.returns-in_ok-text-in-Ok-clause-told
returns-in_ok-text-in-Ok-clause-told g c = (c.in-Ok.change.edited.valid_to, c.in_ok-text-in-Ok.ensures)
