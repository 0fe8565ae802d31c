use Rattle.std.proofs.Common.{sym, ◌∙◌}
use Rattle.model_edits.proofs.Withdrawing.{not_withdrawn, withdrawn}
use Rattle.model_edits.proofs.edit.withdraw.Goals as goal

pub returns-in-Some : goal.returns-in-Some
returns-in-Some c =
    withdrawn c.args.model.now c.args.number c.in-Some.place _ (sym (rw c.as_slice.ensures at c.place_of.ensures.value) ∙ c.in-Some.is) c.remove.ensures.rest

pub returns-in-None : goal.returns-in-None
returns-in-None c = not_withdrawn c.args.model.now c.args.number (sym (rw c.as_slice.ensures at c.place_of.ensures.value) ∙ c.in-None.is)
