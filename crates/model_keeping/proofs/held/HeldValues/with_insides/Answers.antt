use Rattle.std.proofs.Common.{◌∙◌, List, Bool, subst, sym}
use Rattle.model_keeping.specs.Keeping.{AreItsValues}
use Rattle.param_keeping.specs.Stores.{store_of}
use Rattle.model_keeping.proofs.Holding.{counts_read}
use Rattle.model_keeping.proofs.held.HeldValues.with_insides.Goals as goal

pub are_insides_still-requires-clause-read : goal.are_insides_still-requires-clause-read
are_insides_still-requires-clause-read c =
    counts_read c.args.after.now (store_of c.deref.result.now.kept c.in_ok-read.read)
    (subst (λ (l : List Bool). AreItsValues c.args.after.now (store_of c.deref.result.now.kept l)) (sym (c.in_ok-read.ensures ∙ c.as_slice.ensures))
    (subst (λ s. AreItsValues c.args.after.now (store_of s.kept c.args.closed)) (sym c.deref.ensures) c.requires.1.closed_are))
