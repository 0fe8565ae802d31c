use Rattle.std.proofs.Common.{List, ℕ, refl, subst}
use Rattle.std.proofs.lemmas.Result.{err_from_is_err_and}
use Rattle.model_edits.specs.Edited.{RefusesParts, parts_of}
use Rattle.model_edits.proofs.edit.select.Goals as goal

pub returns-in_err-chain : goal.returns-in_err-chain
returns-in_err-chain c =
    let m = c.args.model.now in
    let p = err_from_is_err_and c.from_residual.result c.from_residual.ensures.1 in
    rw (p.1, p.2) (refl, subst (λ (config : List ℕ). RefusesParts m (parts_of m) config c.in_err-chain.field-0.0) c.as_bytes.ensures (c.in_err-chain.ensures.refused m.files))
