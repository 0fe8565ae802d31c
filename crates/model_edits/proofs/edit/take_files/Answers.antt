use Rattle.std.proofs.Common.{List, ℕ, refl, subst}
use Rattle.std.proofs.lemmas.Result.{err_from_is_err_and}
use Rattle.model_edits.specs.Edited.{RefusesParts}
use Rattle.model_edits.specs.Steps.{with_files}
use Rattle.model_edits.proofs.edit.take_files.Goals as goal

pub returns-in_err-chain : goal.returns-in_err-chain
returns-in_err-chain c =
    let m = c.args.model.now in
    let p = err_from_is_err_and c.from_residual.result c.from_residual.ensures.1 in
    rw (p.1, p.2) (refl, subst (λ (config : List ℕ). RefusesParts m (with_files m c.args.made) config c.in_err-chain.field-0.0) c.as_bytes.ensures (c.in_err-chain.ensures.refused c.args.made.files))
