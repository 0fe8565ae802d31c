use Rattle.std.proofs.Common.{◌≡◌, ◌+◌, Some, suc, arith, sym, ap, subst, ◌∙◌, take, ◌++◌, ◌∷◌, []}
use Rattle.std.proofs.Math.Seq.{take-suc}
use Rattle.std.proofs.lemmas.Option.{slice_get-get_or}
use Rattle.std.proofs.lemmas.Result.{err_from_is_err_and}
use Rattle.model_reading.specs.Models.{RefusesFile}
use Rattle.ned_syntax.specs.NedText.{IsNedFile}
use Rattle.model_reading.proofs.Reading.{blames, one_more}
use Rattle.model_reading.proofs.begin.files_of.Goals as goal

pub returns-in_err-file-clause-refused : goal.returns-in_err-file-clause-refused
returns-in_err-file-clause-refused c =
    let p = err_from_is_err_and c.from_residual.result c.from_residual.ensures.1 in
    let here = slice_get-get_or c.as_slice-text-items.result.now c.loop-number.number c.text-item.result c.loop-number-test.true ∙ ap Some (sym c.text-item.is) in
    let refused = subst (λ t. RefusesFile c.loop-number.number t c.in_err-file.field-0.0) c.as_bytes.ensures c.in_err-file.ensures.refused in
    rw (p.1, p.2, sym c.as_slice-text-items.ensures) (blames c.as_slice-text-items.result.now c.loop-number.number c.text-item.result c.loop-number.files c.in_err-file.field-0.0 c.loop-number.invariant here refused)

pub loop-number-preserved : goal.loop-number-preserved
loop-number-preserved c =
    let texts = c.as_slice-text-items.result.now in
    let n = c.loop-number.number in
    let next : n + 1 ≡ suc n = omega arith in
    let taken : take (n + 1) texts ≡ take n texts ++ c.text-item.result ∷ [] =
    ap (λ k. take k texts) next ∙ take-suc texts n c.text-item.result c.loop-number-test.true ∙ ap (λ t. take n texts ++ t ∷ []) (sym c.text-item.is) in
    rw (taken, c.in_ok-push_file.ensures.ok) (one_more (take n texts) c.text-item.result c.loop-number.files c.in_ok-file.file c.loop-number.invariant (subst (λ t. IsNedFile t c.in_ok-file.file) c.as_bytes.ensures c.in_ok-file.ensures.accepted))
