use Rattle.std.proofs.Common.{Some, not, sym, ap, ◌∙◌}
use Rattle.std.proofs.lemmas.Option.{slice_get-get_or}
use Rattle.ned_inheritance.specs.Places.{is_known}
use Rattle.ned_inheritance.proofs.PlaceLaws.{passed}
use Rattle.ned_inheritance.proofs.interfaces.first_unknown_interface.Goals as goal

pub loop-at-preserved : goal.loop-at-preserved
loop-at-preserved c =
    let here = slice_get-get_or c.args.names.now c.loop-at.at c.index-names-at.result c.loop-at-test.true ∙ ap Some (sym c.index-names-at.is) in
    passed (λ n. not (is_known n c.args.named.now)) c.loop-at.at c.args.names.now c.index-names-at.result _ here (ap not (sym c.is_known.ensures ∙ c.if-not-is_known.false)) c.loop-at.invariant
