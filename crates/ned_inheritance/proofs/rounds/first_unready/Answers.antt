use Rattle.std.proofs.Common.{Some, not, sym, ap, ◌∙◌}
use Rattle.std.proofs.lemmas.Option.{slice_get-get_or}
use Rattle.ned_inheritance.specs.Order.{is_name_ready}
use Rattle.ned_inheritance.proofs.PlaceLaws.{passed}
use Rattle.ned_inheritance.proofs.rounds.first_unready.Goals as goal

pub loop-at-preserved : goal.loop-at-preserved
loop-at-preserved c =
    let here = slice_get-get_or c.args.names.now c.loop-at.at c.index-names-at.result c.loop-at-test.true ∙ ap Some (sym c.index-names-at.is) in
    passed (λ n. not (is_name_ready c.args.named.now c.args.order.now n)) c.loop-at.at c.args.names.now c.index-names-at.result _ here (ap not (ap (is_name_ready c.args.named.now c.args.order.now) (sym c.as_bytes.ensures) ∙ sym c.is_name_ready.ensures ∙ c.if-not-is_name_ready.false)) c.loop-at.invariant
