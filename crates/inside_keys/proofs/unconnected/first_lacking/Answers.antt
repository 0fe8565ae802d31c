use Rattle.std.proofs.Common.{arith, ◌∙◌, sym, slice_index}
use Rattle.inside_wiring.proofs.Taken.{least_found, least_none}
use Rattle.inside_keys.specs.Unconnected.{is_lacking}
use Rattle.inside_keys.proofs.unconnected.first_lacking.Goals as goal

pub returns-then-is_lacking : goal.returns-then-is_lacking
returns-then-is_lacking c =
    sym (least_found (λ i. is_lacking c.args.wiring.now.links c.args.role (c.args.vector, i)) 0 (slice_index c.args.wiring.now.sizes c.args.vector) c.loop-index.index
    (omega arith) (omega arith) c.loop-index.invariant (sym c.if-is_lacking.ensures))

pub returns : goal.returns
returns c =
    c.size-size.ensures
    ∙ sym (least_none (λ i. is_lacking c.args.wiring.now.links c.args.role (c.args.vector, i)) 0 (slice_index c.args.wiring.now.sizes c.args.vector) (λ j h. c.loop-index.invariant j (omega arith)) ∙ omega arith)
