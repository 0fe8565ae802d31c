use Rattle.std.proofs.Common.{arith, ◌∙◌, sym, slice_index}
use Rattle.inside_wiring.specs.Wired.{is_open}
use Rattle.inside_wiring.proofs.Taken.{least_found, least_none}
use Rattle.inside_wiring.proofs.wiring.Wiring.next_index.Goals as goal

pub returns-then-is_open-clause-least : goal.returns-then-is_open-clause-least
returns-then-is_open-clause-least c =
    sym (least_found (λ i. is_open c.args.self.now.links c.args.other c.args.role (c.args.vector, i)) 0 (slice_index c.args.self.now.sizes c.args.vector) c.loop-index.index
    (omega arith) (omega arith) c.loop-index.invariant (sym c.if-is_open.ensures))

pub returns-clause-least : goal.returns-clause-least
returns-clause-least c =
    c.size-size.ensures
    ∙ sym (least_none (λ i. is_open c.args.self.now.links c.args.other c.args.role (c.args.vector, i)) 0 (slice_index c.args.self.now.sizes c.args.vector) (λ j h. c.loop-index.invariant j (omega arith)) ∙ omega arith)
