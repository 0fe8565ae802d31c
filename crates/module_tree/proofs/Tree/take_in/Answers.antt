use Rattle.std.proofs.Common.{◌∙◌, ap, sym, subst, arith}
use Rattle.module_tree.specs.Boxes.{with_boxes, AreRising}
use Rattle.module_tree.proofs.Taking.{all_below, none_last}
use Rattle.module_tree.proofs.Tree.take_in.Goals as goal

pub returns-in_default-clause-none : goal.returns-in_default-clause-none
returns-in_default-clause-none g c = none_last c.args.others.now.seats (sym c.last.ensures.last ∙ c.in_default.is)

pub returns-in_default-clause-all : goal.returns-in_default-clause-all
returns-in_default-clause-all g c = ap (λ ss. with_boxes ss c.args.self.now.seats) (sym (none_last c.args.others.now.seats (sym c.last.ensures.last ∙ c.in_default.is)))

pub take_below-requires-clause-rising : goal.take_below-requires-clause-rising
take_below-requires-clause-rising g c =
    subst (λ n. AreRising 0 n c.args.others.now.seats) (omega arith) (all_below c.in-Some.last c.args.others.now.room c.args.others.now.seats c.last.ensures.rising (sym c.last.ensures.last ∙ c.in-Some.is))
