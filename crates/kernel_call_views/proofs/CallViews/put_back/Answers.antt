use Rattle.std.proofs.Common.{sym, ap, ◌∙◌, subst}
use Rattle.module_tree.specs.Boxes.{EachBox, Held, box_of}
use Rattle.module_tree.proofs.Each.{each_without, each_placed}
use Rattle.module_tree.proofs.Seats.{gone}
use Rattle.kernel_call_views.specs.Tables.{IsShown}
use Rattle.kernel_call_views.specs.declared.CallView.{CallView}
use Rattle.kernel_call_views.proofs.CallViews.put_back.Goals as goal

pub place-requires : goal.place-requires
place-requires c =
    ap (λ (h : Held CallView). box_of c.args.id h.seats) c.take.ensures.rest
    ∙ gone c.args.id c.args.self.now.entries.room 0 c.args.self.now.entries.seats c.take.ensures.rising

pub returns-then-lasts-clause-shown : goal.returns-then-lasts-clause-shown
returns-then-lasts-clause-shown c = λ m records right last.
    each_placed (IsShown m records) c.args.id c.args.shown c.take.new.self.seats c.place.new.self.seats c.place.result c.place.ensures.ok c.place.ensures.err (last c.if-lasts.true)
    (subst (λ (h : Held CallView). EachBox (IsShown m records) h.seats) (sym c.take.ensures.rest) (each_without (IsShown m records) c.args.id c.args.self.now.entries.seats right))

pub returns-else-lasts-clause-shown : goal.returns-else-lasts-clause-shown
returns-else-lasts-clause-shown c = λ m records right last.
    subst (λ (h : Held CallView). EachBox (IsShown m records) h.seats) (sym c.take.ensures.rest) (each_without (IsShown m records) c.args.id c.args.self.now.entries.seats right)
