use Rattle.std.proofs.Common.{ℕ, List, sym, ap, ◌∙◌, subst, unwrap_or, []}
use Rattle.module_tree.specs.Boxes.{EachBox, Held, box_of}
use Rattle.module_tree.proofs.Each.{each_placed, each_without}
use Rattle.module_tree.proofs.Seats.{gone}
use Rattle.run_question_log.specs.Known.{WereAsked}
use Rattle.run_question_log.proofs.Known.{taken_asked}
use Rattle.run_question_log.proofs.known_reads.KnownReads.add_named.Goals as goal

pub place-requires : goal.place-requires
place-requires c =
    ap (λ (h : Held (List (List ℕ))). box_of c.args.id h.seats) c.take.ensures.rest
    ∙ gone c.args.id c.args.self.now.lists.room 0 c.args.self.now.lists.seats c.take.ensures.rising

pub returns : goal.returns
returns c = λ asked known so.
    each_placed (WereAsked asked) c.args.id c.push_few.new.known c.take.new.self.seats c.place.new.self.seats c.place.result c.place.ensures.ok c.place.ensures.err
    (c.push_few.ensures asked c.args.id (subst (WereAsked asked c.args.id) (sym c.unwrap_or-known.ensures) (taken_asked asked c.args.id c.args.self.now.lists.seats c.take.result c.new.result known c.take.ensures.value c.new.ensures)) so)
    (subst (λ (h : Held (List (List ℕ))). EachBox (WereAsked asked) h.seats) (sym c.take.ensures.rest) (each_without (WereAsked asked) c.args.id c.args.self.now.lists.seats known))
