use Rattle.std.proofs.Common.{bytes_eq, option_copied, sym, ap, ◌∙◌}
use Rattle.std.specs.List.{list_any}
use Rattle.module_tree.proofs.Each.{each_of}
use Rattle.run_question_log.specs.Known.{WereAsked}
use Rattle.run_question_log.proofs.Known.{among_asked}
use Rattle.run_question_log.proofs.known_reads.KnownReads.has_named.Goals as goal

pub returns-in-Some : goal.returns-in-Some
returns-in-Some c = λ asked known so.
    among_asked asked c.args.id c.in-Some.known.now c.args.name.now
    (each_of (WereAsked asked) c.args.id c.args.self.now.lists.seats c.in-Some.known.now known (sym c.get.ensures ∙ ap option_copied c.in-Some.is))
    (ap (λ names. list_any (λ k. bytes_eq k c.args.name.now) names) (sym c.as_slice.ensures) ∙ sym c.is_among.ensures ∙ so)
