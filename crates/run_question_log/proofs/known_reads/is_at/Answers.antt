use Rattle.std.proofs.Common.{bytes_eq, option_copied, sym, ap, ◌∙◌}
use Rattle.run_question_log.proofs.Known.{any_at}
use Rattle.run_question_log.proofs.known_reads.is_at.Goals as goal

pub returns-in-Some : goal.returns-in-Some
returns-in-Some c = λ so.
    any_at (λ k. bytes_eq k c.args.name.now) c.args.names.now c.args.place c.in-Some.known.now (sym c.at.ensures ∙ ap option_copied c.in-Some.is)
    (ap (λ n. bytes_eq n c.args.name.now) (sym c.as_bytes.ensures) ∙ sym c.are_same.ensures ∙ so)
