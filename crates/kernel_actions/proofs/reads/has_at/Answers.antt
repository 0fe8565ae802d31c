use Rattle.std.proofs.Common.{bytes_eq, option_copied, sym, ap, ◌∙◌}
use Rattle.kernel_actions.proofs.Told.{told_at}
use Rattle.kernel_actions.proofs.reads.has_at.Goals as goal

pub returns-in-Some : goal.returns-in-Some
returns-in-Some c = λ so.
    told_at c.args.name.now c.args.parameters.now c.args.place c.in-Some.parameter.now (sym c.at.ensures ∙ ap option_copied c.in-Some.is)
    (ap (λ n. bytes_eq n c.args.name.now) (sym c.as_bytes.ensures) ∙ sym c.are_same.ensures ∙ so)
