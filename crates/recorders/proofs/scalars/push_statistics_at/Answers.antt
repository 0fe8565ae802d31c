use Rattle.std.proofs.Common.{◌∙◌, ◌++◌, Bool, List, sym, ap, append-nil}
use Rattle.recorders.proofs.Unwanted.{no_lines_if_finished}
use Rattle.recorders.specs.declared.scalar_line.ScalarLine.{ScalarLine}
use Rattle.recorders.specs.Places.{places_at}
use Rattle.recorders.specs.Wanted.{is_wanted}
use Rattle.recorders.proofs.scalars.push_statistics_at.Goals as goal

pub returns-then-not-is_wanted : goal.returns-then-not-is_wanted
returns-then-not-is_wanted c =
    sym (append-nil c.args.found.now)
    ∙ ap (λ (lines : List ScalarLine). c.args.found.now ++ lines)
    (sym
    (no_lines_if_finished c.args.member.now.model.now c.args.member.now.records.now c.args.member.now.emissions.now c.args.member.now.id (places_at c.args.places.now.finished.items c.args.member.now.id)
    (sym c.requires.wanted ∙ ap (λ (wanted : List Bool). is_wanted wanted c.args.member.now.id) (sym c.deref-2.ensures.value) ∙ sym c.is_wanted.ensures ∙ c.if-not-is_wanted.true)))
