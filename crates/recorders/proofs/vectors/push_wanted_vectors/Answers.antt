use Rattle.std.proofs.Common.{◌∙◌, ◌++◌, List, sym, ap, append-nil}
use Rattle.recorders.proofs.Unwanted.{no_vectors}
use Rattle.recorders.specs.declared.vector_line.VectorLine.{VectorLine}
use Rattle.recorders.proofs.vectors.push_wanted_vectors.Goals as goal

pub returns-then-not-is_wanted : goal.returns-then-not-is_wanted
returns-then-not-is_wanted c =
    sym (append-nil c.args.found.now)
    ∙ ap (λ (vectors : List VectorLine). c.args.found.now ++ vectors)
    (sym (no_vectors c.args.member.now.model.now c.args.member.now.records.now c.args.member.now.emissions.now c.args.member.now.id (sym c.requires.wanted ∙ sym c.is_wanted.ensures ∙ c.if-not-is_wanted.true)))
