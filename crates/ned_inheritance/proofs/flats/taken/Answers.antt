use Rattle.std.proofs.Common.{List, ℕ, ap, ◌∙◌}
use Rattle.std.specs.Str.{bytes_eq}
use Rattle.ned_inheritance.proofs.flats.taken.Goals as goal

pub returns-clause-left : goal.returns-clause-left
returns-clause-left c = λ name apart.
    c.swap_remove.ensures.updates.2 (record c.as_bytes.result { now = name }) (ap (λ (n : List ℕ). bytes_eq n name) c.as_bytes.ensures ∙ apart)
