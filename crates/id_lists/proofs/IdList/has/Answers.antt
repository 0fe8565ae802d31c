use Rattle.std.proofs.Common.{◌∙◌, ◌==◌, nat_lt, List, ℕ, get_or, ap}
use Rattle.std.specs.List.{list_any}
use Rattle.id_lists.proofs.Counted.{counted_any}
use Rattle.id_lists.proofs.IdList.has.Goals as goal

pub returns-then-id-lt-SLOTS : goal.returns-then-id-lt-SLOTS
returns-then-id-lt-SLOTS c =
    ap (nat_lt 0) (c.count_at.ensures ∙ ap (λ (xs : List ℕ). get_or xs c.args.id 0) c.as_slice.ensures.value ∙ c.self.invariant c.args.id c.if-id-lt-SLOTS.true)
    ∙ counted_any c.args.id c.self.inside.ids ∙ ap (list_any (λ n. n == c.args.id)) c.self.view_is
