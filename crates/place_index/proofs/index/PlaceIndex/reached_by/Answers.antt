use Rattle.std.proofs.Common.{sym, ap, ◌∙◌, ◌==◌, List, ℕ, length, true≢false}
use Rattle.place_index.proofs.index.PlaceIndex.reached_by.Goals as goal

pub by_name-requires-clause-key : goal.by_name-requires-clause-key
by_name-requires-clause-key g c = c.in_ok-key.ensures

pub by_name-requires-clause-some : goal.by_name-requires-clause-some
by_name-requires-clause-some g c = λ h. true≢false (sym (c.is_empty.ensures ∙ ap (λ (s : List ℕ). length s == 0) (c.as_bytes.ensures ∙ h)) ∙ c.if-is_empty.false)

pub returns-then-is_empty : goal.returns-then-is_empty
returns-then-is_empty g c = c.by_scan.ensures

pub returns : goal.returns
returns g c = c.by_name.ensures
