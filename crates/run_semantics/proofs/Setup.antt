-- Submodules are created one after the other.
use Rattle.std.proofs.Common.{◌≡◌, ℕ, List, [], ◌∷◌, ◌++◌, map, ap, append_assoc}
use Rattle.model_questions.specs.declared.answer.Built.{Built}
use Rattle.model_questions.specs.declared.record.Record.{Record}
use Rattle.run_semantics.specs.World.{World}
use Rattle.run_semantics.specs.Run.{with_submodules, record_under}

-- the first of them, and then the others
pub with_submodules-cons : (parent : ℕ) (b : Built) (bs : List Built) (w : World) → with_submodules parent bs (with_submodules parent (b ∷ []) w) ≡ with_submodules parent (b ∷ bs) w
with_submodules-cons parent b bs w =
    let records : (w.records ++ record_under parent b ∷ []) ++ map (record_under parent) bs ≡ w.records ++ record_under parent b ∷ map (record_under parent) bs =
    append_assoc w.records (record_under parent b ∷ []) (map (record_under parent) bs) in
    ap (λ (rs : List Record). record w { records = rs }) records
