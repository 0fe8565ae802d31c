-- Paths of modules.
use Rattle.std.proofs.Common.{◌≡◌, ◌≢◌, ℕ, zero, suc, ◌-◌, List, [], ◌∷◌, ◌++◌, None, Some, Result, Ok, Err, arith, arith, refl, sym, ap, ◌∙◌, append_assoc}
use Rattle.std.specs.Result.{OnOk}
use Rattle.model_questions.specs.declared.record.Record.{Record}
use Rattle.model_questions.specs.Records.{record_at, lineage_up, own_name, path_along, with_those_around}

-- one record, and those around it
lineage-step : (depth : ℕ) (records : List Record) (id : ℕ) → depth ≢ 0 → lineage_up depth records id ≡ with_those_around (lineage_up (depth - 1) records) (record_at records id)
lineage-step zero records id ne = absurd (ne refl)
lineage-step (suc depth) records id ne = ap (λ d. with_those_around (lineage_up d records) (record_at records id)) less
  where
    less : depth ≡ suc depth - 1
    less = omega arith

-- the path of the outermost module is its name
pub path-outermost : (depth : ℕ) (records : List Record) (r : Record) → None ≡ record_at records r.parent → path_along (r ∷ lineage_up depth records r.parent) ≡ own_name r.name r.index
path-outermost zero records r none = refl
path-outermost (suc depth) records r none = ap (λ o. path_along (r ∷ with_those_around (lineage_up depth records) o)) (sym none)

-- the path of a submodule is that of the module around it, a dot, and its name
pub path-under : (depth : ℕ) (records : List Record) (r outer : Record) → depth ≢ 0 → Some outer ≡ record_at records r.parent
    → path_along (r ∷ lineage_up depth records r.parent) ≡ path_along (outer ∷ lineage_up (depth - 1) records outer.parent) ++ 46 ∷ own_name r.name r.index
path-under depth records r outer ne there =
    ap (λ line. path_along (r ∷ line)) (lineage-step depth records r.parent ne ∙ ap (with_those_around (lineage_up (depth - 1) records)) (sym there))

-- what is added part by part
pub pushed_under : {R E : Type 0} (result : Result R E) (old above first second new own whole : List ℕ) → first ≡ old ++ above → second ≡ first ++ 46 ∷ [] → OnOk result (new ≡ second ++ own) → whole ≡ above ++ 46 ∷ own → OnOk result (new ≡ old ++ whole)
pushed_under (Ok r) old above first second new own whole e d n w =
    n ∙ ap (λ xs. xs ++ own) (d ∙ ap (λ xs. xs ++ 46 ∷ []) e) ∙ append_assoc (old ++ above) (46 ∷ []) own ∙ append_assoc old above (46 ∷ own) ∙ ap (λ xs. old ++ xs) (sym w)
pushed_under (Err r) old above first second new own whole e d n w = n
