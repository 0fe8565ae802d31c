-- Tables and edits.
use Rattle.std.specs.Prelude.{◌≡◌, Bool, true, false, List, [], ◌∷◌, length}
use Rattle.param_following.specs.Edits.{asked_by, kept_keys, kept_of, IsClosed, IsInOrder}
use Rattle.param_following.specs.Edits.{RestsOnChanged}
use Rattle.param_following.specs.Following.{Rules, is_on}
use Rattle.param_following.specs.Waiting.{IsRight}
use Rattle.param_engine.specs.Tables.{Entries, known}

-- the keys of a table, in the order in which their values were found
abbrev pub entry_keys : {K V : Type 0} → Entries K V → List K
entry_keys [] = []
entry_keys (e ∷ es) = e.0 ∷ entry_keys es

module _ {K V F : Type 0} (rules : Rules K V F) (es : Entries K V) where
  -- what a key asks for, by what the table knows
  abbrev pub asks_for : K → List K
  asks_for k = asked_by (known rules.same es) (rules.asking k)

  -- each key stands after those that it asks for
  abbrev pub IsSorted : Type 0
  IsSorted = IsInOrder rules.same asks_for (entry_keys es) []

-- Let each key that isn't marked as changed ask as before. What the pass keeps is right and closed
-- under the new rules, and each key that it gives up rests on a changed one.
abbrev pub AfterEdit : {K V F : Type 0} → Rules K V F → Rules K V F → Entries K V → Type 0
AfterEdit {K} before after es = (changed : K → Bool)
    → ((k : K) → changed k ≡ false → after.asking k ≡ before.asking k) →
    let keep : K → Bool = λ k. is_on before.same k
    (kept_keys before.same (asks_for before es) changed (entry_keys es) []) in
    IsRight after (length es) (kept_of keep (known before.same es))
    × IsClosed after (kept_of keep (known before.same es)) ×
    ((k : K) → is_on before.same k (entry_keys es) ≡ true → keep k ≡ false
    → RestsOnChanged (asks_for before es) changed k)
