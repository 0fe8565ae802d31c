use Rattle.std.proofs.Common.{◌≡◌, ◌⊎◌, inl, inr, ℕ, Bool, true, false, ◌||◌, List, IsTrue, codes, refl, sym, subst}
use Rattle.std.proofs.lemmas.Bool.{false≢true}
use Rattle.std.proofs.lemmas.Slice.Eq.{bytes_eq-Decides}
use Rattle.std.specs.Str.{bytes_eq}
use Rattle.module_stock.specs.Stock.{stock}
use Rattle.module_stock.proofs.stock.stock_kinds_are_known.Goals as goal

one_of : {P Q : Type 0} (b rest : Bool) → (IsTrue b → P) → (IsTrue rest → Q) → IsTrue (b || rest) → P ⊎ Q
one_of true rest first others h = inl (first refl)
one_of false rest first others h = inr (others h)

none_of : {P : Type 0} → IsTrue false → P
none_of h = absurd (false≢true h)

only : {P : Type 0} (b : Bool) → (IsTrue b → P) → IsTrue (b || false) → P
only true first h = first refl
only false first h = none_of h

abbrev is_kind : List ℕ → List ℕ → Bool
is_kind kind name = bytes_eq kind name

abbrev Known : List ℕ → Type 0
Known kind = IsTrue (is_kind kind (codes "Tick") || (is_kind kind (codes "Source") || (is_kind kind (codes "Queue") || (is_kind kind (codes "Sink") || (is_kind kind (codes "Router") || (is_kind kind (codes "Spawner") || false))))))

abbrev Named : List ℕ → Type 0
Named kind = (kind ≡ codes "Tick") ⊎ ((kind ≡ codes "Source") ⊎ ((kind ≡ codes "Queue") ⊎ ((kind ≡ codes "Sink") ⊎ ((kind ≡ codes "Router") ⊎ (kind ≡ codes "Spawner")))))

known_are : (kind : List ℕ) → Known kind → Named kind
known_are kind =
    one_of (is_kind kind (codes "Tick")) _ (bytes_eq-Decides kind (codes "Tick")).0
    (one_of (is_kind kind (codes "Source")) _ (bytes_eq-Decides kind (codes "Source")).0
    (one_of (is_kind kind (codes "Queue")) _ (bytes_eq-Decides kind (codes "Queue")).0
    (one_of (is_kind kind (codes "Sink")) _ (bytes_eq-Decides kind (codes "Sink")).0
    (one_of (is_kind kind (codes "Router")) _ (bytes_eq-Decides kind (codes "Router")).0
    (only (is_kind kind (codes "Spawner")) (bytes_eq-Decides kind (codes "Spawner")).0)))))

are_known : (kind : List ℕ) → Named kind → Known kind
are_known kind (inl e) = subst Known (sym e) refl
are_known kind (inr (inl e)) = subst Known (sym e) refl
are_known kind (inr (inr (inl e))) = subst Known (sym e) refl
are_known kind (inr (inr (inr (inl e)))) = subst Known (sym e) refl
are_known kind (inr (inr (inr (inr (inl e))))) = subst Known (sym e) refl
are_known kind (inr (inr (inr (inr (inr e))))) = subst Known (sym e) refl

pub returns : goal.returns
unfolding stock
returns c kind = (known_are kind, are_known kind)
