use Rattle.std.proofs.Common.{◌≡◌, ◌⊎◌, inl, inr, ℕ, Bool, true, false, ◌||◌, List, IsTrue, codes, refl, sym, subst}
use Rattle.std.proofs.lemmas.Bool.{false≢true}
use Rattle.std.proofs.lemmas.Slice.Eq.{bytes_eq-Decides}
use Rattle.std.specs.Str.{bytes_eq}
use Rattle.module_network.specs.Network.{network}
use Rattle.module_network.proofs.modules.network_kinds_are_known.Goals as goal

one_of : {P Q : Type 0} (b rest : Bool) → (IsTrue b → P) → (IsTrue rest → Q) → IsTrue (b || rest) → P ⊎ Q
one_of true rest first others h = inl (first refl)
one_of false rest first others h = inr (others h)

none_of : {P : Type 0} → IsTrue false → P
none_of h = absurd (false≢true h)

only : {P : Type 0} (b : Bool) → (IsTrue b → P) → IsTrue (b || false) → P
only true first h = first refl
only false first h = none_of h

abbrev is_kind : List ℕ → List ℕ → Bool
is_kind kind name = bytes_eq kind name

abbrev Known : List ℕ → Type 0
Known kind = IsTrue (is_kind kind (codes "Generator") || (is_kind kind (codes "Meter") || (is_kind kind (codes "L2Queue") || (is_kind kind (codes "Switch") || (is_kind kind (codes "Dropper") || (is_kind kind (codes "TokenStation") || (is_kind kind (codes "Sender") || (is_kind kind (codes "Receiver") || false))))))))

abbrev Named : List ℕ → Type 0
Named kind = (kind ≡ codes "Generator") ⊎ ((kind ≡ codes "Meter") ⊎ ((kind ≡ codes "L2Queue") ⊎ ((kind ≡ codes "Switch") ⊎ ((kind ≡ codes "Dropper") ⊎ ((kind ≡ codes "TokenStation") ⊎ ((kind ≡ codes "Sender") ⊎ ((kind ≡ codes "Receiver"))))))))

known_are : (kind : List ℕ) → Known kind → Named kind
known_are kind =
    one_of (is_kind kind (codes "Generator")) _ (bytes_eq-Decides kind (codes "Generator")).0
    (one_of (is_kind kind (codes "Meter")) _ (bytes_eq-Decides kind (codes "Meter")).0
    (one_of (is_kind kind (codes "L2Queue")) _ (bytes_eq-Decides kind (codes "L2Queue")).0
    (one_of (is_kind kind (codes "Switch")) _ (bytes_eq-Decides kind (codes "Switch")).0
    (one_of (is_kind kind (codes "Dropper")) _ (bytes_eq-Decides kind (codes "Dropper")).0
    (one_of (is_kind kind (codes "TokenStation")) _ (bytes_eq-Decides kind (codes "TokenStation")).0
    (one_of (is_kind kind (codes "Sender")) _ (bytes_eq-Decides kind (codes "Sender")).0
    (only (is_kind kind (codes "Receiver")) (bytes_eq-Decides kind (codes "Receiver")).0)))))))

are_known : (kind : List ℕ) → Named kind → Known kind
are_known kind (inl e) = subst Known (sym e) refl
are_known kind (inr (inl e)) = subst Known (sym e) refl
are_known kind (inr (inr (inl e))) = subst Known (sym e) refl
are_known kind (inr (inr (inr (inl e)))) = subst Known (sym e) refl
are_known kind (inr (inr (inr (inr (inl e))))) = subst Known (sym e) refl
are_known kind (inr (inr (inr (inr (inr (inl e)))))) = subst Known (sym e) refl
are_known kind (inr (inr (inr (inr (inr (inr (inl e))))))) = subst Known (sym e) refl
are_known kind (inr (inr (inr (inr (inr (inr (inr e))))))) = subst Known (sym e) refl

pub returns : goal.returns
unfolding network
returns c kind = (known_are kind, are_known kind)
