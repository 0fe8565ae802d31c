-- An injection is taken back.
use Rattle.std.proofs.Common.{◌≡◌, ℕ, suc, ◌+◌, Bool, true, false, List, [], ◌∷◌, Option, Some, None, Ok, Err, refl, sym, ap, ◌∙◌, arith}
use Rattle.std.specs.List.{list_any, position, position_from, remove}
use Rattle.std.proofs.lemmas.Iterator.Adapters.{position_from-zero}
use Rattle.model_injections.specs.declared.injection.Injection.{Injection}
use Rattle.model_data.specs.declared.model.Model.{Model}
use Rattle.model_edits.specs.declared.edit.Edit.TheVariants as edit
use Rattle.model_edits.specs.declared.edit.Refusal.TheVariants as refusal
use Rattle.model_edits.specs.Edited.{is_numbered, without}
use Rattle.model_edits.specs.Steps.{Comes}

-- where it stands among these, counted from this number on: it is one of them, and all others are
-- left
pub record StandsAt (number : ℕ) (is : List Injection) (from place : ℕ) : Type 0 where
  pub number_of : ℕ
  pub counted : place ≡ from + number_of
  pub among : list_any (is_numbered number) is ≡ true
  pub left : remove is number_of ≡ without number is

same_place : (a b : ℕ) → ◌≡◌ {A = Option ℕ} (Some a) (Some b) → a ≡ b
same_place a b h = cc

found_here : (number : ℕ) (i : Injection) (is : List Injection) (from place : ℕ) (t : Bool) → is_numbered number i ≡ t
    → ((e : position_from (is_numbered number) (from + 1) is ≡ Some place) → StandsAt number is (from + 1) place)
    → position_from (is_numbered number) from (i ∷ is) ≡ Some place → StandsAt number (i ∷ is) from place
found_here number i is from place true same on e =
    let first : ◌≡◌ {A = Option ℕ} (Some from) (Some place) = rw same at e in
    record { number_of = 0; counted = omega (arith, same_place from place first); among = rw same refl; left = rw same refl }
found_here number i is from place false same on e =
    let there = on (rw same at e) in
    record { number_of = suc there.number_of; counted = omega (arith, there.counted); among = rw same there.among; left = rw same (ap (λ (xs : List Injection). i ∷ xs) there.left) }

found : (number : ℕ) (is : List Injection) (from place : ℕ) → position_from (is_numbered number) from is ≡ Some place → StandsAt number is from place
found number [] from place e = absurd cc
found number (i ∷ is) from place e = found_here number i is from place (is_numbered number i) refl (λ rest. found number is (from + 1) place rest) e

not_found_here : (number : ℕ) (i : Injection) (is : List Injection) (from : ℕ) (t : Bool) → is_numbered number i ≡ t
    → ((e : position_from (is_numbered number) (from + 1) is ≡ None) → list_any (is_numbered number) is ≡ false)
    → position_from (is_numbered number) from (i ∷ is) ≡ None → list_any (is_numbered number) (i ∷ is) ≡ false
not_found_here number i is from true same on e =
    let none : ◌≡◌ {A = Option ℕ} (Some from) None = rw same at e in absurd cc
not_found_here number i is from false same on e = rw same (on (rw same at e))

not_found : (number : ℕ) (is : List Injection) (from : ℕ) → position_from (is_numbered number) from is ≡ None → list_any (is_numbered number) is ≡ false
not_found number [] from e = refl
not_found number (i ∷ is) from e = not_found_here number i is from (is_numbered number i) refl (λ rest. not_found number is (from + 1) rest) e

-- ---- what comes of it

truth_apart : (b : Bool) → b ≡ true → b ≡ false → ⊥
truth_apart true p q = absurd cc
truth_apart false p q = absurd cc

left_without : (number : ℕ) (is rest : List Injection) (place : ℕ) → StandsAt number is 0 place → rest ≡ remove is place → rest ≡ without number is
left_without number is rest place at same =
    let here : place ≡ at.number_of = omega (arith, at.counted) in
    same ∙ ap (λ (n : ℕ). remove is n) here ∙ at.left

pub withdrawn : (m : Model) (number place : ℕ) (rest : List Injection) → position (is_numbered number) m.injections ≡ Some place
    → rest ≡ remove m.injections place → Comes m (edit.Withdraw number) (record m { injections = rest }) (Ok tt)
withdrawn m number place rest at same =
    let there = found number m.injections 0 place (sym (position_from-zero (is_numbered number) m.injections) ∙ at) in
    let left = left_without number m.injections rest place there same in (
      (there.among, ap (λ (is : List Injection). record m { injections = is }) left),
      λ other made. made.1 ∙ sym (ap (λ (is : List Injection). record m { injections = is }) left),
    )

pub not_withdrawn : (m : Model) (number : ℕ) → position (is_numbered number) m.injections ≡ None → Comes m (edit.Withdraw number) m (Err refusal.NoSuchInjection)
not_withdrawn m number none =
    let missing = not_found number m.injections 0 (sym (position_from-zero (is_numbered number) m.injections) ∙ none) in
    (refl, missing, λ new made. absurd (truth_apart _ made.0 missing))
