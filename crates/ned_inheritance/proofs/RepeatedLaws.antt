-- A type lacks nothing of an interface that it names once more.
use Rattle.std.proofs.Common.{◌≡◌, ℕ, Bool, true, false, ◌||◌, List, [], Option, Some, None, refl, sym, ap, ◌∙◌, bytes_eq, Bor}
use Rattle.std.proofs.lemmas.Bool.{false≢true}
use Rattle.std.specs.Option.{option_map}
use Rattle.ned_trees.specs.declared.declarations.TypeDeclaration.{TypeDeclaration}
use Rattle.ned_types.specs.Flat.{or_else}
use Rattle.ned_types.specs.Types.{type_named}
use Rattle.ned_inheritance.specs.declared.places.Member.TheVariants.{LacksParameter, LacksGate}
use Rattle.ned_inheritance.specs.Interfaces.{lacks_gate, lacks_parameter}
use Rattle.ned_inheritance.specs.Places.{first_from, lacked_of_any}
use Rattle.ned_inheritance.specs.Repeated.{LacksNothingOf}
use Rattle.ned_inheritance.specs.Seen.{AddsNames, is_in, names_in}
use Rattle.ned_inheritance.proofs.WellFormedLaws.{same_names}

-- which of its interfaces it is makes no difference
lacked_as : (t : TypeDeclaration) (n m : ℕ) (o : Option TypeDeclaration) → lacked_of_any t n o ≡ None → lacked_of_any t m o ≡ None
lacked_as t n m None h = refl
lacked_as t n m (Some i) h = by (first_from (λ l. lacks_parameter t.lines l) 0 i.lines) (first_from (λ g. lacks_gate t.gates g) 0 i.gates) h
  where
    by : (a b : Option ℕ) → or_else (option_map (LacksParameter n) a) (option_map (LacksGate n) b) ≡ None → or_else (option_map (LacksParameter m) a) (option_map (LacksGate m) b) ≡ None
    by None None h = refl
    by None (Some y) h = cc
    by (Some x) b h = cc

-- no name was seen
pub none_kept : (types : List TypeDeclaration) (t : TypeDeclaration) (keys : List (Bor (List ℕ))) → keys ≡ [] → LacksNothingOf types t (names_in keys)
none_kept types t keys e = λ name is n. absurd (false≢true (sym (ap (λ ks. is_in name (names_in ks)) e) ∙ is))

-- the name is seen of an interface of which the type lacks nothing
pub more_kept : (types : List TypeDeclaration) (t : TypeDeclaration) (names more : List (List ℕ)) (name : List ℕ) (n : ℕ) → LacksNothingOf types t names → AddsNames names (λ m. bytes_eq name m) more → lacked_of_any t n (type_named name types) ≡ None → LacksNothingOf types t more
more_kept types t names more name n kept adds none = λ m is k. by m k (is_in m names) (bytes_eq name m) refl refl (sym (adds m) ∙ is)
  where
    by : (m : List ℕ) (k : ℕ) (a b : Bool) → is_in m names ≡ a → bytes_eq name m ≡ b → (a || b) ≡ true → lacked_of_any t k (type_named m types) ≡ None
    by m k true b e p h = kept m e k
    by m k false true e p h = ap (λ (x : List ℕ). lacked_of_any t k (type_named x types)) (sym (same_names name m p)) ∙ lacked_as t n k (type_named name types) none
    by m k false false e p h = absurd (false≢true h)
