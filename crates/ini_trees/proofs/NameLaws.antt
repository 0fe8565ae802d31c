-- Names of sections in a set, and their numbers.
use Rattle.std.proofs.Common.{◌≡◌, ℕ, zero, suc, Bool, true, false, ◌||◌, List, [], ◌∷◌, ◌++◌, length, get_or, Option, Some, None, is_some, refl, sym, ap, ◌∙◌, arith, Bor, position, slice_get, if◌then◌else◌}
use Rattle.std.specs.List.{list_any}
use Rattle.std.specs.Str.{bytes_eq}
use Rattle.std.proofs.lemmas.Bool.{false≢true}
use Rattle.std.proofs.lemmas.List.{get_or-map, length-map}
use Rattle.std.proofs.lemmas.List.Quantifiers.{position-Some}
use Rattle.std.proofs.lemmas.Slice.Eq.{bytes_eq-Decides}
use Rattle.ini_trees.specs.Names.{names_in, with_name}
use Rattle.ini_trees.specs.Numbers.{holds, name_at, IsNumber}
use Rattle.ini_trees.specs.Words.{Bytes}

turned : (a b : Bytes) → bytes_eq a b ≡ bytes_eq b a
turned a b = go (bytes_eq a b) refl (bytes_eq b a) refl
  where
    go : (c : Bool) → bytes_eq a b ≡ c → (d : Bool) → bytes_eq b a ≡ d → bytes_eq a b ≡ bytes_eq b a
    go true e true f = e ∙ sym f
    go false e false f = e ∙ sym f
    go true e false f = absurd (false≢true (sym f ∙ (bytes_eq-Decides b a).1 (sym ((bytes_eq-Decides a b).0 e))))
    go false e true f = absurd (false≢true (sym e ∙ (bytes_eq-Decides a b).1 (sym ((bytes_eq-Decides b a).0 f))))

-- a name is among those to which the references lead
held_in : (name : Bytes) (keys : List (Bor Bytes)) → list_any (λ (y : Bor Bytes). bytes_eq name y.now) keys ≡ holds (names_in keys) name
held_in name [] = refl
held_in name (y ∷ keys) = ap (λ (t : Bool). t || list_any (λ (z : Bor Bytes). bytes_eq name z.now) keys) (turned name y.now) ∙ ap (λ (t : Bool). bytes_eq y.now name || t) (held_in name keys)

names_more : (keys : List (Bor Bytes)) (k : Bor Bytes) → names_in (keys ++ k ∷ []) ≡ names_in keys ++ k.now ∷ []
names_more [] k = refl
names_more (y ∷ keys) k = ap (λ (ns : List Bytes). y.now ∷ ns) (names_more keys k)

pub added_name : (keys more : List (Bor Bytes)) (k : Bor Bytes) → more ≡ (if list_any (λ (y : Bor Bytes). bytes_eq k.now y.now) keys then keys else keys ++ k ∷ []) → names_in more ≡ with_name (names_in keys) k.now
added_name keys more k now = go (list_any (λ (y : Bor Bytes). bytes_eq k.now y.now) keys) (held_in k.now keys) now
  where
    go : (c : Bool) → c ≡ holds (names_in keys) k.now → more ≡ (if c then keys else keys ++ k ∷ []) → names_in more ≡ (if holds (names_in keys) k.now then names_in keys else names_in keys ++ k.now ∷ [])
    go true e is = rw (sym e) (ap names_in is)
    go false e is = rw (sym e) (ap names_in is ∙ names_more keys k)

pub found_number : (keys : List (Bor Bytes)) (name : Bytes) (o : Option ℕ) → o ≡ position (λ (y : Bor Bytes). bytes_eq name y.now) keys → is_some o ≡ list_any (λ (y : Bor Bytes). bytes_eq name y.now) keys → IsNumber (names_in keys) name o
found_number keys name None at found = sym (held_in name keys) ∙ sym found
found_number [] name (Some i) at found = absurd (false≢true (sym found))
found_number (k ∷ keys) name (Some i) at found =
    let there = position-Some (λ (y : Bor Bytes). bytes_eq name y.now) (k ∷ keys) i k (sym at) in
    let size : length (names_in (k ∷ keys)) ≡ length (k ∷ keys) = length-map (k ∷ keys) (λ (y : Bor Bytes). y.now) in
    let same : name ≡ (get_or (k ∷ keys) i k).now = (bytes_eq-Decides name (get_or (k ∷ keys) i k).now).0 there.1 in
    (omega (arith, there.0, size), get_or-map (λ (y : Bor Bytes). y.now) (k ∷ keys) i k [] there.0 ∙ sym same)

pub name_there : (keys : List (Bor Bytes)) (i : ℕ) (k : Bor Bytes) → Some k ≡ slice_get keys i → k.now ≡ name_at (names_in keys) i
name_there [] i k e = absurd (no_key i e)
  where
    no_key : (j : ℕ) → Some k ≡ slice_get {X = Bor Bytes} [] j → ⊥
    no_key zero e = cc
    no_key (suc j) e = cc
name_there (y ∷ keys) zero k e = let same : k ≡ y = cc in ap (λ (x : Bor Bytes). x.now) same
name_there (y ∷ keys) (suc i) k e = name_there keys i k e

pub name_past : (keys : List (Bor Bytes)) (i : ℕ) → None ≡ slice_get keys i → [] ≡ name_at (names_in keys) i
name_past [] i e = refl
name_past (y ∷ keys) zero e = absurd cc
name_past (y ∷ keys) (suc i) e = name_past keys i e
