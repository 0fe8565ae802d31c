-- The line of a configuration keeps the orders of those that it is merged of.
use Rattle.std.proofs.Common.{◌≡◌, inl, inr, ℕ, zero, suc, ◌<◌, Bool, true, false, List, [], ◌∷◌, ◌++◌, length, get_or, refl, sym, ap, subst, ◌∙◌, arith, if◌then◌else◌}
use Rattle.std.specs.List.{AllZip, Contains}
use Rattle.std.specs.Str.{bytes_eq}
use Rattle.std.proofs.lemmas.List.{get_or-map, length-map}
use Rattle.std.proofs.lemmas.List.Elements.{All-contains, Contains-append_left, Contains-push}
use Rattle.std.proofs.lemmas.Slice.Eq.{bytes_eq-Decides}
use Rattle.ini_trees.specs.declared.lines.IniLine.{IniLine}
use Rattle.ini_trees.specs.Merge.{without_head, without, IsMerge}
use Rattle.ini_trees.specs.Kept.{IsKept, KeepsOrder}
use Rattle.ini_trees.specs.Sections.{bases_named, IsLineWithin}
use Rattle.ini_trees.specs.Words.{Bytes}
use Rattle.ini_trees.proofs.LineLaws.{IsBaseLine, only_line}

pub kept_more : {X : Type 0} (xs ys : List X) (y : X) → IsKept xs ys → IsKept xs (y ∷ ys)
kept_more [] ys y k = tt
kept_more (x ∷ xs) ys y k = inr k

-- a list is in the lists that are left, without the head
left_of : (x : Bytes) (ls : List (List Bytes)) (l : List Bytes) → Contains ls l → Contains (without bytes_eq x ls) (without_head bytes_eq x l)
left_of x ls l c =
    let size : c.0 < length (without bytes_eq x ls) = omega (arith, c.1, length-map ls (λ m. without_head bytes_eq x m)) in
    (c.0, size, get_or-map (λ m. without_head bytes_eq x m) ls c.0 l (without_head bytes_eq x l) c.1 ∙ ap (without_head bytes_eq x) c.2)

pub merge_keeps : (ls : List (List Bytes)) (m l : List Bytes) → IsMerge bytes_eq ls m → Contains ls l → IsKept l m
merge_keeps ls [] l w c = subst (λ (k : List Bytes). IsKept k []) (sym (All-contains (λ k. k ≡ []) ls l w c)) tt
merge_keeps ls (x ∷ more) [] w c = tt
merge_keeps ls (x ∷ more) (y ∷ ys) w c = go (bytes_eq y x) refl (merge_keeps (without bytes_eq x ls) more (without_head bytes_eq x (y ∷ ys)) w.1 (left_of x ls (y ∷ ys) c))
  where
    go : (b : Bool) → bytes_eq y x ≡ b → IsKept (if bytes_eq y x then ys else y ∷ ys) more → IsKept (y ∷ ys) (x ∷ more)
    go true e k = let kept : IsKept ys more = rw e at k in inl ((bytes_eq-Decides y x).0 e, kept)
    go false e k = let kept : IsKept (y ∷ ys) more = rw e at k in inr kept

-- what stands at a place of the first list has its part in that place of the second
zip_place : {X Y : Type 0} (P : X → Y → Type 0) (xs : List X) (ys : List Y) (k : ℕ) (d : X) (e : Y) → AllZip P xs ys → k < length xs → (k < length ys) × P (get_or xs k d) (get_or ys k e)
zip_place P [] ys k d e z h = absurd (omega arith)
zip_place P (x ∷ xs) [] k d e z h = absurd z
zip_place P (x ∷ xs) (y ∷ ys) zero d e z h = (omega arith, z.0)
zip_place P (x ∷ xs) (y ∷ ys) (suc k) d e z h = let rest = zip_place P xs ys k d e z.1 (omega arith) in (omega (arith, rest.0), rest.1)

keeps_within : (d e : ℕ) (text : List IniLine) (name base : Bytes) (line other : List Bytes) → IsLineWithin d text name line → Contains (bases_named name text) base → IsLineWithin e text base other → IsKept other line
keeps_within zero e text name base line other w c v = absurd w
keeps_within (suc d) e text name base [] other w c v = absurd w
keeps_within (suc d) e text name base (x ∷ xs) other w c v =
    let bases = bases_named name text in
    let at = zip_place (IsBaseLine d text) bases w.1 c.0 base other w.2 c.1 in
    let here = subst (λ (b : Bytes). IsBaseLine d text b (get_or w.1 c.0 other)) c.2 at.1 in
    let same : get_or w.1 c.0 other ≡ other = only_line d text e base (get_or w.1 c.0 other) other here.1 v in
    kept_more other xs x (merge_keeps (w.1 ++ bases ∷ []) xs other w.3 (Contains-append_left w.1 (bases ∷ []) other (c.0, at.0, same)))

pub bases_kept : (d : ℕ) (text : List IniLine) (name : Bytes) (line : List Bytes) → IsLineWithin d text name line → IsKept (bases_named name text) line
bases_kept zero text name line w = absurd w
bases_kept (suc d) text name [] w = absurd w
bases_kept (suc d) text name (x ∷ xs) w =
    kept_more (bases_named name text) xs x (merge_keeps (w.1 ++ bases_named name text ∷ []) xs (bases_named name text) w.3 (Contains-push w.1 (bases_named name text)))

pub keeps_order : (text : List IniLine) (name : Bytes) → KeepsOrder text name
keeps_order text name line w = (bases_kept w.0 text name line w.1, λ base other c v. keeps_within w.0 v.0 text name base line other w.1 c v.1)
