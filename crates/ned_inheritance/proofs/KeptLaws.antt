-- Lines of interfaces without those that have no members.
use Rattle.std.proofs.Common.{◌≡◌, ℕ, zero, suc, ◌==◌, Bool, true, false, not, ◌||◌, ◌&&◌, List, [], ◌∷◌, ◌++◌, Option, Some, None, refl, sym, ap, ◌∙◌, arith, append-nil, length, map, bytes_eq, if◌then◌else◌}
use Rattle.std.proofs.lemmas.Bool.{eqb-true, false≢true}
use Rattle.std.proofs.lemmas.List.Elements.{filter-append}
use Rattle.std.specs.Prelude.{is_none}
use Rattle.ned_trees.specs.declared.connections.ConnectionItem.{ConnectionItem}
use Rattle.ned_trees.specs.declared.declarations.GateLine.{GateLine}
use Rattle.ned_trees.specs.declared.declarations.SectionLine.{SectionLine}
use Rattle.ned_trees.specs.declared.declarations.Submodule.{Submodule}
use Rattle.ned_trees.specs.declared.declarations.TypeDeclaration.{TypeDeclaration}
use Rattle.ned_types.specs.Channels.{root_lines}
use Rattle.ned_types.specs.Types.{is_interface_kind, is_type_named, type_named}
use Rattle.ned_inheritance.specs.Inheritance.{all_behind, behind_all, gathered, joined_behind, once_behind, reached, with_members, without_interfaces}
use Rattle.ned_inheritance.specs.Named.{has_kept, is_bare, kept, kept_behind}
use Rattle.ned_inheritance.proofs.WellFormedLaws.{same_names}

-- ---- names that are kept

named_kept : (types : List TypeDeclaration) (name : List ℕ) (ts : List TypeDeclaration) → is_type_named name (kept types ts) ≡ (has_kept (type_named name types) && is_type_named name ts)
named_kept types name [] = none (has_kept (type_named name types))
  where
    none : (k : Bool) → false ≡ (k && false)
    none true = refl
    none false = refl
named_kept types name (u ∷ us) = by (has_kept (type_named u.name types)) refl (bytes_eq u.name name) refl (named_kept types name us)
  where
    same : bytes_eq u.name name ≡ true → has_kept (type_named name types) ≡ has_kept (type_named u.name types)
    same e = sym (ap (λ (n : List ℕ). has_kept (type_named n types)) (same_names u.name name e))

    by : (b : Bool) → has_kept (type_named u.name types) ≡ b → (e : Bool) → bytes_eq u.name name ≡ e → is_type_named name (kept types us) ≡ (has_kept (type_named name types) && is_type_named name us)
        → is_type_named name (if b then u ∷ kept types us else kept types us) ≡ (has_kept (type_named name types) && (e || is_type_named name us))
    by true p true q later = ap (λ c. c || is_type_named name (kept types us)) q ∙ sym (ap (λ k. k && true) (same q ∙ p))
    by true p false q later = ap (λ c. c || is_type_named name (kept types us)) q ∙ later
    by false p true q later = later ∙ ap (λ k. k && is_type_named name us) (same q ∙ p) ∙ sym (ap (λ k. k && true) (same q ∙ p))
    by false p false q later = later

kept_added : (types line : List TypeDeclaration) (t : TypeDeclaration) (b : Bool) → has_kept (type_named t.name types) ≡ b → kept types (once_behind line t) ≡ (if b then once_behind (kept types line) t else kept types line)
kept_added types line t b p = by b p (is_type_named t.name line) refl
  where
    one : kept types (line ++ t ∷ []) ≡ kept types line ++ (if has_kept (type_named t.name types) then t ∷ [] else [])
    one = filter-append (λ (u : TypeDeclaration). has_kept (type_named u.name types)) line (t ∷ [])

    there : (b c : Bool) → has_kept (type_named t.name types) ≡ b → is_type_named t.name line ≡ c → is_type_named t.name (kept types line) ≡ (b && c)
    there b c p q = named_kept types t.name line ∙ ap (λ k. k && is_type_named t.name line) p ∙ ap (λ k. b && k) q

    by : (b : Bool) → has_kept (type_named t.name types) ≡ b → (c : Bool) → is_type_named t.name line ≡ c → kept types (if c then line else line ++ t ∷ []) ≡ (if b then once_behind (kept types line) t else kept types line)
    by true p true q = sym (ap (λ c. if c then kept types line else kept types line ++ t ∷ []) (there true true p q))
    by true p false q = one ∙ ap (λ k. kept types line ++ (if k then t ∷ [] else [])) p ∙ sym (ap (λ c. if c then kept types line else kept types line ++ t ∷ []) (there true false p q))
    by false p true q = refl
    by false p false q = one ∙ ap (λ k. kept types line ++ (if k then t ∷ [] else [])) p ∙ append-nil (kept types line)

pub kept_once : (types line : List TypeDeclaration) (t : TypeDeclaration) → type_named t.name types ≡ Some t → kept types (once_behind line t) ≡ kept_behind (kept types line) t
kept_once types line t is = kept_added types line t (not (is_bare t)) (ap has_kept is) ∙ turned (is_bare t)
  where
    turned : (b : Bool) → (if not b then once_behind (kept types line) t else kept types line) ≡ (if b then kept types line else once_behind (kept types line) t)
    turned true = refl
    turned false = refl

kept_all : (types line ts : List TypeDeclaration) → kept types (all_behind line ts) ≡ all_behind (kept types line) (kept types ts)
kept_all types line [] = refl
kept_all types line (t ∷ ts) = kept_all types (once_behind line t) ts ∙ by (has_kept (type_named t.name types)) (kept_added types line t (has_kept (type_named t.name types)) refl)
  where
    by : (b : Bool) → kept types (once_behind line t) ≡ (if b then once_behind (kept types line) t else kept types line) → all_behind (kept types (once_behind line t)) (kept types ts) ≡ all_behind (kept types line) (if b then t ∷ kept types ts else kept types ts)
    by true e = ap (λ l. all_behind l (kept types ts)) e
    by false e = ap (λ l. all_behind l (kept types ts)) e

pub kept_joined : (types : List TypeDeclaration) (f : List ℕ → List TypeDeclaration) (line : List TypeDeclaration) (names : List (List ℕ)) → kept types (joined_behind line (map f names)) ≡ joined_behind (kept types line) (map (λ n. kept types (f n)) names)
kept_joined types f line [] = refl
kept_joined types f line (name ∷ names) = kept_joined types f (all_behind line (f name)) names ∙ ap (λ l. joined_behind l (map (λ n. kept types (f n)) names)) (kept_all types line (f name))

-- ---- types that are found by their names

abbrev pub AreFound : List TypeDeclaration → List TypeDeclaration → Type 0
AreFound types [] = Unit {0}
AreFound types (t ∷ ts) = (type_named t.name types ≡ Some t) × AreFound types ts

found_more : (types line : List TypeDeclaration) (t : TypeDeclaration) → AreFound types line → type_named t.name types ≡ Some t → AreFound types (line ++ t ∷ [])
found_more types [] t h is = (is, tt)
found_more types (u ∷ us) t h is = (h.0, found_more types us t h.1 is)

found_once : (types line : List TypeDeclaration) (t : TypeDeclaration) → AreFound types line → type_named t.name types ≡ Some t → AreFound types (once_behind line t)
found_once types line t h is = by (is_type_named t.name line)
  where
    by : (b : Bool) → AreFound types (if b then line else line ++ t ∷ [])
    by true = h
    by false = found_more types line t h is

found_all : (types line ts : List TypeDeclaration) → AreFound types line → AreFound types ts → AreFound types (all_behind line ts)
found_all types line [] h more = h
found_all types line (t ∷ ts) h more = found_all types (once_behind line t) ts (found_once types line t h more.0) more.1

pub found_joined : (types : List TypeDeclaration) (f : List ℕ → List TypeDeclaration) → ((n : List ℕ) → AreFound types (f n)) → (line : List TypeDeclaration) → AreFound types line → (names : List (List ℕ)) → AreFound types (joined_behind line (map f names))
found_joined types f each line h [] = h
found_joined types f each line h (name ∷ names) = found_joined types f each (all_behind line (f name)) (found_all types line (f name) h (each name)) names

abbrev name_or : List ℕ → Option TypeDeclaration → List ℕ
name_or d None = d
name_or d (Some x) = x.name

found_name : (types : List TypeDeclaration) (name : List ℕ) (t : TypeDeclaration) → type_named name types ≡ Some t → t.name ≡ name
found_name [] name t e = absurd (none_some e)
  where
    none_some : None ≡ Some t → ⊥
    none_some q = false≢true (sym (ap is_none q))
found_name (u ∷ us) name t e = by (bytes_eq u.name name) refl e (found_name us name t)
  where
    by : (b : Bool) → bytes_eq u.name name ≡ b → (if b then Some u else type_named name us) ≡ Some t → (type_named name us ≡ Some t → t.name ≡ name) → t.name ≡ name
    by true p q later = ap (name_or name) (sym q) ∙ same_names u.name name p
    by false p q later = later q

pub found_reached : (types : List TypeDeclaration) (n : ℕ) (name : List ℕ) → AreFound types (reached n types name)
found_reached types zero name = tt
found_reached types (suc n) name = by (type_named name types) refl (λ m. found_reached types n m)
  where
    line : (t : TypeDeclaration) → type_named name types ≡ Some t → ((m : List ℕ) → AreFound types (reached n types m)) → (k : Bool) → AreFound types (if k then once_behind (joined_behind [] (map (λ m. reached n types m) t.interfaces)) t else [])
    line t e each true = found_once types (joined_behind [] (map (λ m. reached n types m) t.interfaces)) t (found_joined types (λ m. reached n types m) each [] tt t.interfaces) (ap (λ (m : List ℕ). type_named m types) (found_name types name t e) ∙ e)
    line t e each false = tt

    by : (o : Option TypeDeclaration) → type_named name types ≡ o → ((m : List ℕ) → AreFound types (reached n types m)) → AreFound types (behind_all (λ m. reached n types m) o)
    by None e each = tt
    by (Some t) e each = line t e each (is_interface_kind t.kind)

-- ---- what is gathered

same_gathered : (x y : TypeDeclaration) (ts : List TypeDeclaration) → without_interfaces x ≡ without_interfaces y → without_interfaces (gathered x ts) ≡ without_interfaces (gathered y ts)
same_gathered x y [] e = e
same_gathered x y (t ∷ ts) e = same_gathered (with_members x t) (with_members y t) ts (ap (λ (z : TypeDeclaration). without_interfaces (with_members z t)) e)

and_first : (a b : Bool) → (a && b) ≡ true → a ≡ true
and_first true b e = refl
and_first false b e = absurd (false≢true e)

and_second : (a b : Bool) → (a && b) ≡ true → b ≡ true
and_second true b e = e
and_second false b e = absurd (false≢true e)

none_of : {X : Type 0} (xs : List X) → (length xs == 0) ≡ true → xs ≡ []
none_of [] e = refl
none_of (x ∷ xs) e = let n = eqb-true (length (x ∷ xs)) 0 e in absurd (omega (arith, n))

no_base : (b : Option (List ℕ)) → is_none b ≡ true → root_lines b ≡ []
no_base None e = refl
no_base (Some n) e = absurd (false≢true e)

is_not : (a : Bool) → not a ≡ true → a ≡ false
is_not true e = absurd (false≢true e)
is_not false e = refl

or_none : (a b : Bool) → b ≡ false → (a || b) ≡ a
or_none true b e = refl
or_none false b e = e

nothing_behind : {X : Type 0} (xs ys : List X) → ys ≡ [] → xs ++ ys ≡ xs
nothing_behind xs ys e = ap (λ zs. xs ++ zs) e ∙ append-nil xs

abbrev made : TypeDeclaration → List SectionLine → List GateLine → List Submodule → Bool → List ConnectionItem → TypeDeclaration
made x lines gates submodules allow items = record {
  kind = x.kind;
  name = x.name;
  base = x.base;
  interfaces = [];
  lines = lines;
  gates = gates;
  submodules = submodules;
  connections = record { allow_unconnected = allow; items = items };
}

with_bare : (x t : TypeDeclaration) → is_bare t ≡ true → without_interfaces (with_members x t) ≡ without_interfaces x
with_bare x t e =
    let after-base = and_second (is_none t.base) _ e in
    let after-lines = and_second (length t.lines == 0) _ after-base in
    let after-gates = and_second (length t.gates == 0) _ after-lines in
    let after-submodules = and_second (length t.submodules == 0) _ after-gates in
    let lines : (x.lines ++ root_lines t.base) ++ t.lines ≡ x.lines =
    nothing_behind (x.lines ++ root_lines t.base) t.lines (none_of t.lines (and_first (length t.lines == 0) _ after-base)) ∙ nothing_behind x.lines (root_lines t.base) (no_base t.base (and_first (is_none t.base) _ e)) in
    let gates : x.gates ++ t.gates ≡ x.gates = nothing_behind x.gates t.gates (none_of t.gates (and_first (length t.gates == 0) _ after-lines)) in
    let submodules : x.submodules ++ t.submodules ≡ x.submodules = nothing_behind x.submodules t.submodules (none_of t.submodules (and_first (length t.submodules == 0) _ after-gates)) in
    let items : x.connections.items ++ t.connections.items ≡ x.connections.items = nothing_behind x.connections.items t.connections.items (none_of t.connections.items (and_first (length t.connections.items == 0) _ after-submodules)) in
    let allow : (x.connections.allow_unconnected || t.connections.allow_unconnected) ≡ x.connections.allow_unconnected =
    or_none x.connections.allow_unconnected t.connections.allow_unconnected (is_not t.connections.allow_unconnected (and_second (length t.connections.items == 0) _ after-submodules)) in
    ap (λ ls. made x ls (x.gates ++ t.gates) (x.submodules ++ t.submodules) (x.connections.allow_unconnected || t.connections.allow_unconnected) (x.connections.items ++ t.connections.items)) lines
    ∙ ap (λ gs. made x x.lines gs (x.submodules ++ t.submodules) (x.connections.allow_unconnected || t.connections.allow_unconnected) (x.connections.items ++ t.connections.items)) gates
    ∙ ap (λ ss. made x x.lines x.gates ss (x.connections.allow_unconnected || t.connections.allow_unconnected) (x.connections.items ++ t.connections.items)) submodules
    ∙ ap (λ a. made x x.lines x.gates x.submodules a (x.connections.items ++ t.connections.items)) allow
    ∙ ap (λ is. made x x.lines x.gates x.submodules x.connections.allow_unconnected is) items

pub kept_gathered : (types : List TypeDeclaration) (flat : TypeDeclaration) (ts : List TypeDeclaration) → AreFound types ts → without_interfaces (gathered flat (kept types ts)) ≡ without_interfaces (gathered flat ts)
kept_gathered types flat [] h = refl
kept_gathered types flat (t ∷ ts) h = by (is_bare t) refl (ap has_kept h.0) (λ x. kept_gathered types x ts h.1)
  where
    by : (b : Bool) → is_bare t ≡ b → has_kept (type_named t.name types) ≡ not b → ((x : TypeDeclaration) → without_interfaces (gathered x (kept types ts)) ≡ without_interfaces (gathered x ts))
        → without_interfaces (gathered flat (kept types (t ∷ ts))) ≡ without_interfaces (gathered (with_members flat t) ts)
    by true e q later =
        ap (λ k. without_interfaces (gathered flat (if k then t ∷ kept types ts else kept types ts))) q
        ∙ later flat
        ∙ same_gathered flat (with_members flat t) ts (sym (with_bare flat t e))
    by false e q later =
        ap (λ k. without_interfaces (gathered flat (if k then t ∷ kept types ts else kept types ts))) q
        ∙ later (with_members flat t)
