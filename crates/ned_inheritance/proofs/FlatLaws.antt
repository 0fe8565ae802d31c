-- Flat types, made from those of their bases.
use Rattle.std.proofs.Common.{◌≡◌, inl, inr, length-set, ℕ, zero, suc, ◌≤◌, ◌<◌, ◌-◌, Bool, true, false, ◌||◌, ◌&&◌, List, [], ◌∷◌, ◌++◌, Option, Some, None, Result, Ok, Err, IfOk, is_some, unwrap_or, refl, sym, subst, ap, ◌∙◌, arith, append_assoc, append-nil, length, map, drop, take, slice_index_or, slice_set, bytes_eq, Bor, if◌then◌else◌}
use Rattle.std.proofs.lemmas.Bool.{false≢true}
use Rattle.std.specs.List.{list_any}
use Rattle.std.specs.Map.{lookup}
use Rattle.indexmap.specs.IndexMap.{insert_entry}
use Rattle.ned_trees.specs.declared.connections.ConnectionItem.{ConnectionItem}
use Rattle.ned_trees.specs.declared.connections.ConnectionSection.{ConnectionSection}
use Rattle.ned_trees.specs.declared.declarations.GateLine.{GateLine}
use Rattle.ned_trees.specs.declared.declarations.SectionLine.{SectionLine}
use Rattle.ned_trees.specs.declared.declarations.Submodule.{Submodule}
use Rattle.ned_trees.specs.declared.declarations.TypeDeclaration.{TypeDeclaration}
use Rattle.ned_trees.specs.declared.declarations.TypeKind.{TypeKind}
use Rattle.ned_trees.specs.declared.declarations.TypeKind.TheVariants.{Simple, Module, Network, Channel, ModuleInterface, ChannelInterface}
use Rattle.ned_types.specs.Channels.{root_lines}
use Rattle.ned_types.specs.Flat.{class_in, class_of, named_or, or_else}
use Rattle.ned_types.specs.Types.{has_duplicate, has_inner_network, is_built_in, is_channel_kind, is_interface_kind, is_simple_kind, is_type_named, type_named}
use Rattle.ned_types.specs.WellFormed.{IsAmong}
use Rattle.ned_inheritance.specs.Inheritance.{bare_derived_type, base_of, can_extend, class_along, class_lines, extends_other, flat_as, flat_by, flat_type, has_other_base, derived_type, is_base, is_channel_of, joined_connections, joined_with, line_of, line_within, no_connections, with_members}
use Rattle.ned_inheritance.specs.Flats.{bare_derived_with, base_at, changed_at, changed_behind, changed_by_base, flat_at, found_at, derived_by, derived_over, own_lines, with_changed, with_inherited, AddsChanged, AddsFlat, AreChanged, FlatEntries, FlatsAlong, HaveFlats, TakesFlat}
use Rattle.ned_inheritance.specs.Named.{flat_by_lines, is_other_named, HaveLines, IsBehind, StandBehind}
use Rattle.ned_inheritance.specs.Interfaces.{keeps_other}
use Rattle.ned_inheritance.specs.Places.{other_in, place_from}
use Rattle.ned_inheritance.specs.Order.{IsOrder}
use Rattle.ned_inheritance.proofs.LineLaws.{behind_among, behind_front, flat_same, named_among, named_joined, neither_first, neither_second, or_either, or_turned, order_length, stand_within, LineEntry}
use Rattle.ned_inheritance.proofs.OrderLaws.{first_and_rest}
use Rattle.ned_inheritance.proofs.PlaceLaws.{other_told}
use Rattle.ned_inheritance.proofs.NamedLaws.{turned}
use Rattle.ned_inheritance.proofs.WellFormedLaws.{any_found, any_told, names_same, not_false, same_names, type_is, types_apart, types_own}

-- ---- members

-- a type with the members of another one after its own, as these are
abbrev pub appended : TypeDeclaration → TypeDeclaration → TypeDeclaration
appended flat x = record {
  kind = flat.kind;
  name = flat.name;
  base = flat.base;
  interfaces = flat.interfaces ++ x.interfaces;
  lines = flat.lines ++ x.lines;
  gates = flat.gates ++ x.gates;
  submodules = flat.submodules ++ x.submodules;
  connections = joined_connections flat.connections x.connections;
}

abbrev made : TypeKind → List ℕ → Option (List ℕ) → List (List ℕ) → List SectionLine → List GateLine → List Submodule → ConnectionSection → TypeDeclaration
made k n b i l g s c = record { kind = k; name = n; base = b; interfaces = i; lines = l; gates = g; submodules = s; connections = c }

abbrev joined : Bool → List ConnectionItem → ConnectionSection
joined a i = record { allow_unconnected = a; items = i }

-- what is equal in all its members is equal
alike : (t u : TypeDeclaration) → t.kind ≡ u.kind → t.name ≡ u.name → t.base ≡ u.base → t.interfaces ≡ u.interfaces → t.lines ≡ u.lines → t.gates ≡ u.gates → t.submodules ≡ u.submodules → t.connections ≡ u.connections → t ≡ u
alike t u k n b i l g s c =
    ap (λ x. made x t.name t.base t.interfaces t.lines t.gates t.submodules t.connections) k
    ∙ ap (λ x. made u.kind x t.base t.interfaces t.lines t.gates t.submodules t.connections) n
    ∙ ap (λ x. made u.kind u.name x t.interfaces t.lines t.gates t.submodules t.connections) b
    ∙ ap (λ x. made u.kind u.name u.base x t.lines t.gates t.submodules t.connections) i
    ∙ ap (λ x. made u.kind u.name u.base u.interfaces x t.gates t.submodules t.connections) l
    ∙ ap (λ x. made u.kind u.name u.base u.interfaces u.lines x t.submodules t.connections) g
    ∙ ap (λ x. made u.kind u.name u.base u.interfaces u.lines u.gates x t.connections) s
    ∙ ap (λ x. made u.kind u.name u.base u.interfaces u.lines u.gates u.submodules x) c

alike_connections : (c d : ConnectionSection) → c.allow_unconnected ≡ d.allow_unconnected → c.items ≡ d.items → c ≡ d
alike_connections c d a i = ap (λ x. joined x c.items) a ∙ ap (λ x. joined d.allow_unconnected x) i

or_grouped : (a b c : Bool) → ((a || b) || c) ≡ (a || (b || c))
or_grouped true b c = refl
or_grouped false b c = refl

or_none : (a : Bool) → (a || false) ≡ a
or_none true = refl
or_none false = refl

abbrev Empty : TypeDeclaration → Type 0
Empty u = (u.interfaces ≡ []) × (u.lines ≡ []) × (u.gates ≡ []) × (u.submodules ≡ []) × (u.connections ≡ no_connections)

-- types with the members of the same types differ in front alone
pub joined_front : (flat u : TypeDeclaration) (ts : List TypeDeclaration) → Empty u → joined_with flat ts ≡ appended flat (joined_with u ts)
joined_front flat u [] e =
    alike flat (appended flat u) refl refl refl
    (sym (ap (λ xs. flat.interfaces ++ xs) e.0 ∙ append-nil flat.interfaces))
    (sym (ap (λ xs. flat.lines ++ xs) e.1 ∙ append-nil flat.lines))
    (sym (ap (λ xs. flat.gates ++ xs) e.2 ∙ append-nil flat.gates))
    (sym (ap (λ xs. flat.submodules ++ xs) e.3 ∙ append-nil flat.submodules))
    (alike_connections flat.connections (joined_connections flat.connections u.connections)
    (sym (ap (λ (c : ConnectionSection). flat.connections.allow_unconnected || c.allow_unconnected) e.4 ∙ or_none flat.connections.allow_unconnected))
    (sym (ap (λ (c : ConnectionSection). flat.connections.items ++ c.items) e.4 ∙ append-nil flat.connections.items)))
joined_front flat u (t ∷ ts) e =
    let j = joined_with u ts in
    ap (λ (x : TypeDeclaration). with_members x t) (joined_front flat u ts e)
    ∙ alike (with_members (appended flat j) t) (appended flat (with_members j t)) refl refl refl
    (append_assoc flat.interfaces j.interfaces t.interfaces)
    (ap (λ xs. xs ++ t.lines) (append_assoc flat.lines j.lines (root_lines t.base)) ∙ append_assoc flat.lines (j.lines ++ root_lines t.base) t.lines)
    (append_assoc flat.gates j.gates t.gates)
    (append_assoc flat.submodules j.submodules t.submodules)
    (alike_connections (joined_connections (joined_connections flat.connections j.connections) t.connections) (joined_connections flat.connections (joined_connections j.connections t.connections))
    (or_grouped flat.connections.allow_unconnected j.connections.allow_unconnected t.connections.allow_unconnected)
    (append_assoc flat.connections.items j.connections.items t.connections.items))

-- a type with the members of a base and of all that this extends has those of the flat type of the
-- base
inherited_derived : (x b u : TypeDeclaration) (class : List ℕ) (name : List ℕ) (ts : List TypeDeclaration) → Empty u → b.base ≡ Some name → joined_with x ts ≡ with_inherited x (joined_with (bare_derived_with class b) ts)
inherited_derived x b u class name ts e based =
    joined_front x u ts e
    ∙ sym (ap (with_inherited x) (joined_front (bare_derived_with class b) u ts e)
    ∙ alike (with_inherited x (appended (bare_derived_with class b) j)) (appended x j) refl refl refl refl
    (ap (λ xs. x.lines ++ xs) lines)
    refl refl
    (alike_connections (joined_connections x.connections (joined_connections no_connections j.connections)) (joined_connections x.connections j.connections) refl refl))
  where
    j : TypeDeclaration
    j = joined_with u ts

    lines : own_lines (appended (bare_derived_with class b) j) ≡ j.lines
    lines = by (is_simple_kind b.kind) refl
      where
        by : (s : Bool) → is_simple_kind b.kind ≡ s → (if is_simple_kind b.kind && is_some b.base then drop 1 (class_lines (is_simple_kind b.kind) class ++ j.lines) else (class_lines (is_simple_kind b.kind) class ++ j.lines)) ≡ j.lines
        by true s = rw (s, based) refl
        by false s = rw s refl

inherited_root : (x b : TypeDeclaration) → b.base ≡ None → with_members x b ≡ with_inherited x b
inherited_root x b root =
    alike (with_members x b) (with_inherited x b) refl refl refl refl
    (ap (λ o. (x.lines ++ root_lines o) ++ b.lines) root ∙ ap (λ xs. xs ++ b.lines) (append-nil x.lines) ∙ sym (ap (λ xs. x.lines ++ xs) own))
    refl refl refl
  where
    own : own_lines b ≡ b.lines
    own = by (is_simple_kind b.kind) refl
      where
        by : (s : Bool) → is_simple_kind b.kind ≡ s → (if is_simple_kind b.kind && is_some b.base then drop 1 b.lines else b.lines) ≡ b.lines
        by true s = rw (s, root) refl
        by false s = rw s refl

-- ---- classes

bare_same : (t : TypeDeclaration) (c d : List ℕ) → (is_simple_kind t.kind ≡ true → c ≡ d) → bare_derived_with c t ≡ bare_derived_with d t
bare_same t c d h =
    alike (bare_derived_with c t) (bare_derived_with d t) refl refl refl refl (by (is_simple_kind t.kind) refl) refl refl refl
  where
    by : (s : Bool) → is_simple_kind t.kind ≡ s → class_lines (is_simple_kind t.kind) c ≡ class_lines (is_simple_kind t.kind) d
    by true s = ap (class_lines (is_simple_kind t.kind)) (h s)
    by false s = ap (λ b. class_lines b c) s ∙ sym (ap (λ b. class_lines b d) s)

-- the class of the flat type of a simple type that extends another
derived_class : (b u : TypeDeclaration) (class : List ℕ) (ts : List TypeDeclaration) → Empty u → is_simple_kind b.kind ≡ true → class_of (joined_with (bare_derived_with class b) ts) ≡ class
derived_class b u class ts e simple =
    ap class_of (joined_front (bare_derived_with class b) u ts e)
    ∙ ap (λ s. named_or (class_in (class_lines s class ++ (joined_with u ts).lines)) b.name) simple

-- ---- kinds

simple_plain : (o : TypeKind) → is_simple_kind o ≡ true → is_interface_kind o ≡ false
simple_plain Simple h = refl
simple_plain Module h = refl
simple_plain Network h = refl
simple_plain Channel h = refl
simple_plain ModuleInterface h = absurd (false≢true h)
simple_plain ChannelInterface h = absurd (false≢true h)

compound_plain : (o : TypeKind) → can_extend Module o ≡ true → is_interface_kind o ≡ false
compound_plain Simple h = refl
compound_plain Module h = refl
compound_plain Network h = refl
compound_plain Channel h = refl
compound_plain ModuleInterface h = absurd (false≢true h)
compound_plain ChannelInterface h = absurd (false≢true h)

channel_plain : (o : TypeKind) → is_channel_kind o ≡ true → is_interface_kind o ≡ false
channel_plain Simple h = refl
channel_plain Module h = refl
channel_plain Network h = refl
channel_plain Channel h = refl
channel_plain ModuleInterface h = absurd (false≢true h)
channel_plain ChannelInterface h = absurd (false≢true h)

-- what is extended is no interface
extended_plain : (k o : TypeKind) → can_extend k o ≡ true → is_interface_kind o ≡ false
extended_plain Simple o h = simple_plain o h
extended_plain Module o h = compound_plain o h
extended_plain Network o h = compound_plain o h
extended_plain Channel o h = channel_plain o h
extended_plain ModuleInterface o h = absurd (false≢true h)
extended_plain ChannelInterface o h = absurd (false≢true h)

extended_simple : (k o : TypeKind) → can_extend k o ≡ true → is_simple_kind k ≡ true → is_simple_kind o ≡ true
extended_simple Simple o h s = h
extended_simple Module o h s = absurd (false≢true s)
extended_simple Network o h s = absurd (false≢true s)
extended_simple Channel o h s = absurd (false≢true s)
extended_simple ModuleInterface o h s = absurd (false≢true s)
extended_simple ChannelInterface o h s = absurd (false≢true s)

-- ---- a type over its base

abbrev nobody : TypeDeclaration
nobody = record { kind = Module; name = []; base = None; interfaces = []; lines = []; gates = []; submodules = []; connections = no_connections }

nobody_empty : Empty nobody
nobody_empty = (refl, refl, refl, refl, refl)

-- where these are the base and what it extends
over_base : (types : List TypeDeclaration) (x t b : TypeDeclaration) (more : List TypeDeclaration) → line_of types t ≡ t ∷ b ∷ more → line_of types b ≡ b ∷ more → (b.base ≡ None → more ≡ []) → can_extend t.kind b.kind ≡ true
    → derived_over (flat_by types b b.base) t ≡ derived_type types t
over_base types x t b more line-t line-b root fits = go b.base refl
  where
    class : List ℕ
    class = named_or (class_in t.lines) (class_along (b ∷ more))

    whole : derived_type types t ≡ with_members (joined_with (bare_derived_with class t) (b ∷ more)) t
    whole = ap (λ ts. joined_with (bare_derived_type ts t) ts) line-t

    over : (fb : TypeDeclaration) → (is_simple_kind b.kind ≡ true → class_of fb ≡ class_along (b ∷ more)) → joined_with (bare_derived_with class t) (b ∷ more) ≡ with_inherited (bare_derived_with class t) fb → derived_over fb t ≡ derived_type types t
    over fb classes members =
        ap (λ (y : TypeDeclaration). with_members (with_inherited y fb) t) (bare_same t (named_or (class_in t.lines) (class_of fb)) class (λ s. ap (named_or (class_in t.lines)) (classes (extended_simple t.kind b.kind fits s))))
        ∙ ap (λ (y : TypeDeclaration). with_members y t) (sym members)
        ∙ sym whole

    go : (base : Option (List ℕ)) → b.base ≡ base → derived_over (flat_by types b base) t ≡ derived_type types t
    go None e =
        let none = root e in
        over b
        (λ s. sym (ap (λ ts. class_along (b ∷ ts)) none))
        (ap (λ ts. joined_with (bare_derived_with class t) (b ∷ ts)) none ∙ inherited_root (bare_derived_with class t) b e)
    go (Some name) e =
        let flat : derived_type types b ≡ joined_with (bare_derived_with (class_along (b ∷ more)) b) (b ∷ more) = ap (λ ts. joined_with (bare_derived_type ts b) ts) line-b in
        over (derived_type types b)
        (λ s. ap class_of flat ∙ derived_class b nobody (class_along (b ∷ more)) (b ∷ more) nobody_empty s)
        (inherited_derived (bare_derived_with class t) b nobody (class_along (b ∷ more)) name (b ∷ more) nobody_empty e ∙ sym (ap (with_inherited (bare_derived_with class t)) flat))

-- ---- the types that extend others in turn

found_named : (types : List TypeDeclaration) (name : List ℕ) (u : TypeDeclaration) → type_named name types ≡ Some u → IsAmong u types × (u.name ≡ name)
found_named [] name u e = absurd cc
found_named (t ∷ ts) name u e = by (bytes_eq t.name name) refl e (found_named ts name u)
  where
    by : (b : Bool) → bytes_eq t.name name ≡ b → (if b then Some t else type_named name ts) ≡ Some u → (type_named name ts ≡ Some u → IsAmong u ts × (u.name ≡ name)) → IsAmong u (t ∷ ts) × (u.name ≡ name)
    by true p q later = let same : t ≡ u = cc in (inl (sym same), sym (ap (λ (x : TypeDeclaration). x.name) same) ∙ same_names t.name name p)
    by false p q later = let found = later q in (inr found.0, found.1)

same_type : (types : List TypeDeclaration) (t b : TypeDeclaration) → has_duplicate types ≡ false → IsAmong t types → IsAmong b types → bytes_eq t.name b.name ≡ true → t ≡ b
same_type types t b apart is-t is-b e =
    let found : Some t ≡ Some b = sym (type_is types t (types_apart types apart) is-t) ∙ ap (λ (n : List ℕ). type_named n types) (same_names t.name b.name e) ∙ type_is types b (types_apart types apart) is-b in
    cc

abbrev pub Stable : List TypeDeclaration → List TypeDeclaration → Type 0
Stable types seen = (b : TypeDeclaration) → IsAmong b types → is_type_named b.name seen ≡ true → (n m : ℕ) → length seen ≤ n → length seen ≤ m → line_within n types (Some b) ≡ line_within m types (Some b)

one_longer : (xs : List TypeDeclaration) (t : TypeDeclaration) → length (xs ++ t ∷ []) ≡ suc (length xs)
one_longer [] t = refl
one_longer (x ∷ xs) t = ap suc (one_longer xs t)

none_within : (n : ℕ) (types : List TypeDeclaration) → line_within n types None ≡ []
none_within zero types = refl
none_within (suc n) types = refl

stable_more : (types seen : List TypeDeclaration) (t : TypeDeclaration) → has_duplicate types ≡ false → Stable types seen → IsBehind types seen t → Stable types (seen ++ t ∷ [])
stable_more types seen t apart stable behind b is there n m l k = by (bytes_eq t.name b.name) refl
  where
    long : length (seen ++ t ∷ []) ≡ suc (length seen)
    long = one_longer seen t

    next : (n m : ℕ) → length seen ≤ n → length seen ≤ m → (o : Option TypeDeclaration) → base_of types t.base ≡ o → line_within n types o ≡ line_within m types o
    next n m l k None e = none_within n types ∙ sym (none_within m types)
    next n m l k (Some u) e = named t.base refl e
      where
        named : (base : Option (List ℕ)) → t.base ≡ base → base_of types base ≡ Some u → line_within n types (Some u) ≡ line_within m types (Some u)
        named None p q = absurd cc
        named (Some name) p q =
            let found = found_named types name u q in
            let known = named_among types u name found.0 (names_same u.name name found.1) in
            stable u found.0 (ap (λ (x : List ℕ). is_type_named x seen) found.1 ∙ behind.2 name p known) n m l k

    own : (n m : ℕ) → suc (length seen) ≤ n → suc (length seen) ≤ m → line_within n types (Some t) ≡ line_within m types (Some t)
    own zero m l k = absurd (omega (arith, l))
    own (suc n) zero l k = absurd (omega (arith, k))
    own (suc n) (suc m) l k = ap (λ ts. t ∷ ts) (next n m (omega (arith, l)) (omega (arith, k)) (base_of types t.base) refl)

    by : (c : Bool) → bytes_eq t.name b.name ≡ c → line_within n types (Some b) ≡ line_within m types (Some b)
    by true e =
        subst (λ (x : TypeDeclaration). line_within n types (Some x) ≡ line_within m types (Some x)) (same_type types t b apart behind.0 is e)
        (own n m (omega (arith, l, long)) (omega (arith, k, long)))
    by false e =
        let old : (is_type_named b.name seen || (bytes_eq t.name b.name || false)) ≡ true = sym (named_joined b.name seen (t ∷ [])) ∙ there in
        let in-seen : is_type_named b.name seen ≡ true = or_either (bytes_eq t.name b.name || false) (is_type_named b.name seen) (or_turned (is_type_named b.name seen) (bytes_eq t.name b.name || false) old) (ap (λ c. c || false) e) in
        stable b is in-seen n m (omega (arith, l, long)) (omega (arith, k, long))

stable_all : (types seen order : List TypeDeclaration) → has_duplicate types ≡ false → Stable types seen → StandBehind types seen order → Stable types (seen ++ order)
stable_all types seen [] apart stable h = subst (Stable types) (sym (append-nil seen)) stable
stable_all types seen (t ∷ ts) apart stable h = subst (Stable types) (append_assoc seen (t ∷ []) ts) (stable_all types (seen ++ t ∷ []) ts apart (stable_more types seen t apart stable h.0) h.1)

-- ---- one type more

-- a type extends no other kind
fits_base : (types : List TypeDeclaration) (t b : TypeDeclaration) (name : List ℕ) → has_duplicate types ≡ false → has_other_base types ≡ false → IsAmong t types → t.base ≡ Some name → type_named name types ≡ Some b → can_extend t.kind b.kind ≡ true
fits_base types t b name apart fit is based found =
    let other : extends_other types t.kind (Some name) ≡ false = sym (ap (extends_other types t.kind) based) ∙ any_told (λ u. extends_other types u.kind u.base) types fit t is in
    let both : (is_channel_of t.kind name || is_base t.kind (type_named name types)) ≡ true = not_false (is_channel_of t.kind name || is_base t.kind (type_named name types)) other in
    let where-b = found_named types name b found in
    let built : is_built_in name ≡ false = sym (ap is_built_in where-b.1) ∙ types_own types apart b where-b.0 in
    sym (ap (is_base t.kind) found) ∙ or_either (is_channel_of t.kind name) (is_base t.kind (type_named name types)) both (ap (λ c. is_channel_kind t.kind && c) built ∙ none (is_channel_kind t.kind))
  where
    none : (c : Bool) → (c && false) ≡ false
    none true = refl
    none false = refl

line_begun : (n : ℕ) (types : List TypeDeclaration) (t : TypeDeclaration) → 0 < n → (m : ℕ) × (n ≡ suc m) × (line_within n types (Some t) ≡ t ∷ line_within m types (base_of types t.base))
line_begun zero types t l = absurd (omega (arith, l))
line_begun (suc m) types t l = (m, refl, refl)

or_found : (o : Option TypeDeclaration) (b : TypeDeclaration) → or_else o (Some b) ≡ Some (unwrap_or o b)
or_found None b = refl
or_found (Some flat) b = refl

derived_step : (entries : FlatEntries) (types seen : List TypeDeclaration) (t : TypeDeclaration) (name : List ℕ) → has_duplicate types ≡ false → has_other_base types ≡ false → HaveFlats entries types seen → Stable types seen → length seen < length types → IsBehind types seen t
    → ((n : List ℕ) → is_type_named n seen ≡ true → is_type_named n types ≡ true) → t.base ≡ Some name → derived_by (base_at entries types name) t ≡ derived_type types t
derived_step entries types seen t name apart fit have stable short behind within based = go (type_named name types) refl
  where
    begun : (m : ℕ) × (length types ≡ suc m) × (line_of types t ≡ t ∷ line_within m types (base_of types t.base))
    begun = line_begun (length types) types t (omega (arith, short))

    next : line_of types t ≡ t ∷ line_within begun.0 types (type_named name types)
    next = begun.2 ∙ ap (λ o. t ∷ line_within begun.0 types (base_of types o)) based

    go : (o : Option TypeDeclaration) → type_named name types ≡ o → derived_by (base_at entries types name) t ≡ derived_type types t
    go None e =
        let alone : line_of types t ≡ t ∷ [] = next ∙ ap (λ o. t ∷ line_within begun.0 types o) e ∙ ap (λ ts. t ∷ ts) (none_within begun.0 types) in
        ap (λ o. derived_by (or_else o (type_named name types)) t) (have.1 name (unseen (is_type_named name seen) refl)) ∙ ap (λ o. derived_by o t) e ∙ sym (ap (λ ts. joined_with (bare_derived_type ts t) ts) alone)
      where
        unseen : (b : Bool) → is_type_named name seen ≡ b → b ≡ false
        unseen false p = refl
        unseen true p =
            let u = any_found (λ u. bytes_eq u.name name) types (within name p) in
            let some = ap (λ (x : List ℕ). type_named x types) (sym (same_names u.0.name name u.2)) ∙ type_is types u.0 (types_apart types apart) u.1 in
            absurd (clash u.0 (sym e ∙ some))
          where
            clash : (x : TypeDeclaration) → None ≡ Some x → ⊥
            clash x p = cc
    go (Some b) e =
        let found = found_named types name b e in
        let known = named_among types b name found.0 (names_same b.name name found.1) in
        let in-seen : is_type_named b.name seen ≡ true = ap (λ (x : List ℕ). is_type_named x seen) found.1 ∙ behind.2 name based known in
        let fits = fits_base types t b name apart fit behind.0 based e in
        let begun-b = line_begun (length types) types b (omega (arith, short)) in
        let more = line_within begun-b.0 types (base_of types b.base) in
        let shorter : line_within begun.0 types (Some b) ≡ line_of types b = stable b found.0 in-seen begun.0 (length types) (omega (arith, short, begun.1)) (omega (arith, short)) in
        let line-t : line_of types t ≡ t ∷ b ∷ more = next ∙ ap (λ o. t ∷ line_within begun.0 types o) e ∙ ap (λ ts. t ∷ ts) (shorter ∙ begun-b.2) in
        ap (λ o. derived_by (or_else (flat_at entries name) o) t) e
        ∙ ap (λ (n : List ℕ). derived_by (or_else (flat_at entries n) (Some b)) t) (sym found.1)
        ∙ ap (λ o. derived_by o t) (or_found (flat_at entries b.name) b)
        ∙ ap (λ (x : TypeDeclaration). derived_by (Some x) t) (have.0 b found.0 in-seen)
        ∙ ap (λ c. derived_over (flat_as c types b) t) (extended_plain t.kind b.kind fits)
        ∙ over_base types t t b more line-t begun-b.2 (λ root. ap (λ o. line_within begun-b.0 types (base_of types o)) root ∙ none_within begun-b.0 types) fits

-- the flat type of a type over those of what was seen
flat_step : (lines : List LineEntry) (entries : FlatEntries) (types seen : List TypeDeclaration) (t : TypeDeclaration) → has_duplicate types ≡ false → has_other_base types ≡ false → HaveLines lines types → HaveFlats entries types seen → Stable types seen → length seen < length types → IsBehind types seen t
    → ((n : List ℕ) → is_type_named n seen ≡ true → is_type_named n types ≡ true) → unwrap_or (changed_behind lines entries types t) t ≡ flat_type types t
flat_step lines entries types seen t apart fit fit-lines have stable short behind within = by (is_interface_kind t.kind) refl
  where
    plain : (base : Option (List ℕ)) → t.base ≡ base → unwrap_or (changed_by_base entries types t base) t ≡ flat_by types t base
    plain None e = refl
    plain (Some name) e = derived_step entries types seen t name apart fit have stable short behind within e

    by : (k : Bool) → is_interface_kind t.kind ≡ k → unwrap_or (changed_behind lines entries types t) t ≡ flat_type types t
    by true e =
        ap (λ k. unwrap_or (if k then Some (flat_by_lines lines t) else changed_by_base entries types t t.base) t) e
        ∙ flat_same lines types t fit-lines
        ∙ sym (ap (λ k. flat_as k types t) e)
    by false e =
        ap (λ k. unwrap_or (if k then Some (flat_by_lines lines t) else changed_by_base entries types t t.base) t) e
        ∙ plain t.base refl
        ∙ sym (ap (λ k. flat_as k types t) e)

-- ---- along an order

flat_inserted : (name : List ℕ) (k : Bor (List ℕ)) (flat : TypeDeclaration) (es : FlatEntries) → flat_at (insert_entry (λ (x y : Bor (List ℕ)). bytes_eq x.now y.now) es k flat) name ≡ (if bytes_eq k.now name then Some flat else flat_at es name)
flat_inserted name k flat [] = ap (λ b. if b then Some flat else None) (turned name k.now)
flat_inserted name k flat (e ∷ es) = by (bytes_eq k.now e.0.now) refl (bytes_eq name e.0.now) refl (flat_inserted name k flat es)
  where
    by : (b : Bool) → bytes_eq k.now e.0.now ≡ b → (c : Bool) → bytes_eq name e.0.now ≡ c
        → flat_at (insert_entry (λ (x y : Bor (List ℕ)). bytes_eq x.now y.now) es k flat) name ≡ (if bytes_eq k.now name then Some flat else flat_at es name)
        → flat_at (if b then (e.0, flat) ∷ es else e ∷ insert_entry (λ (x y : Bor (List ℕ)). bytes_eq x.now y.now) es k flat) name ≡ (if bytes_eq k.now name then Some flat else (if c then Some e.1 else lookup (λ (y : Bor (List ℕ)). bytes_eq name y.now) es))
    by true p true q later =
        let same : bytes_eq k.now name ≡ true = names_same k.now name (same_names k.now e.0.now p ∙ sym (same_names name e.0.now q)) in
        rw (q, same) refl
    by true p false q later =
        let other : bytes_eq k.now name ≡ false = ap (λ (m : List ℕ). bytes_eq m name) (same_names k.now e.0.now p) ∙ turned e.0.now name ∙ q in
        rw (q, other) refl
    by false p true q later =
        let other : bytes_eq k.now name ≡ false = ap (bytes_eq k.now) (same_names name e.0.now q) ∙ p in
        rw (q, other) refl
    by false p false q later = ap (λ b. if b then Some e.1 else lookup (λ (y : Bor (List ℕ)). bytes_eq name y.now) (insert_entry (λ (x y : Bor (List ℕ)). bytes_eq x.now y.now) es k flat)) q ∙ later

pub flat_added : (before after : FlatEntries) (k : Bor (List ℕ)) (flat : TypeDeclaration) (t : TypeDeclaration) → k.now ≡ t.name → after ≡ insert_entry (λ (x y : Bor (List ℕ)). bytes_eq x.now y.now) before k flat → AddsFlat before after t flat
flat_added before after k flat t named now = λ name.
    ap (λ (es : FlatEntries). flat_at es name) now
    ∙ flat_inserted name k flat before
    ∙ ap (λ (n : List ℕ). if bytes_eq n name then Some flat else flat_at before name) named

pub flats_none : (lines : List LineEntry) (entries : FlatEntries) (types : List TypeDeclaration) → entries ≡ [] → FlatsAlong lines entries types []
flats_none lines entries types e = λ apart fit fit-lines order. (λ t is there. absurd (false≢true there), λ name none. ap (λ (es : FlatEntries). flat_at es name) e)

pub flats_more : (lines : List LineEntry) (before after : FlatEntries) (types seen : List TypeDeclaration) (t : TypeDeclaration) → FlatsAlong lines before types seen → AddsChanged before after t (changed_behind lines before types t) → FlatsAlong lines after types (seen ++ t ∷ [])
flats_more lines before after types seen t along adds apart fit fit-lines order = go (changed_behind lines before types t) refl adds
  where
    parts : StandBehind types [] seen × IsBehind types seen t
    parts = behind_front types [] seen t order

    have : HaveFlats before types seen
    have = along apart fit fit-lines parts.0

    short : length seen < length types
    short = let all = order_length types [] (seen ++ t ∷ []) types order (behind_among types [] (seen ++ t ∷ []) order) in let long = one_longer seen t in omega (arith, all, long)

    stable : Stable types seen
    stable = stable_all types [] seen apart (λ b is there n m l k. absurd (false≢true there)) parts.0

    own : unwrap_or (changed_behind lines before types t) t ≡ flat_type types t
    own = flat_step lines before types seen t apart fit fit-lines have stable short parts.1 (stand_within types [] seen parts.0)

    -- one that was seen before t
    seen_before : (x : TypeDeclaration) → is_type_named x.name (seen ++ t ∷ []) ≡ true → bytes_eq t.name x.name ≡ false → is_type_named x.name seen ≡ true
    seen_before x there e =
        let old : (is_type_named x.name seen || (bytes_eq t.name x.name || false)) ≡ true = sym (named_joined x.name seen (t ∷ [])) ∙ there in
        or_either (bytes_eq t.name x.name || false) (is_type_named x.name seen) (or_turned (is_type_named x.name seen) (bytes_eq t.name x.name || false) old) (ap (λ c. c || false) e)

    unseen_before : (name : List ℕ) → is_type_named name (seen ++ t ∷ []) ≡ false → is_type_named name seen ≡ false
    unseen_before name none = neither_first (is_type_named name seen) (bytes_eq t.name name || false) (sym (named_joined name seen (t ∷ [])) ∙ none)

    unnamed : (name : List ℕ) → is_type_named name (seen ++ t ∷ []) ≡ false → (b : Bool) → bytes_eq t.name name ≡ b → b ≡ false
    unnamed name none true e = absurd (false≢true (sym (neither_second (is_type_named name seen) (bytes_eq t.name name || false) (sym (named_joined name seen (t ∷ [])) ∙ none)) ∙ ap (λ b. b || false) e))
    unnamed name none false e = refl

    go : (o : Option TypeDeclaration) → changed_behind lines before types t ≡ o → AddsChanged before after t o → HaveFlats after types (seen ++ t ∷ [])
    go None told same = (λ x is there. first x is there (bytes_eq t.name x.name) refl, λ name none. ap (λ (es : FlatEntries). flat_at es name) same ∙ have.1 name (unseen_before name none))
      where
        itself : t ≡ flat_type types t
        itself = sym (ap (λ o. unwrap_or o t) told) ∙ own

        new : (x : TypeDeclaration) → IsAmong x types → t ≡ x → (b : Bool) → is_type_named x.name seen ≡ b → found_at before x ≡ flat_type types x
        new x is e true in-seen = have.0 x is in-seen
        new x is e false unseen = ap (λ o. unwrap_or o x) (have.1 x.name unseen) ∙ subst (λ (y : TypeDeclaration). y ≡ flat_type types y) e itself

        first : (x : TypeDeclaration) → IsAmong x types → is_type_named x.name (seen ++ t ∷ []) ≡ true → (b : Bool) → bytes_eq t.name x.name ≡ b → found_at after x ≡ flat_type types x
        first x is there true e = ap (λ (es : FlatEntries). found_at es x) same ∙ new x is (same_type types t x apart parts.1.0 is e) (is_type_named x.name seen) refl
        first x is there false e = ap (λ (es : FlatEntries). found_at es x) same ∙ have.0 x is (seen_before x there e)
    go (Some flat) told added = (λ x is there. first x is there (bytes_eq t.name x.name) refl, λ name none. added name ∙ ap (λ b. if b then Some flat else flat_at before name) (unnamed name none (bytes_eq t.name name) refl ∙ refl) ∙ have.1 name (unseen_before name none))
      where
        whole : flat ≡ flat_type types t
        whole = sym (ap (λ o. unwrap_or o t) told) ∙ own

        first : (x : TypeDeclaration) → IsAmong x types → is_type_named x.name (seen ++ t ∷ []) ≡ true → (b : Bool) → bytes_eq t.name x.name ≡ b → found_at after x ≡ flat_type types x
        first x is there true e =
            ap (λ o. unwrap_or o x) (added x.name)
            ∙ ap (λ b. unwrap_or (if b then Some flat else flat_at before x.name) x) e
            ∙ whole
            ∙ ap (flat_type types) (same_type types t x apart parts.1.0 is e)
        first x is there false e =
            ap (λ o. unwrap_or o x) (added x.name)
            ∙ ap (λ b. unwrap_or (if b then Some flat else flat_at before x.name) x) e
            ∙ have.0 x is (seen_before x there e)

map_among : {X Y : Type 0} (f g : X → Y) (xs : List X) → ((x : X) → IsAmong x xs → f x ≡ g x) → map f xs ≡ map g xs
map_among f g [] h = refl
map_among f g (x ∷ xs) h = ap (λ y. y ∷ map f xs) (h x (inl refl)) ∙ ap (λ ys. g x ∷ ys) (map_among f g xs (λ y is. h y (inr is)))

-- ---- flat types are taken out

-- those of other types stay
taken_rest : (before after : FlatEntries) (t : TypeDeclaration) (ts : List TypeDeclaration) → TakesFlat before after t → is_type_named t.name ts ≡ false → changed_at after ts ≡ changed_at before ts
taken_rest before after t ts takes none = map_among (λ (u : TypeDeclaration). flat_at after u.name) (λ (u : TypeDeclaration). flat_at before u.name) ts (λ u among. takes u.name (other u among (bytes_eq t.name u.name) refl))
  where
    other : (u : TypeDeclaration) → IsAmong u ts → (b : Bool) → bytes_eq t.name u.name ≡ b → bytes_eq t.name u.name ≡ false
    other u among true e = absurd (false≢true (sym none ∙ named_among ts u t.name among (names_same u.name t.name (sym (same_names t.name u.name e)))))
    other u among false e = e

-- one more is taken
pub taken_more : (changed new : List (Option TypeDeclaration)) (rest : List TypeDeclaration) (item d : TypeDeclaration) (got : Option TypeDeclaration) (before after : FlatEntries) (all : List (Option TypeDeclaration)) → 1 ≤ length rest → item ≡ slice_index_or rest 0 d → TakesFlat before after item → got ≡ flat_at before item.name
    → new ≡ changed ++ got ∷ [] → has_duplicate rest ≡ false → changed ++ changed_at before rest ≡ all
    → (has_duplicate (take (length rest - 1) (drop 1 rest)) ≡ false) × (new ++ changed_at after (take (length rest - 1) (drop 1 rest)) ≡ all)
taken_more changed new rest item d got before after all h is takes got-is pushed apart told = (neither_second (is_built_in item.name || is_type_named item.name ts) (has_duplicate ts) apart-item, moved)
  where
    ts : List TypeDeclaration
    ts = take (length rest - 1) (drop 1 rest)

    split : rest ≡ item ∷ ts
    split = first_and_rest rest d h ∙ ap (λ (x : TypeDeclaration). x ∷ ts) (sym is)

    apart-item : has_duplicate (item ∷ ts) ≡ false
    apart-item = sym (ap has_duplicate split) ∙ apart

    none : is_type_named item.name ts ≡ false
    none = neither_second (is_built_in item.name) (is_type_named item.name ts) (neither_first (is_built_in item.name || is_type_named item.name ts) (has_duplicate ts) apart-item)

    moved : new ++ changed_at after ts ≡ all
    moved =
        ap (λ (xs : List (Option TypeDeclaration)). xs ++ changed_at after ts) pushed
        ∙ append_assoc changed (got ∷ []) (changed_at after ts)
        ∙ ap (λ (x : Option TypeDeclaration). changed ++ x ∷ changed_at after ts) got-is
        ∙ ap (λ (ms : List (Option TypeDeclaration)). changed ++ flat_at before item.name ∷ ms) (taken_rest before after item ts takes none)
        ∙ sym (ap (λ (rs : List TypeDeclaration). changed ++ changed_at before rs) split)
        ∙ told

-- ---- flat types in the places of types

places_same : (entries : FlatEntries) (ts : List TypeDeclaration) → length (changed_at entries ts) ≡ length ts
places_same entries [] = refl
places_same entries (t ∷ ts) = ap suc (places_same entries ts)

all_found : (entries : FlatEntries) (ts : List TypeDeclaration) → with_changed ts (changed_at entries ts) ≡ map (found_at entries) ts
all_found entries [] = refl
all_found entries (t ∷ ts) = ap (λ us. found_at entries t ∷ us) (all_found entries ts)

pub all_changed : (lines : List LineEntry) (entries : FlatEntries) (order types : List TypeDeclaration) → FlatsAlong lines entries types order → IsOrder types order → has_duplicate types ≡ false → has_other_base types ≡ false → HaveLines lines types
    → AreChanged types (changed_at entries types)
all_changed lines entries order types along is apart fit fit-lines = record {
  places = places_same entries types;
  flat = all_found entries types ∙ map_among (found_at entries) (flat_type types) types (λ t among. (along apart fit fit-lines is.0).0 t among (is.1 t.name (named_among types t t.name among (names_same t.name t.name refl))));
}

pub ok_changed : {E : Type 0} (r : Result (List (Option TypeDeclaration)) E) (types : List TypeDeclaration) (all : List (Option TypeDeclaration)) → AreChanged types all → IfOk r (λ changed. changed ≡ all) → IfOk r (AreChanged types)
ok_changed (Ok changed) types all are e = subst (AreChanged types) (sym e) are
ok_changed (Err error) types all are e = tt

pub changed_none : (ts : List TypeDeclaration) → with_changed ts [] ≡ ts
changed_none [] = refl
changed_none (t ∷ ts) = refl

-- the last of them, where there is none
none_last : (ts : List TypeDeclaration) (front : List (Option TypeDeclaration)) → with_changed ts (front ++ None ∷ []) ≡ with_changed ts front
none_last [] [] = refl
none_last [] (o ∷ os) = refl
none_last (t ∷ ts) [] = ap (λ us. t ∷ us) (changed_none ts)
none_last (t ∷ ts) (o ∷ os) = ap (λ us. unwrap_or o t ∷ us) (none_last ts os)

-- the last of them is put in its place
set_last : (ts : List TypeDeclaration) (front : List (Option TypeDeclaration)) (flat : TypeDeclaration) → length front < length ts → with_changed ts (front ++ Some flat ∷ []) ≡ with_changed (slice_set ts (length front) flat) front
set_last [] [] flat h = absurd (omega (arith, h))
set_last [] (o ∷ os) flat h = absurd (omega (arith, h))
set_last (t ∷ ts) [] flat h = ap (λ us. flat ∷ us) (changed_none ts)
set_last (t ∷ ts) (o ∷ os) flat h = ap (λ us. unwrap_or o t ∷ us) (set_last ts os flat (omega (arith, h)))

longer : (front : List (Option TypeDeclaration)) (last : Option TypeDeclaration) → length (front ++ last ∷ []) ≡ suc (length front)
longer [] last = refl
longer (o ∷ os) last = ap suc (longer os last)

-- one more is put in its place
pub put_more : (ts new : List TypeDeclaration) (before front : List (Option TypeDeclaration)) (last : Option TypeDeclaration) (flat : TypeDeclaration) (n : ℕ) (all : List TypeDeclaration) → before ≡ front ++ last ∷ [] → last ≡ Some flat → n ≡ length front → new ≡ slice_set ts n flat
    → (length before ≤ length ts) × (with_changed ts before ≡ all) → (length front ≤ length new) × (with_changed new front ≡ all)
put_more ts new before front last flat n all split is at set have = (omega (arith, fits, size), same)
  where
    long : length before ≡ suc (length front)
    long = ap length split ∙ longer front last

    fits : length front < length ts
    fits = omega (arith, long, have.0)

    size : length new ≡ length ts
    size = ap length set ∙ length-set ts n flat

    same : with_changed new front ≡ all
    same =
        ap (λ (us : List TypeDeclaration). with_changed us front) (set ∙ ap (λ m. slice_set ts m flat) at)
        ∙ sym (set_last ts front flat fits)
        ∙ sym (ap (λ o. with_changed ts (front ++ o ∷ [])) is)
        ∙ sym (ap (with_changed ts) split)
        ∙ have.1

-- one that is as it is declared stays
pub passed_more : (ts : List TypeDeclaration) (before front : List (Option TypeDeclaration)) (last : Option TypeDeclaration) (all : List TypeDeclaration) → before ≡ front ++ last ∷ [] → last ≡ None
    → (length before ≤ length ts) × (with_changed ts before ≡ all) → (length front ≤ length ts) × (with_changed ts front ≡ all)
passed_more ts before front last all split is have = (omega (arith, long, have.0), same)
  where
    long : length before ≡ suc (length front)
    long = ap length split ∙ longer front last

    same : with_changed ts front ≡ all
    same =
        sym (none_last ts front)
        ∙ sym (ap (λ o. with_changed ts (front ++ o ∷ [])) is)
        ∙ sym (ap (with_changed ts) split)
        ∙ have.1

-- where no type names what is of another kind, none extends what is
pub no_other : (types : List TypeDeclaration) → place_from (other_in types) 0 types ≡ None → has_other_base types ≡ false
no_other types e =
    let none : is_other_named types types ≡ false = sym (other_told types types) ∙ ap is_some e in
    neither_first (list_any (λ t. extends_other types t.kind t.base) types) (list_any (λ t. keeps_other types t.kind t.interfaces) types) (neither_second (has_inner_network types) (list_any (λ t. extends_other types t.kind t.base) types || list_any (λ t. keeps_other types t.kind t.interfaces) types) none)
