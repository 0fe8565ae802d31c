-- Where there are no types within others, each name means itself.
use Rattle.std.proofs.Common.{◌≡◌, ℕ, Bool, true, false, List, [], ◌∷◌, ◌++◌, Option, Some, None, option_map, map, refl, sym, ap, ◌∙◌, append-nil, if◌then◌else◌}
use Rattle.ned_trees.specs.declared.connections.Channel.{Channel}
use Rattle.ned_trees.specs.declared.connections.Connection.{Connection}
use Rattle.ned_trees.specs.declared.connections.ConnectionItem.{ConnectionItem}
use Rattle.ned_trees.specs.declared.connections.ConnectionItem.TheVariants as item
use Rattle.ned_trees.specs.declared.connections.ConnectionLine.{ConnectionLine}
use Rattle.ned_trees.specs.declared.connections.ConnectionSection.{ConnectionSection}
use Rattle.ned_trees.specs.declared.declarations.NestedType.{NestedType, out-NestedType}
use Rattle.ned_trees.specs.declared.declarations.NestedType.TheFolds.{fold_out-NestedType}
use Rattle.ned_trees.specs.declared.declarations.SectionLine.{SectionLine}
use Rattle.ned_trees.specs.declared.declarations.Submodule.{Submodule}
use Rattle.ned_trees.specs.declared.declarations.SubmoduleType.{SubmoduleType}
use Rattle.ned_trees.specs.declared.declarations.SubmoduleType.TheVariants as submodule_type
use Rattle.ned_trees.specs.declared.declarations.TypeDeclaration.{TypeDeclaration}
use Rattle.ned_scopes.specs.declared.known.Known.{Known}
use Rattle.ned_scopes.specs.declared.known.TypesByName.{TypesByName}
use Rattle.ned_scopes.specs.Known.{is_known, once_behind, all_behind}
use Rattle.ned_scopes.specs.Scopes.{all_types, declared_of, declaring, full_name, inner_types, known_from, known_step, known_within, meant, meant_type, resolved, resolved_below, resolved_channel, resolved_connection, resolved_connections, resolved_from, resolved_item, resolved_line, resolved_step, resolved_submodule, resolved_within, scopes_of, types_by_name}

-- ---- nothing is known

added_one : (known : List Known) (k : Known) → known ++ k ∷ [] ≡ [] → ⊥
added_one [] k e = absurd cc
added_one (l ∷ known) k e = absurd cc

once_one : (known : List Known) (k : Known) → once_behind known k ≡ [] → ⊥
once_one known k e = by (is_known known k.name) refl e
  where
    by : (b : Bool) → is_known known k.name ≡ b → (if b then known else known ++ k ∷ []) ≡ [] → ⊥
    by true there e = let none : is_known [] k.name ≡ true = ap (λ (ks : List Known). is_known ks k.name) (sym e) ∙ there in absurd cc
    by false there e = added_one known k e

nothing_added : (known ks : List Known) → all_behind known ks ≡ [] → (known ≡ []) × (ks ≡ [])
nothing_added known [] e = (e, refl)
nothing_added known (k ∷ ks) e = absurd (once_one known k (nothing_added (once_behind known k) ks e).0)

-- ---- names

none_declares : (all : List Known) (scopes : List (List ℕ)) (name : List ℕ) → declaring (record { all = all; inner = [] }) scopes name ≡ []
none_declares all [] name = refl
none_declares all (scope ∷ scopes) name = none_declares all scopes name

itself : (all : List Known) (scopes : List (List ℕ)) (name : List ℕ) → meant (record { all = all; inner = [] }) scopes name ≡ name
itself all scopes name = ap (λ ss. full_name ss name) (none_declares all scopes name)

base_itself : (all : List Known) (scopes : List (List ℕ)) (base : Option (List ℕ)) → option_map (meant (record { all = all; inner = [] }) scopes) base ≡ base
base_itself all scopes None = refl
base_itself all scopes (Some name) = ap (λ (n : List ℕ). Some n) (itself all scopes name)

names_themselves : (all : List Known) (scopes names : List (List ℕ)) → map (meant (record { all = all; inner = [] }) scopes) names ≡ names
names_themselves all scopes [] = refl
names_themselves all scopes (name ∷ names) =
    ap (λ (n : List ℕ). n ∷ map (meant (record { all = all; inner = [] }) scopes) names) (itself all scopes name)
    ∙ ap (λ (ns : List (List ℕ)). name ∷ ns) (names_themselves all scopes names)

type_name_itself : (all : List Known) (scopes : List (List ℕ)) (t : SubmoduleType) → meant_type (record { all = all; inner = [] }) scopes t ≡ t
type_name_itself all scopes (submodule_type.Named name) = ap (λ (n : List ℕ). submodule_type.Named n) (itself all scopes name)
type_name_itself all scopes (submodule_type.Like p) = ap (λ (n : List ℕ). submodule_type.Like (record { given = p.given; interface = n })) (itself all scopes p.interface)

abbrev with_type : Submodule → SubmoduleType → Submodule
with_type s t = record { name = s.name; size = s.size; submodule_type = t; condition = s.condition; body = s.body }

submodules_themselves : (all : List Known) (scopes : List (List ℕ)) (ss : List Submodule) → map (resolved_submodule (record { all = all; inner = [] }) scopes) ss ≡ ss
submodules_themselves all scopes [] = refl
submodules_themselves all scopes (s ∷ ss) =
    ap (λ (t : SubmoduleType). with_type s t ∷ map (resolved_submodule (record { all = all; inner = [] }) scopes) ss) (type_name_itself all scopes s.submodule_type)
    ∙ ap (λ (rs : List Submodule). s ∷ rs) (submodules_themselves all scopes ss)

-- ---- connections

abbrev with_name : Channel → Option (List ℕ) → Channel
with_name c name = record { type_name = name; lines = c.lines }

channel_itself : (all : List Known) (scopes : List (List ℕ)) (c : Option Channel) → option_map (resolved_channel (record { all = all; inner = [] }) scopes) c ≡ c
channel_itself all scopes None = refl
channel_itself all scopes (Some c) = ap (λ (n : Option (List ℕ)). Some (with_name c n)) (base_itself all scopes c.type_name)

abbrev with_channel : Connection → Option Channel → Connection
with_channel c channel = record { left = c.left; arrow = c.arrow; channel = channel; right = c.right }

abbrev with_connection : ConnectionLine → Connection → ConnectionLine
with_connection l c = record { connection = c; clauses = l.clauses }

line_itself : (all : List Known) (scopes : List (List ℕ)) (l : ConnectionLine) → resolved_line (record { all = all; inner = [] }) scopes l ≡ l
line_itself all scopes l = ap (λ (c : Option Channel). with_connection l (with_channel l.connection c)) (channel_itself all scopes l.connection.channel)

lines_themselves : (all : List Known) (scopes : List (List ℕ)) (ls : List ConnectionLine) → map (resolved_line (record { all = all; inner = [] }) scopes) ls ≡ ls
lines_themselves all scopes [] = refl
lines_themselves all scopes (l ∷ ls) =
    ap (λ (k : ConnectionLine). k ∷ map (resolved_line (record { all = all; inner = [] }) scopes) ls) (line_itself all scopes l)
    ∙ ap (λ (ks : List ConnectionLine). l ∷ ks) (lines_themselves all scopes ls)

item_itself : (all : List Known) (scopes : List (List ℕ)) (x : ConnectionItem) → resolved_item (record { all = all; inner = [] }) scopes x ≡ x
item_itself all scopes (item.Line l) = ap (λ (k : ConnectionLine). item.Line k) (line_itself all scopes l)
item_itself all scopes (item.Group g) = ap (λ (ls : List ConnectionLine). item.Group (record { clauses = g.clauses; lines = ls })) (lines_themselves all scopes g.lines)

items_themselves : (all : List Known) (scopes : List (List ℕ)) (xs : List ConnectionItem) → map (resolved_item (record { all = all; inner = [] }) scopes) xs ≡ xs
items_themselves all scopes [] = refl
items_themselves all scopes (x ∷ xs) =
    ap (λ (y : ConnectionItem). y ∷ map (resolved_item (record { all = all; inner = [] }) scopes) xs) (item_itself all scopes x)
    ∙ ap (λ (ys : List ConnectionItem). x ∷ ys) (items_themselves all scopes xs)

abbrev with_items : ConnectionSection → List ConnectionItem → ConnectionSection
with_items c xs = record { allow_unconnected = c.allow_unconnected; items = xs }

connections_themselves : (all : List Known) (scopes : List (List ℕ)) (c : ConnectionSection) → resolved_connections (record { all = all; inner = [] }) scopes c ≡ c
connections_themselves all scopes c = ap (λ (xs : List ConnectionItem). with_items c xs) (items_themselves all scopes c.items)

-- ---- types

abbrev with_parts : TypeDeclaration → Option (List ℕ) → List (List ℕ) → List SectionLine → List Submodule → ConnectionSection → TypeDeclaration
with_parts t base interfaces lines submodules connections = record { kind = t.kind; name = t.name; base = base; interfaces = interfaces; lines = lines; gates = t.gates; submodules = submodules; connections = connections }

type_itself : (all : List Known) (own : List (List ℕ)) (t : TypeDeclaration) → resolved (record { all = all; inner = [] }) [] own t ≡ t
type_itself all own t =
    let types : TypesByName = record { all = all; inner = [] } in
    ap (λ (b : Option (List ℕ)). with_parts t b (map (meant types []) t.interfaces) (t.lines ++ []) (map (resolved_submodule types own) t.submodules) (resolved_connections types own t.connections)) (base_itself all [] t.base)
    ∙ ap (λ (is : List (List ℕ)). with_parts t t.base is (t.lines ++ []) (map (resolved_submodule types own) t.submodules) (resolved_connections types own t.connections)) (names_themselves all [] t.interfaces)
    ∙ ap (λ (ls : List SectionLine). with_parts t t.base t.interfaces ls (map (resolved_submodule types own) t.submodules) (resolved_connections types own t.connections)) (append-nil t.lines)
    ∙ ap (λ (ss : List Submodule). with_parts t t.base t.interfaces t.lines ss (resolved_connections types own t.connections)) (submodules_themselves all own t.submodules)
    ∙ ap (λ (c : ConnectionSection). with_parts t t.base t.interfaces t.lines t.submodules c) (connections_themselves all own t.connections)

-- a type within which there are none
alone : (all : List Known) (t : NestedType) → (out-NestedType t).types ≡ [] → resolved_from (record { all = all; inner = [] }) t [] ≡ declared_of t ∷ []
alone all t none =
    let types : TypesByName = record { all = all; inner = [] } in
    let own = scopes_of types [] (declared_of t) in
    ap (λ (f : List (List ℕ) → List TypeDeclaration). f []) (fold_out-NestedType (List (List ℕ) → List TypeDeclaration) (resolved_step types) t)
    ∙ ap (λ (ts : List NestedType). resolved types [] own (declared_of t) ∷ resolved_below own (map (resolved_from types) ts)) none
    ∙ ap (λ (u : TypeDeclaration). u ∷ []) (type_itself all own (declared_of t))

-- ---- no types within others

both_none : (ks ls : List Known) → ks ++ ls ≡ [] → (ks ≡ []) × (ls ≡ [])
both_none [] ls e = (refl, e)
both_none (k ∷ ks) ls e = absurd cc

none_within : (name : List ℕ) (ts : List NestedType) → known_within name ts ≡ [] → ts ≡ []
none_within name [] e = refl
none_within name (t ∷ ts) e =
    let first : known_from t name ≡ [] = (both_none (known_from t name) (known_within name ts) e).0 in
    let some = ap (λ (f : List ℕ → List Known). f name) (sym (fold_out-NestedType (List ℕ → List Known) known_step t)) ∙ first in
    absurd cc

all_alone : (all : List Known) (ts : List NestedType) → inner_types ts ≡ [] → resolved_within (record { all = all; inner = [] }) [] ts ≡ map declared_of ts
all_alone all [] e = refl
all_alone all (t ∷ ts) e =
    let parts = both_none (known_within (declared_of t).name (out-NestedType t).types) (inner_types ts) e in
    ap (λ (us : List TypeDeclaration). us ++ resolved_within (record { all = all; inner = [] }) [] ts) (alone all t (none_within (declared_of t).name (out-NestedType t).types parts.0))
    ∙ ap (λ (us : List TypeDeclaration). declared_of t ∷ us) (all_alone all ts parts.1)

-- where no type stands within another, the types of files are all types, as they stand
pub plain : (ts : List NestedType) → all_behind [] (inner_types ts) ≡ [] → map declared_of ts ≡ resolved_within (types_by_name ts) [] ts
plain ts none =
    sym (all_alone (all_behind [] (all_types ts)) ts (nothing_added [] (inner_types ts) none).1)
    ∙ ap (λ (inner : List Known). resolved_within (record { all = all_behind [] (all_types ts); inner = inner }) [] ts) (sym none)
