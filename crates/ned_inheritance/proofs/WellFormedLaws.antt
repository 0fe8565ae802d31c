-- Types have no clash exactly where they are well formed.
use Rattle.std.proofs.Common.{◌≡◌, ◌≢◌, inl, inr, ℕ, Bool, true, false, not, ◌||◌, ◌&&◌, ◌⊎◌, List, [], ◌∷◌, ◌++◌, Option, Some, None, refl, sym, ap, subst, ◌∙◌, if◌then◌else◌}
use Rattle.std.specs.Prelude.{is_some, codes}
use Rattle.std.specs.List.{list_any}
use Rattle.std.specs.Str.{bytes_eq}
use Rattle.std.proofs.lemmas.Bool.{cases_Bool, false≢true, or_parts}
use Rattle.std.proofs.lemmas.Slice.Eq.{bytes_eq-Decides}
use Rattle.ned_trees.specs.declared.declarations.Declaration.{Declaration}
use Rattle.ned_trees.specs.declared.declarations.GateDeclaration.{GateDeclaration}
use Rattle.ned_trees.specs.declared.declarations.GateLine.{GateLine}
use Rattle.ned_trees.specs.declared.declarations.GateLine.TheVariants as gate
use Rattle.ned_trees.specs.declared.declarations.SectionLine.{SectionLine}
use Rattle.ned_trees.specs.declared.declarations.SectionLine.TheVariants as line
use Rattle.ned_trees.specs.declared.declarations.Submodule.{Submodule}
use Rattle.ned_trees.specs.declared.declarations.TypeDeclaration.{TypeDeclaration}
use Rattle.ned_trees.specs.declared.declarations.TypeKind.{TypeKind}
use Rattle.ned_trees.specs.declared.declarations.TypeKind.TheVariants.{Simple, Module, Network, Channel, ModuleInterface, ChannelInterface}
use Rattle.ned_trees.specs.declared.connections.Channel as channel
use Rattle.ned_trees.specs.declared.connections.ConnectionItem.{ConnectionItem}
use Rattle.ned_trees.specs.declared.connections.ConnectionLine.{ConnectionLine}
use Rattle.ned_trees.specs.declared.declarations.SubmoduleType.{SubmoduleType}
use Rattle.ned_trees.specs.declared.declarations.SubmoduleType.TheVariants as submodule_type
use Rattle.ned_types.specs.Channels.{built_in_lines, delay_lines, rate_lines}
use Rattle.ned_types.specs.Clashes as k
use Rattle.ned_types.specs.Types as t
use Rattle.ned_types.specs.WellFormed.{IsAmong, StandsBefore, IsParameter, IsSoundSection, IsSoundBody, IsTypeOf, IsOfModules, Suits, HasType, HasChannel, IsChannelNamed, HaveOwnGates, HasMembers, IsWellFormed}

-- ---- tests

is_true : (b : Bool) → (b ≡ false → ⊥) → b ≡ true
is_true true h = refl
is_true false h = absurd (h refl)

pub not_false : (b : Bool) → not b ≡ false → b ≡ true
not_false true h = refl
not_false false h = absurd (false≢true (sym h))

pub false_not : (b : Bool) → b ≡ true → not b ≡ false
false_not true h = refl
false_not false h = absurd (false≢true h)

pub or_false : (x y : Bool) → x ≡ false → y ≡ false → (x || y) ≡ false
or_false false y e f = f
or_false true y e f = absurd (false≢true (sym e))

-- a test that is false after one that is true
pub and_told : (x y : Bool) → (x && y) ≡ false → x ≡ true → y ≡ false
and_told true y h e = h
and_told false y h e = absurd (false≢true e)

and_made : (x y : Bool) → (x ≡ true → y ≡ false) → (x && y) ≡ false
and_made true y h = h refl
and_made false y h = refl

pub names_apart : (a b : List ℕ) → bytes_eq a b ≡ false → b ≢ a
names_apart a b h e = false≢true (sym h ∙ (bytes_eq-Decides a b).1 (sym e))

pub apart_names : (a b : List ℕ) → b ≢ a → bytes_eq a b ≡ false
apart_names a b h =
    elim (cases_Bool (bytes_eq a b)) [
      | inl same ↦ absurd (h (sym ((bytes_eq-Decides a b).0 same)))
      | inr other ↦ other
    ]

pub same_names : (a b : List ℕ) → bytes_eq a b ≡ true → a ≡ b
same_names a b h = (bytes_eq-Decides a b).0 h

pub names_same : (a b : List ℕ) → a ≡ b → bytes_eq a b ≡ true
names_same a b e = (bytes_eq-Decides a b).1 e

-- ---- members

pub any_told : {X : Type 0} (test : X → Bool) (xs : List X) → list_any test xs ≡ false → (x : X) → IsAmong x xs → test x ≡ false
any_told test [] h x is = absurd is
any_told test (y ∷ ys) h x (inl e) = ap test e ∙ (or_parts (test y) (list_any test ys) h).0
any_told test (y ∷ ys) h x (inr is) = any_told test ys (or_parts (test y) (list_any test ys) h).1 x is

pub any_made : {X : Type 0} (test : X → Bool) (xs : List X) → ((x : X) → IsAmong x xs → test x ≡ false) → list_any test xs ≡ false
any_made test [] h = refl
any_made test (y ∷ ys) h = or_false (test y) (list_any test ys) (h y (inl refl)) (any_made test ys (λ x is. h x (inr is)))

pub any_found : {X : Type 0} (test : X → Bool) (xs : List X) → list_any test xs ≡ true → (x : X) × IsAmong x xs × (test x ≡ true)
any_found test [] h = absurd (false≢true h)
any_found test (y ∷ ys) h = go (test y) refl (any_found test ys) h
  where
    go : (b : Bool) → test y ≡ b → (list_any test ys ≡ true → (x : _) × IsAmong x ys × (test x ≡ true)) → (b || list_any test ys) ≡ true → (x : _) × IsAmong x (y ∷ ys) × (test x ≡ true)
    go true e more h = (y, inl refl, e)
    go false e more h = let found = more h in (found.0, inr found.1, found.2)

pub any_is : {X : Type 0} (test : X → Bool) (xs : List X) (x : X) → IsAmong x xs → test x ≡ true → list_any test xs ≡ true
any_is test xs x is h = is_true (list_any test xs) (λ none. false≢true (sym (any_told test xs none x is) ∙ h))

-- ---- pairs

-- what a test of each member and those after it tells, where it is nowhere true
pairs_told : {X : Type 0} (R : X → X → Type 0) (bad : X → List X → Bool) (any : List X → Bool) → ((x : X) (xs : List X) → any (x ∷ xs) ≡ (bad x xs || any xs)) → ((x : X) (xs : List X) → bad x xs ≡ false → (y : X) → IsAmong y xs → R x y) → (xs : List X) → any xs ≡ false → (x y : X) → StandsBefore x y xs → R x y
pairs_told R bad any step one [] h x y is = absurd is
pairs_told R bad any step one (z ∷ zs) h x y (inl p) =
    let both = or_parts (bad z zs) (any zs) (sym (step z zs) ∙ h) in
    subst (λ u. R u y) (sym p.0) (one z zs both.0 y p.1)
pairs_told R bad any step one (z ∷ zs) h x y (inr is) =
    let both = or_parts (bad z zs) (any zs) (sym (step z zs) ∙ h) in
    pairs_told R bad any step one zs both.1 x y is

pairs_made : {X : Type 0} (Q : X → Type 0) (R : X → X → Type 0) (bad : X → List X → Bool) (any : List X → Bool) → any [] ≡ false → ((x : X) (xs : List X) → any (x ∷ xs) ≡ (bad x xs || any xs)) → ((x : X) (xs : List X) → Q x → ((y : X) → IsAmong y xs → R x y) → bad x xs ≡ false) → (xs : List X) → ((x : X) → IsAmong x xs → Q x) → ((x y : X) → StandsBefore x y xs → R x y) → any xs ≡ false
pairs_made Q R bad any none step one [] q r = none
pairs_made Q R bad any none step one (z ∷ zs) q r =
    step z zs
    ∙ or_false (bad z zs) (any zs)
    (one z zs (q z (inl refl)) (λ y is. r z y (inl (refl, is))))
    (pairs_made Q R bad any none step one zs (λ x is. q x (inr is)) (λ x y is. r x y (inr is)))

-- ---- two types of one name

pub types_apart : (types : List TypeDeclaration) → t.has_duplicate types ≡ false → (a b : TypeDeclaration) → StandsBefore a b types → a.name ≢ b.name
types_apart types h = pairs_told {X = TypeDeclaration} (λ a b. a.name ≢ b.name) (λ a behind. t.is_built_in a.name || t.is_type_named a.name behind) t.has_duplicate (λ a behind. refl) (λ a behind none b is. names_apart b.name a.name (any_told (λ u. bytes_eq u.name a.name) behind (or_parts (t.is_built_in a.name) _ none).1 b is)) types h

pub types_own : (types : List TypeDeclaration) → t.has_duplicate types ≡ false → (a : TypeDeclaration) → IsAmong a types → t.is_built_in a.name ≡ false
types_own [] h a is = absurd is
types_own (b ∷ bs) h a (inl e) =
    let parts = or_parts (t.is_built_in b.name || t.is_type_named b.name bs) (t.has_duplicate bs) h in
    ap (λ (x : TypeDeclaration). t.is_built_in x.name) e ∙ (or_parts (t.is_built_in b.name) (t.is_type_named b.name bs) parts.0).0
types_own (b ∷ bs) h a (inr is) = types_own bs (or_parts (t.is_built_in b.name || t.is_type_named b.name bs) (t.has_duplicate bs) h).1 a is

pub no_duplicate : (types : List TypeDeclaration) → IsWellFormed types → t.has_duplicate types ≡ false
no_duplicate types w = pairs_made {X = TypeDeclaration} (λ a. t.is_built_in a.name ≡ false) (λ a b. a.name ≢ b.name) (λ a behind. t.is_built_in a.name || t.is_type_named a.name behind) t.has_duplicate refl (λ a behind. refl) (λ a behind own apart. or_false (t.is_built_in a.name) _ own (any_made (λ u. bytes_eq u.name a.name) behind (λ b is. apart_names b.name a.name (apart b is)))) types w.own w.names

-- ---- submodules

submodules_apart : (ss : List Submodule) → t.repeats_submodule ss ≡ false → (s r : Submodule) → StandsBefore s r ss → s.name ≢ r.name
submodules_apart ss h = pairs_told {X = Submodule} (λ s r. s.name ≢ r.name) (λ s rs. t.is_submodule_named s.name rs) t.repeats_submodule (λ s rs. refl) (λ s rs none r is. names_apart r.name s.name (any_told (λ u. bytes_eq u.name s.name) rs none r is)) ss h

no_repeat : (ss : List Submodule) → ((s r : Submodule) → StandsBefore s r ss → s.name ≢ r.name) → t.repeats_submodule ss ≡ false
no_repeat ss apart = pairs_made {X = Submodule} (λ s. Unit {0}) (λ s r. s.name ≢ r.name) (λ s rs. t.is_submodule_named s.name rs) t.repeats_submodule refl (λ s rs. refl) (λ s rs q other. any_made (λ u. bytes_eq u.name s.name) rs (λ r is. apart_names r.name s.name (other r is))) ss (λ s is. tt) apart

kind_told : (of : TypeKind) → t.is_kind_of_modules of ≡ true → IsOfModules of
kind_told Simple h = inl refl
kind_told Module h = inr (inl refl)
kind_told Network h = inr (inr refl)
kind_told Channel h = absurd (false≢true h)
kind_told ModuleInterface h = absurd (false≢true h)
kind_told ChannelInterface h = absurd (false≢true h)

kind_made : (of : TypeKind) → IsOfModules of → t.is_kind_of_modules of ≡ true
kind_made of (inl e) = ap t.is_kind_of_modules e
kind_made of (inr (inl e)) = ap t.is_kind_of_modules e
kind_made of (inr (inr e)) = ap t.is_kind_of_modules e

interface_kind : (of : TypeKind) → t.is_module_interface of ≡ true → of ≡ ModuleInterface
interface_kind ModuleInterface h = refl
interface_kind Simple h = absurd (false≢true h)
interface_kind Module h = absurd (false≢true h)
interface_kind Network h = absurd (false≢true h)
interface_kind Channel h = absurd (false≢true h)
interface_kind ChannelInterface h = absurd (false≢true h)

channel_kind : (of : TypeKind) → t.is_channel_kind of ≡ true → of ≡ Channel
channel_kind Channel h = refl
channel_kind Simple h = absurd (false≢true h)
channel_kind Module h = absurd (false≢true h)
channel_kind Network h = absurd (false≢true h)
channel_kind ModuleInterface h = absurd (false≢true h)
channel_kind ChannelInterface h = absurd (false≢true h)

suits_told : (of : SubmoduleType) (kind : TypeKind) → t.suits_kind of kind ≡ true → Suits of kind
suits_told (submodule_type.Named name) kind h = kind_told kind h
suits_told (submodule_type.Like p) kind h = interface_kind kind h

suits_made : (of : SubmoduleType) (kind : TypeKind) → Suits of kind → t.suits_kind of kind ≡ true
suits_made (submodule_type.Named name) kind h = kind_made kind h
suits_made (submodule_type.Like p) kind h = ap t.is_module_interface h

-- a type of that name is found which may stand there
pub suited_found : (types : List TypeDeclaration) (of : SubmoduleType) (name : List ℕ) → t.suits of (t.type_named name types) ≡ true → (u : TypeDeclaration) × IsAmong u types × (u.name ≡ name) × Suits of u.kind
suited_found [] of name h = absurd (false≢true h)
suited_found (a ∷ behind) of name h = go (bytes_eq a.name name) refl h (suited_found behind of name)
  where
    go : (b : Bool) → bytes_eq a.name name ≡ b → t.suits of (if b then Some a else t.type_named name behind) ≡ true → (t.suits of (t.type_named name behind) ≡ true → (u : TypeDeclaration) × IsAmong u behind × (u.name ≡ name) × Suits of u.kind) → (u : TypeDeclaration) × IsAmong u (a ∷ behind) × (u.name ≡ name) × Suits of u.kind
    go true e h more = (a, inl refl, same_names a.name name e, suits_told of a.kind h)
    go false e h more = let found = more h in (found.0, inr found.1, found.2, found.3)

-- the type of its name is the type itself
pub type_is : (types : List TypeDeclaration) (u : TypeDeclaration) → ((a b : TypeDeclaration) → StandsBefore a b types → a.name ≢ b.name) → IsAmong u types → t.type_named u.name types ≡ Some u
type_is [] u apart is = absurd is
type_is (a ∷ behind) u apart (inl e) = let same = names_same a.name u.name (sym (ap (λ (x : TypeDeclaration). x.name) e)) in rw same (ap Some (sym e))
type_is (a ∷ behind) u apart (inr is) =
    let other = apart_names a.name u.name (λ e. apart a u (inl (refl, is)) (sym e)) in
    rw other (type_is behind u (λ x y before. apart x y (inr before)) is)

-- a type of that kind and name is the one that is found
pub named_is : (types : List TypeDeclaration) (kind : TypeKind) (name : List ℕ) → ((a b : TypeDeclaration) → StandsBefore a b types → a.name ≢ b.name) → (s : IsTypeOf kind name types) → t.type_named name types ≡ Some s.0
named_is types kind name apart s = ap (λ (n : List ℕ). t.type_named n types) (sym s.2) ∙ type_is types s.0 apart s.1

suited_is : (types : List TypeDeclaration) (s : Submodule) → ((a b : TypeDeclaration) → StandsBefore a b types → a.name ≢ b.name) → HasType s types → t.is_submodule_suited types s ≡ true
suited_is types s apart u =
    ap (λ (n : List ℕ). t.suits s.submodule_type (t.type_named n types)) (sym u.2)
    ∙ ap (t.suits s.submodule_type) (type_is types u.0 apart u.1)
    ∙ suits_made s.submodule_type u.0.kind u.3

-- a type that is found has its name
pub named_found : (types : List TypeDeclaration) (kind : TypeKind) (name : List ℕ) → IsTypeOf kind name types → t.is_type_named name types ≡ true
named_found types kind name s = any_is (λ u. bytes_eq u.name name) types s.0 s.1 (names_same s.0.name name s.2)

pub or_second : (x y : Bool) → y ≡ true → (x || y) ≡ true
or_second true y h = refl
or_second false y h = h

pub no_unknown : (types : List TypeDeclaration) → IsWellFormed types → t.has_unknown types ≡ false
no_unknown types w = any_made (λ a. t.names_unknown types a.submodules) types (λ a is. any_made (λ s. not (t.is_submodule_known types s)) a.submodules (λ s in-a. let u = w.suited a is s in-a in false_not _ (or_second (t.is_built_in (t.type_name s)) _ (any_is (λ x. bytes_eq x.name (t.type_name s)) types u.0 u.1 (names_same u.0.name (t.type_name s) u.2)))))

no_other_kind : (types : List TypeDeclaration) → IsWellFormed types → (a : TypeDeclaration) → IsAmong a types → t.has_other_kind types a.submodules ≡ false
no_other_kind types w a is = any_made (λ s. not (t.is_submodule_suited types s)) a.submodules (λ s in-a. false_not _ (suited_is types s w.names (w.suited a is s in-a)))

all_suited : (types : List TypeDeclaration) (ss : List Submodule) → t.has_other_kind types ss ≡ false → (s : Submodule) → IsAmong s ss → HasType s types
all_suited types ss h s is = suited_found types s.submodule_type (t.type_name s) (not_false _ (any_told (λ r. not (t.is_submodule_suited types r)) ss h s is))

-- ---- parameter sections

declaration_of : (name : List ℕ) (l : SectionLine) (lines : List SectionLine) → IsAmong l lines → t.declares name l ≡ true → IsParameter name lines
declaration_of name (line.Declaration d) lines is h = (d, is, same_names d.name name h)
declaration_of name (line.Assignment a) lines is h = absurd (false≢true h)
declaration_of name (line.Statistic s) lines is h = absurd (false≢true h)
declaration_of name (line.Class c) lines is h = absurd (false≢true h)
declaration_of name line.Ignored lines is h = absurd (false≢true h)

declared_found : (name : List ℕ) (lines : List SectionLine) → t.is_declared name lines ≡ true → IsParameter name lines
declared_found name lines h = let found = any_found (λ l. t.declares name l) lines h in declaration_of name found.0 lines found.1 found.2

declared_is : (name : List ℕ) (lines : List SectionLine) → IsParameter name lines → t.is_declared name lines ≡ true
declared_is name lines p = any_is (λ l. t.declares name l) lines (line.Declaration p.0) p.1 (names_same p.0.name name p.2)

-- two lines that declare parameters declare different ones
abbrev AreOthers : SectionLine → SectionLine → Type 0
AreOthers l k = (d e : Declaration) → l ≡ line.Declaration d → k ≡ line.Declaration e → d.name ≢ e.name

once_told : (l : SectionLine) (ls : List SectionLine) → (t.is_declaration l && t.is_declared (t.name_in l) ls) ≡ false → (k : SectionLine) → IsAmong k ls → (d e : Declaration) → l ≡ line.Declaration d → k ≡ line.Declaration e → d.name ≢ e.name
once_told l ls h k is d e p q =
    let none : t.is_declared d.name ls ≡ false = subst (λ (x : SectionLine). (t.is_declaration x && t.is_declared (t.name_in x) ls) ≡ false) p h in
    let one : t.declares d.name (line.Declaration e) ≡ false = sym (ap (t.declares d.name) q) ∙ any_told (λ x. t.declares d.name x) ls none k is in
    names_apart e.name d.name one

declares_other : (d : Declaration) (k : SectionLine) → ((e : Declaration) → k ≡ line.Declaration e → d.name ≢ e.name) → t.declares d.name k ≡ false
declares_other d (line.Declaration e) h = apart_names e.name d.name (h e refl)
declares_other d (line.Assignment a) h = refl
declares_other d (line.Statistic s) h = refl
declares_other d (line.Class c) h = refl
declares_other d line.Ignored h = refl

once_made : (l : SectionLine) (ls : List SectionLine) → ((k : SectionLine) → IsAmong k ls → (d e : Declaration) → l ≡ line.Declaration d → k ≡ line.Declaration e → d.name ≢ e.name) → (t.is_declaration l && t.is_declared (t.name_in l) ls) ≡ false
once_made (line.Declaration d) ls h = any_made (λ x. t.declares d.name x) ls (λ k is. declares_other d k (λ e q. h k is d e refl q))
once_made (line.Assignment a) ls h = refl
once_made (line.Statistic s) ls h = refl
once_made (line.Class c) ls h = refl
once_made line.Ignored ls h = refl

-- ---- gates

-- two lines that declare gates declare different ones
abbrev AreOtherGates : GateLine → GateLine → Type 0
AreOtherGates g h = (d e : GateDeclaration) → g ≡ gate.Declaration d → h ≡ gate.Declaration e → d.name ≢ e.name

gate_once_told : (g : GateLine) (gs : List GateLine) → t.is_declared_again gs g ≡ false → (h : GateLine) → IsAmong h gs → AreOtherGates g h
gate_once_told g gs none h is = λ d e p q.
    let first : t.is_gate_declared d.name gs ≡ false = subst (λ (x : GateLine). t.is_declared_again gs x ≡ false) p none in
    let one : t.declares_gate d.name (gate.Declaration e) ≡ false = sym (ap (t.declares_gate d.name) q) ∙ any_told (λ x. t.declares_gate d.name x) gs first h is in
    names_apart e.name d.name one

other_gate : (d : GateDeclaration) (h : GateLine) → ((e : GateDeclaration) → h ≡ gate.Declaration e → d.name ≢ e.name) → t.declares_gate d.name h ≡ false
other_gate d (gate.Declaration e) other = apart_names e.name d.name (other e refl)
other_gate d (gate.Refinement r) other = refl

gate_once_made : (g : GateLine) (gs : List GateLine) → ((h : GateLine) → IsAmong h gs → AreOtherGates g h) → t.is_declared_again gs g ≡ false
gate_once_made (gate.Declaration d) gs other = any_made (λ x. t.declares_gate d.name x) gs (λ h is. other_gate d h (λ e q. other h is d e refl q))
gate_once_made (gate.Refinement r) gs other = refl

gates_told : (gs : List GateLine) → t.redeclares_gate gs ≡ false → HaveOwnGates gs
gates_told gs none = λ d e is. pairs_told {X = GateLine} AreOtherGates (λ g later. t.is_declared_again later g) t.redeclares_gate (λ g later. refl) gate_once_told gs none (gate.Declaration d) (gate.Declaration e) is d e refl refl

gates_made : (gs : List GateLine) → HaveOwnGates gs → t.redeclares_gate gs ≡ false
gates_made gs own = pairs_made {X = GateLine} (λ g. Unit {0}) AreOtherGates (λ g later. t.is_declared_again later g) t.redeclares_gate refl (λ g later. refl) (λ g later q other. gate_once_made g later other) gs (λ g is. tt) (λ g h is d e p q. own d e (subst (λ (x : GateLine). StandsBefore x (gate.Declaration e) gs) p (subst (λ (x : GateLine). StandsBefore g x gs) q is)))

-- ---- values

-- after a line that fixes a value the other gives its parameter none
abbrev IsFixedOnce : SectionLine → SectionLine → Type 0
IsFixedOnce l k = t.is_fixed (t.value_in l) ≡ true → is_some (t.value_in k) ≡ true → t.name_in k ≢ t.name_in l

fixed_told : (l : SectionLine) (ls : List SectionLine) → (t.is_fixed (t.value_in l) && t.is_given (t.name_in l) ls) ≡ false → (k : SectionLine) → IsAmong k ls → IsFixedOnce l k
fixed_told l ls h k is = λ fix give e.
    let none = and_told (t.is_fixed (t.value_in l)) _ h fix in
    let other = and_told (is_some (t.value_in k)) _ (any_told (λ x. t.gives (t.name_in l) x) ls none k is) give in
    false≢true (sym other ∙ names_same (t.name_in k) (t.name_in l) e)

fixed_made : (l : SectionLine) (ls : List SectionLine) → ((k : SectionLine) → IsAmong k ls → IsFixedOnce l k) → (t.is_fixed (t.value_in l) && t.is_given (t.name_in l) ls) ≡ false
fixed_made l ls h = and_made (t.is_fixed (t.value_in l)) _ (λ fix. any_made (λ x. t.gives (t.name_in l) x) ls (λ k is. and_made (is_some (t.value_in k)) _ (λ give. apart_names (t.name_in k) (t.name_in l) (λ e. h k is fix give (sym e)))))

sound_told : (lines : List SectionLine) → t.section_clashes lines ≡ false → IsSoundSection lines
sound_told lines h =
    let first = or_parts (t.redeclares lines) (t.gives_undeclared lines || t.sets_fixed_again lines) h in
    let rest = or_parts (t.gives_undeclared lines) (t.sets_fixed_again lines) first.1 in
    record {
      names = λ d e is. pairs_told {X = SectionLine} AreOthers (λ l ls. t.is_declaration l && t.is_declared (t.name_in l) ls) t.redeclares (λ l ls. refl) once_told lines first.0 (line.Declaration d) (line.Declaration e) is d e refl refl;
      given = λ l is give. declared_found (t.name_in l) lines (not_false _ (and_told (is_some (t.value_in l)) _ (any_told (λ x. t.is_undeclared lines x) lines rest.0 l is) give));
      fixed = λ l k is. pairs_told {X = SectionLine} IsFixedOnce (λ x ls. t.is_fixed (t.value_in x) && t.is_given (t.name_in x) ls) t.sets_fixed_again (λ x ls. refl) fixed_told lines rest.1 l k is;
    }

sound_made : (lines : List SectionLine) → IsSoundSection lines → t.section_clashes lines ≡ false
sound_made lines s =
    or_false (t.redeclares lines) _
    (pairs_made {X = SectionLine} (λ l. Unit {0}) AreOthers (λ l ls. t.is_declaration l && t.is_declared (t.name_in l) ls) t.redeclares refl (λ l ls. refl) (λ l ls q h. once_made l ls h) lines (λ l is. tt) (λ l k is d e p q. s.names d e (subst (λ (x : SectionLine). StandsBefore x (line.Declaration e) lines) p (subst (λ (x : SectionLine). StandsBefore l x lines) q is))))
    (or_false (t.gives_undeclared lines) _
    (any_made (λ x. t.is_undeclared lines x) lines (λ l is. and_made (is_some (t.value_in l)) _ (λ give. false_not _ (declared_is (t.name_in l) lines (s.given l is give)))))
    (pairs_made {X = SectionLine} (λ l. Unit {0}) IsFixedOnce (λ x ls. t.is_fixed (t.value_in x) && t.is_given (t.name_in x) ls) t.sets_fixed_again refl (λ x ls. refl) (λ x ls q h. fixed_made x ls h) lines (λ l is. tt) s.fixed))

-- ---- bodies

among_first : {X : Type 0} (x : X) (xs ys : List X) → IsAmong x xs → IsAmong x (xs ++ ys)
among_first x [] ys is = absurd is
among_first x (z ∷ xs) ys (inl e) = inl e
among_first x (z ∷ xs) ys (inr is) = inr (among_first x xs ys is)

pub among_second : {X : Type 0} (x : X) (xs ys : List X) → IsAmong x ys → IsAmong x (xs ++ ys)
among_second x [] ys is = is
among_second x (z ∷ xs) ys is = inr (among_second x xs ys is)

among_either : {X : Type 0} (x : X) (xs ys : List X) → IsAmong x (xs ++ ys) → IsAmong x xs ⊎ IsAmong x ys
among_either x [] ys is = inr is
among_either x (z ∷ xs) ys (inl e) = inl (inl e)
among_either x (z ∷ xs) ys (inr is) = by (among_either x xs ys is)
  where
    by : IsAmong x xs ⊎ IsAmong x ys → IsAmong x (z ∷ xs) ⊎ IsAmong x ys
    by (inl first) = inl (inr first)
    by (inr second) = inr second

before_across : {X : Type 0} (x y : X) (xs ys : List X) → IsAmong x xs → IsAmong y ys → StandsBefore x y (xs ++ ys)
before_across x y [] ys is here = absurd is
before_across x y (z ∷ xs) ys (inl e) here = inl (e, among_second y xs ys here)
before_across x y (z ∷ xs) ys (inr is) here = inr (before_across x y xs ys is here)

before_second : {X : Type 0} (x y : X) (xs ys : List X) → StandsBefore x y ys → StandsBefore x y (xs ++ ys)
before_second x y [] ys is = is
before_second x y (z ∷ xs) ys is = inr (before_second x y xs ys is)

later_among : {X : Type 0} (x y : X) (xs : List X) → StandsBefore x y xs → IsAmong y xs
later_among x y [] is = absurd is
later_among x y (z ∷ xs) (inl p) = inr p.1
later_among x y (z ∷ xs) (inr is) = inr (later_among x y xs is)

-- what holds of the pairs of two lists and of those across holds of the pairs of both lists
-- together
before_either : {X : Type 0} (R : X → X → Type 0) (xs ys : List X) → ((x y : X) → StandsBefore x y xs → R x y) → ((x y : X) → IsAmong x xs → IsAmong y ys → R x y) → ((x y : X) → StandsBefore x y ys → R x y) → (x y : X) → StandsBefore x y (xs ++ ys) → R x y
before_either R [] ys first across second x y is = second x y is
before_either R (z ∷ xs) ys first across second x y (inl p) = by (among_either y xs ys p.1)
  where
    by : IsAmong y xs ⊎ IsAmong y ys → R x y
    by (inl is) = first x y (inl (p.0, is))
    by (inr is) = across x y (inl p.0) is
before_either R (z ∷ xs) ys first across second x y (inr is) = before_either R xs ys (λ v w b. first v w (inr b)) (λ v w a b. across v w (inr a) b) second x y is

more_lines : (name : List ℕ) (lines body : List SectionLine) → IsParameter name lines → IsParameter name (lines ++ body)
more_lines name lines body p = (p.0, among_first (line.Declaration p.0) lines body p.1, p.2)

-- a parameter that isn't declared in the body is declared before it
fewer_lines : (name : List ℕ) (lines body : List SectionLine) → ((d : Declaration) → IsAmong (line.Declaration d) body → ⊥) → IsParameter name (lines ++ body) → IsParameter name lines
fewer_lines name lines body none p = by (among_either (line.Declaration p.0) lines body p.1)
  where
    by : IsAmong (line.Declaration p.0) lines ⊎ IsAmong (line.Declaration p.0) body → IsParameter name lines
    by (inl is) = (p.0, is, p.2)
    by (inr is) = absurd (none p.0 is)

no_declaration : (l : SectionLine) → ((d : Declaration) → l ≡ line.Declaration d → ⊥) → t.is_declaration l ≡ false
no_declaration (line.Declaration d) h = absurd (h d refl)
no_declaration (line.Assignment a) h = refl
no_declaration (line.Statistic s) h = refl
no_declaration (line.Class c) h = refl
no_declaration line.Ignored h = refl

-- what is told of a line of a body
abbrev IsFit : List SectionLine → SectionLine → Type 0
IsFit lines l = (t.is_declaration l ≡ false) × (t.is_undeclared lines l ≡ false) × (t.is_refixed lines l ≡ false)

fit_told : (lines body : List SectionLine) → t.has_unfit lines body ≡ false → (l : SectionLine) → IsAmong l body → IsFit lines l
fit_told lines body h l is =
    let first = or_parts (t.is_declaration l) (t.is_undeclared lines l || t.is_refixed lines l) (any_told (λ x. t.is_unfit lines x) body h l is) in
    let rest = or_parts (t.is_undeclared lines l) (t.is_refixed lines l) first.1 in
    (first.0, rest.0, rest.1)

refixed_told : (lines : List SectionLine) (l k : SectionLine) → IsAmong l lines → t.is_refixed lines k ≡ false → IsFixedOnce l k
refixed_told lines l k is h = λ fix give e.
    let none = and_told (is_some (t.value_in k)) _ h give in
    let other = and_told (t.is_fixed (t.value_in l)) _ (any_told (λ x. t.gives_fixed (t.name_in k) x) lines none l is) fix in
    false≢true (sym other ∙ names_same (t.name_in l) (t.name_in k) (sym e))

refixed_made : (lines : List SectionLine) (k : SectionLine) → ((l : SectionLine) → IsAmong l lines → IsFixedOnce l k) → t.is_refixed lines k ≡ false
refixed_made lines k h = and_made (is_some (t.value_in k)) _ (λ give. any_made (λ x. t.gives_fixed (t.name_in k) x) lines (λ l is. and_made (t.is_fixed (t.value_in l)) _ (λ fix. apart_names (t.name_in l) (t.name_in k) (h l is fix give))))

body_told : (lines body : List SectionLine) → IsSoundSection lines → t.body_clashes lines body ≡ false → IsSoundBody lines body
body_told lines body s h = record {
  undeclaring = undeclaring;
  section = record {
    names = λ d e is. before_either AreOthers lines body others (λ l k first second d e p q. no_second e k q second) (λ l k both d e p q. no_second e k q (later_among l k body both)) (line.Declaration d) (line.Declaration e) is d e refl refl;
    given = λ l is give. given l give (among_either l lines body is);
    fixed = λ l k is. before_either IsFixedOnce lines body s.fixed (λ x y first second. refixed_told lines x y first (fit y second).2) again l k is;
  };
}
  where
    parts : (t.has_unfit lines body ≡ false) × (t.sets_fixed_again body ≡ false)
    parts = or_parts (t.has_unfit lines body) (t.sets_fixed_again body) h

    fit : (l : SectionLine) → IsAmong l body → IsFit lines l
    fit = fit_told lines body parts.0

    undeclaring : (d : Declaration) → IsAmong (line.Declaration d) body → ⊥
    undeclaring d is = false≢true (sym (fit (line.Declaration d) is).0)

    no_second : (e : Declaration) (k : SectionLine) → k ≡ line.Declaration e → IsAmong k body → {X : Type 0} → X
    no_second e k q is = absurd (undeclaring e (subst (λ (x : SectionLine). IsAmong x body) q is))

    others : (l k : SectionLine) → StandsBefore l k lines → AreOthers l k
    others l k is d e p q = s.names d e (subst (λ (x : SectionLine). StandsBefore x (line.Declaration e) lines) p (subst (λ (x : SectionLine). StandsBefore l x lines) q is))

    given : (l : SectionLine) → is_some (t.value_in l) ≡ true → IsAmong l lines ⊎ IsAmong l body → IsParameter (t.name_in l) (lines ++ body)
    given l give (inl is) = more_lines (t.name_in l) lines body (s.given l is give)
    given l give (inr is) = more_lines (t.name_in l) lines body (declared_found (t.name_in l) lines (not_false _ (and_told (is_some (t.value_in l)) _ (fit l is).1 give)))

    again : (l k : SectionLine) → StandsBefore l k body → IsFixedOnce l k
    again l k is = pairs_told {X = SectionLine} IsFixedOnce (λ x ls. t.is_fixed (t.value_in x) && t.is_given (t.name_in x) ls) t.sets_fixed_again (λ x ls. refl) fixed_told body parts.1 l k is

body_made : (lines body : List SectionLine) → IsSoundBody lines body → t.body_clashes lines body ≡ false
body_made lines body b =
    or_false (t.has_unfit lines body) _
    (any_made (λ l. t.is_unfit lines l) body (λ l is. or_false (t.is_declaration l) _ (no_declaration l (λ d e. b.undeclaring d (subst (λ (x : SectionLine). IsAmong x body) e is))) (or_false (t.is_undeclared lines l) _ (declared l is) (refixed_made lines l (λ k in-lines. b.section.fixed k l (before_across k l lines body in-lines is))))))
    (pairs_made {X = SectionLine} (λ l. Unit {0}) IsFixedOnce (λ x ls. t.is_fixed (t.value_in x) && t.is_given (t.name_in x) ls) t.sets_fixed_again refl (λ x ls. refl) (λ x ls q h. fixed_made x ls h) body (λ l is. tt) (λ l k is. b.section.fixed l k (before_second l k lines body is)))
  where
    declared : (l : SectionLine) → IsAmong l body → t.is_undeclared lines l ≡ false
    declared l is = and_made (is_some (t.value_in l)) _ (λ give. false_not _ (declared_is (t.name_in l) lines (fewer_lines (t.name_in l) lines body b.undeclaring (b.section.given l (among_second l lines body is) give))))

-- the body of a submodule clashes with its type where it clashes with the lines of the one type of
-- that name
unfit_by : (types : List TypeDeclaration) (s : Submodule) (u : TypeDeclaration) → ((a b : TypeDeclaration) → StandsBefore a b types → a.name ≢ b.name) → IsAmong u types → u.name ≡ (t.type_name s) → t.has_unfit_body types s ≡ t.body_clashes u.lines s.body.lines
unfit_by types s u apart is e = ap (t.clashes_with s.body.lines) (ap (λ (n : List ℕ). t.type_named n types) (sym e) ∙ type_is types u apart is)

-- ---- gates in bodies

no_gate_told : (ss : List Submodule) → t.bodies_declare ss ≡ false → (s : Submodule) → IsAmong s ss → (d : GateDeclaration) → IsAmong (gate.Declaration d) s.body.gates → ⊥
no_gate_told ss h s is d in-body = false≢true (sym (any_told t.is_gate_declaration s.body.gates (any_told t.declares_gates ss h s is) (gate.Declaration d) in-body))

no_declaring : (g : GateLine) → ((d : GateDeclaration) → g ≡ gate.Declaration d → ⊥) → t.is_gate_declaration g ≡ false
no_declaring (gate.Declaration d) h = absurd (h d refl)
no_declaring (gate.Refinement r) h = refl

no_gate_made : (ss : List Submodule) → ((s : Submodule) → IsAmong s ss → (d : GateDeclaration) → IsAmong (gate.Declaration d) s.body.gates → ⊥) → t.bodies_declare ss ≡ false
no_gate_made ss h = any_made t.declares_gates ss (λ s is. any_made t.is_gate_declaration s.body.gates (λ g in-body. no_declaring g (λ d e. h s is d (subst (λ (x : GateLine). IsAmong x s.body.gates) e in-body))))

-- ---- channels of connections

-- the lines of a built-in channel are sound
built_in_sound : (name : List ℕ) → t.section_clashes (built_in_lines name) ≡ false
built_in_sound name = by (bytes_eq name (codes "DelayChannel")) (bytes_eq name (codes "DatarateChannel"))
  where
    by : (delay rate : Bool) → t.section_clashes (if delay then delay_lines else (if rate then delay_lines ++ rate_lines else [])) ≡ false
    by true rate = refl
    by false true = refl
    by false false = refl

-- a channel of that name is found among these types
channel_found : (types : List TypeDeclaration) (name : List ℕ) (lines : List SectionLine) → k.lines_of_channel (t.type_named name types) ≡ Some lines → (u : TypeDeclaration) × IsAmong u types × (u.name ≡ name) × (u.kind ≡ Channel) × (lines ≡ u.lines)
channel_found [] name lines h = absurd cc
channel_found (a ∷ behind) name lines h = go (bytes_eq a.name name) refl h (channel_found behind name lines)
  where
    is_kind : (b : Bool) → t.is_channel_kind a.kind ≡ b → (if b then Some a.lines else None) ≡ Some lines → (a.kind ≡ Channel) × (lines ≡ a.lines)
    is_kind true e h = (channel_kind a.kind e, sym cc)
    is_kind false e h = absurd cc

    go : (b : Bool) → bytes_eq a.name name ≡ b → k.lines_of_channel (if b then Some a else t.type_named name behind) ≡ Some lines → (k.lines_of_channel (t.type_named name behind) ≡ Some lines → (u : TypeDeclaration) × IsAmong u behind × (u.name ≡ name) × (u.kind ≡ Channel) × (lines ≡ u.lines)) → (u : TypeDeclaration) × IsAmong u (a ∷ behind) × (u.name ≡ name) × (u.kind ≡ Channel) × (lines ≡ u.lines)
    go true e h more = let found = is_kind (t.is_channel_kind a.kind) refl h in (a, inl refl, same_names a.name name e, found.0, found.1)
    go false e h more = let found = more h in (found.0, inr found.1, found.2, found.3, found.4)

lines_found : (types : List TypeDeclaration) (name : List ℕ) (lines : List SectionLine) → k.channel_lines types name ≡ Some lines → IsChannelNamed types name lines
lines_found types name lines h = by (t.is_built_in name) refl h
  where
    by : (b : Bool) → t.is_built_in name ≡ b → (if b then Some (built_in_lines name) else k.lines_of_channel (t.type_named name types)) ≡ Some lines → IsChannelNamed types name lines
    by true e h = inl (e, sym cc)
    by false e h = inr (channel_found types name lines h)

-- none of the types has the name of a built-in channel, so a channel among them is found by its
-- name
lines_are : (types : List TypeDeclaration) (name : List ℕ) (lines : List SectionLine) → IsWellFormed types → IsChannelNamed types name lines → k.channel_lines types name ≡ Some lines
lines_are types name lines w (inl built_in) = ap (λ b. if b then Some (built_in_lines name) else k.lines_of_channel (t.type_named name types)) built_in.0 ∙ ap Some (sym built_in.1)
lines_are types name lines w (inr u) =
    ap (λ b. if b then Some (built_in_lines name) else k.lines_of_channel (t.type_named name types)) (ap t.is_built_in (sym u.2) ∙ w.own u.0 u.1)
    ∙ ap (λ (n : List ℕ). k.lines_of_channel (t.type_named n types)) (sym u.2)
    ∙ ap k.lines_of_channel (type_is types u.0 w.names u.1)
    ∙ ap (λ b. if b then Some u.0.lines else None) (ap t.is_channel_kind u.3)
    ∙ ap Some (sym u.4)

-- the lines of a channel are sound
lines_sound : (types : List TypeDeclaration) (name : List ℕ) (lines : List SectionLine) → ((a : TypeDeclaration) → IsAmong a types → IsSoundSection a.lines) → IsChannelNamed types name lines → IsSoundSection lines
lines_sound types name lines sound (inl built_in) = subst IsSoundSection (sym built_in.1) (sound_told (built_in_lines name) (built_in_sound name))
lines_sound types name lines sound (inr u) = subst IsSoundSection (sym u.4) (sound u.0 u.1)

block_told : (types : List TypeDeclaration) (c : channel.Channel) (lines : Option (List SectionLine)) → ((a : TypeDeclaration) → IsAmong a types → IsSoundSection a.lines) → k.channel_lines types (k.channel_name c) ≡ lines → k.block_clashes c.lines lines ≡ false → HasChannel types c
block_told types c None sound e h = absurd (false≢true (sym h))
block_told types c (Some lines) sound e h =
    let found = lines_found types (k.channel_name c) lines e in
    (lines, found, body_told lines c.lines (lines_sound types (k.channel_name c) lines sound found) h)

channel_told : (types : List TypeDeclaration) (o : Option channel.Channel) → ((a : TypeDeclaration) → IsAmong a types → IsSoundSection a.lines) → k.channel_clashes types o ≡ false → (c : channel.Channel) → o ≡ Some c → HasChannel types c
channel_told types o sound h c e = block_told types c (k.channel_lines types (k.channel_name c)) sound refl (sym (ap (k.channel_clashes types) e) ∙ h)

channel_made : (types : List TypeDeclaration) (o : Option channel.Channel) → IsWellFormed types → ((c : channel.Channel) → o ≡ Some c → HasChannel types c) → k.channel_clashes types o ≡ false
channel_made types None w h = refl
channel_made types (Some c) w h =
    let found = h c refl in
    ap (k.block_clashes c.lines) (lines_are types (k.channel_name c) found.0 w found.1) ∙ body_made found.0 c.lines found.2

channels_told : (types : List TypeDeclaration) (items : List ConnectionItem) → ((a : TypeDeclaration) → IsAmong a types → IsSoundSection a.lines) → k.connections_clash types items ≡ false → (x : ConnectionItem) → IsAmong x items → (l : ConnectionLine) → IsAmong l (k.connections_of x) → (c : channel.Channel) → l.connection.channel ≡ Some c → HasChannel types c
channels_told types items sound h x is l in-x c e = channel_told types l.connection.channel sound (any_told (λ y. k.line_clashes types y) (k.connections_of x) (any_told (λ y. list_any (λ z. k.line_clashes types z) (k.connections_of y)) items h x is) l in-x) c e

channels_made : (types : List TypeDeclaration) (items : List ConnectionItem) → IsWellFormed types → ((x : ConnectionItem) → IsAmong x items → (l : ConnectionLine) → IsAmong l (k.connections_of x) → (c : channel.Channel) → l.connection.channel ≡ Some c → HasChannel types c) → k.connections_clash types items ≡ false
channels_made types items w h = any_made (λ y. list_any (λ z. k.line_clashes types z) (k.connections_of y)) items (λ x is. any_made (λ z. k.line_clashes types z) (k.connections_of x) (λ l in-x. channel_made types l.connection.channel w (h x is l in-x)))

-- ---- all rules

pub well_formed : (types : List TypeDeclaration) → t.has_duplicate types ≡ false → k.has_clash types ≡ false → ((a : TypeDeclaration) → IsAmong a types → (b : TypeDeclaration) → IsAmong b types → IsAmong b.name a.interfaces → HasMembers a b) → IsWellFormed types
well_formed types duplicate clash kept = record {
  names = apart;
  own = types_own types duplicate;
  parameters = sound;
  gates = λ a is. gates_told a.gates (or_parts (t.redeclares_gate a.gates) _ (parts a is).1).0;
  submodules = λ a is. submodules_apart a.submodules (members a is).0;
  suited = λ a is. all_suited types a.submodules (members a is).1;
  interfaces = kept;
  bodies = λ a is s in-a u in-types e. body_told u.lines s.body.lines (sound u in-types) (sym (unfit_by types s u apart in-types e) ∙ any_told (λ r. t.has_unfit_body types r) a.submodules (members a is).2 s in-a);
  sizes = λ a is. no_gate_told a.submodules (members a is).3;
  channels = λ a is. channels_told types a.connections.items sound (or_parts (t.submodules_clash types a.submodules) _ (inside a is)).1;
}
  where
    apart : (a b : TypeDeclaration) → StandsBefore a b types → a.name ≢ b.name
    apart = types_apart types duplicate

    parts : (a : TypeDeclaration) → IsAmong a types → (t.section_clashes a.lines ≡ false) × ((t.redeclares_gate a.gates || (t.submodules_clash types a.submodules || k.connections_clash types a.connections.items)) ≡ false)
    parts a is = or_parts (t.section_clashes a.lines) (t.redeclares_gate a.gates || (t.submodules_clash types a.submodules || k.connections_clash types a.connections.items)) (any_told (λ x. k.clashes types x) types clash a is)

    inside : (a : TypeDeclaration) → IsAmong a types → (t.submodules_clash types a.submodules || k.connections_clash types a.connections.items) ≡ false
    inside a is = (or_parts (t.redeclares_gate a.gates) (t.submodules_clash types a.submodules || k.connections_clash types a.connections.items) (parts a is).1).1

    sound : (a : TypeDeclaration) → IsAmong a types → IsSoundSection a.lines
    sound a is = sound_told a.lines (parts a is).0

    members : (a : TypeDeclaration) → IsAmong a types → (t.repeats_submodule a.submodules ≡ false) × (t.has_other_kind types a.submodules ≡ false) × (t.bodies_clash types a.submodules ≡ false) × (t.bodies_declare a.submodules ≡ false)
    members a is =
        let all = or_parts (t.submodules_clash types a.submodules) (k.connections_clash types a.connections.items) (inside a is) in
        let first = or_parts (t.repeats_submodule a.submodules) (t.has_other_kind types a.submodules || (t.bodies_clash types a.submodules || t.bodies_declare a.submodules)) all.0 in
        let rest = or_parts (t.has_other_kind types a.submodules) (t.bodies_clash types a.submodules || t.bodies_declare a.submodules) first.1 in
        let last = or_parts (t.bodies_clash types a.submodules) (t.bodies_declare a.submodules) rest.1 in
        (first.0, rest.0, last.0, last.1)

pub no_clash : (types : List TypeDeclaration) → IsWellFormed types → k.has_clash types ≡ false
no_clash types w = any_made (λ x. k.clashes types x) types (λ a is. or_false (t.section_clashes a.lines) _ (sound_made a.lines (w.parameters a is)) (or_false (t.redeclares_gate a.gates) _ (gates_made a.gates (w.gates a is)) (or_false (t.submodules_clash types a.submodules) _ (inside a is) (channels_made types a.connections.items w (w.channels a is)))))
  where
    fit : (a : TypeDeclaration) → IsAmong a types → (s : Submodule) → IsAmong s a.submodules → t.has_unfit_body types s ≡ false
    fit a is s in-a =
        let found = w.suited a is s in-a in
        unfit_by types s found.0 w.names found.1 found.2 ∙ body_made found.0.lines s.body.lines (w.bodies a is s in-a found.0 found.1 found.2)

    inside : (a : TypeDeclaration) → IsAmong a types → t.submodules_clash types a.submodules ≡ false
    inside a is = or_false (t.repeats_submodule a.submodules) _ (no_repeat a.submodules (w.submodules a is)) (or_false (t.has_other_kind types a.submodules) _ (no_other_kind types w a is) (or_false (t.bodies_clash types a.submodules) _ (any_made (λ s. t.has_unfit_body types s) a.submodules (fit a is)) (no_gate_made a.submodules (w.sizes a is))))
