-- Models that are alike but in some parameters give the same answers to questions about no such one.
use Rattle.std.proofs.Common.{◌≡◌, ◌∙◌, ℕ, Bool, true, false, not, if◌then◌else◌, List, [], ◌∷◌, ◌++◌, Option, Some, None, ap, refl, sym, subst, map, option_map}
use Rattle.std.specs.Option.{option_and_then}
use Rattle.inside_keys.specs.declared.found.Inside.{Inside}
use Rattle.inside_keys.specs.declared.key.Module.{Module}
use Rattle.inside_keys.specs.declared.key.What.TheVariants as what
use Rattle.inside_keys.specs.Settings.{ModuleRules, Whereabouts, declarer, declarer_of, type_gates}
use Rattle.inside_parts.specs.declared.gates.TypeGate.{TypeGate}
use Rattle.inside_parts.specs.declared.gates.TypeGates.{TypeGates}
use Rattle.inside_parts.specs.Gates as gates
use Rattle.model_answers.specs.Answering.{answers_of}
use Rattle.model_answers.specs.Insides.{Seat, declared_size, gates_answer, gates_in, gates_of_type, hop_answer, hop_by, inside_in, inside_of, next_by, next_inwards, next_outwards, seat_by, seat_of, seat_typed, seated_size, size_in, sized_gates}
use Rattle.model_answers.specs.Keyed.{lines_of, module_at, names_in, number_in, param_answer, type_at_number, type_in, type_of, value_answer, value_of}
use Rattle.model_answers.specs.Lines.{created_in, creations_in, counted, made_in, maybe_site, rules_at, site_of}
use Rattle.model_data.specs.declared.model.Model.{Model}
use Rattle.model_inside.specs.declared.hops.Way.{Way}
use Rattle.model_inside.specs.declared.hops.Way.TheVariants.{Onwards, Back}
use Rattle.model_inside.specs.declared.hops.Seen.TheVariants.{FromOutside, FromInside}
use Rattle.model_inside.specs.Hops.{half_named, is_outwards, next_in}
use Rattle.model_inside.specs.Sized.{finished_size}
use Rattle.model_questions.specs.declared.answer.Answer.{Answer}
use Rattle.model_questions.specs.declared.answer.Answer.TheVariants as answer
use Rattle.model_questions.specs.declared.answer.Question.TheVariants.{Root, TypeOf, Build, Param, GateSize, Hop, HopBack, BeyondLimit, InjectionBefore}
use Rattle.model_questions.specs.declared.record.Origin.{Origin}
use Rattle.model_questions.specs.declared.record.Origin.TheVariants as origin
use Rattle.model_questions.specs.declared.record.Record.{Record}
use Rattle.model_questions.specs.Answers.{is_declared}
use Rattle.model_questions.specs.Gates.{gate_named}
use Rattle.model_questions.specs.Records.{Lineage, is_built, path_along, path_of, place_of, record_there}
use Rattle.model_settings.proofs.Before.{none_created}
use Rattle.model_settings.specs.declared.created.Creation.{Creation}
use Rattle.model_settings.specs.Created.{rules_with}
use Rattle.model_settings.specs.Standings.{before_last, setting_of, standing_of}
use Rattle.module_api.specs.declared.call.Gate.{Gate}
use Rattle.ned_trees.specs.declared.connections.Half.{Half}
use Rattle.ned_trees.specs.declared.declarations.TypeDeclaration.{TypeDeclaration}
use Rattle.model_agreement.specs.declared.changes.ChangedParameter.{ChangedParameter}
use Rattle.model_agreement.specs.Changes.{has_created, is_changed, AreAlikeBut, IsSameAt, SparedAreAlike}

-- ---- lines in which no module was created

none_in : (p : Lineage) → has_created p ≡ false → creations_in p ≡ []
none_in [] e = refl
none_in (r ∷ rs) e = by r.origin (site_of (r ∷ rs)) (none_in rs) e
  where
    by : (o : Origin) (site : Module) → (has_created rs ≡ false → creations_in rs ≡ []) → (if is_built o then has_created rs else true) ≡ false
        → (creations_in rs ++ made_in (maybe_site rs) site r o) ≡ []
    by origin.Built site h e = ap (λ (cs : List Creation). cs ++ []) (h e)
    by (origin.Created plan) site h e = cc

number_none : (p : Lineage) → has_created p ≡ false → created_in p ≡ 0
number_none [] e = refl
number_none (r ∷ rs) e = by r.origin (number_none rs) e
  where
    by : (o : Origin) → (has_created rs ≡ false → created_in rs ≡ 0) → (if is_built o then has_created rs else true) ≡ false
        → counted o (created_in rs) ≡ 0
    by origin.Built h e = h e
    by (origin.Created plan) h e = cc

site_is : (p : Lineage) → has_created p ≡ false → site_of p ≡ module_at (path_along p)
site_is p e = ap (λ (n : ℕ). record { created = n; path = path_along p }) (number_none p e)

rules_are : (m : Model) (p : Lineage) → has_created p ≡ false → rules_at m p ≡ setting_of m
rules_are m p e = ap (λ (cs : List Creation). rules_with m cs) (none_in p e) ∙ none_created m

-- what is answered by rules that both models say alike is the same in such a line
by_models : {X : Type 0} (answered : ModuleRules → X) (m n : Model) (p : Lineage) → has_created p ≡ false → answered (setting_of m) ≡ answered (setting_of n)
    → answered (rules_at m p) ≡ answered (rules_at n p)
by_models answered m n p e h = ap answered (rules_are m p e) ∙ h ∙ sym (ap answered (rules_are n p e))

-- ---- what models of the same types say alike

types_are : (m n : Model) → m.types ≡ n.types → (setting_of m).types ≡ (setting_of n).types
unfolding setting_of
types_are m n h = h

stands_are : (m : Model) (x : Module) → (setting_of m).stands x ≡ standing_of x
unfolding setting_of
stands_are m x = refl

gates_are : (m n : Model) → m.types ≡ n.types → type_gates (setting_of m) ≡ type_gates (setting_of n)
gates_are m n h = ap (λ (ts : List TypeDeclaration). map (λ (t : TypeDeclaration). gates.gates_of t.gates) ts) (types_are m n h)

type_is : (m n : Model) (x : Module) → m.types ≡ n.types → value_of (setting_of m) x what.Type ≡ value_of (setting_of n) x what.Type
    → type_of (setting_of m) x ≡ type_of (setting_of n) x
type_is m n x types same =
    ap (λ (ts : List TypeDeclaration). type_at_number ts (number_in (value_of (setting_of m) x what.Type))) (types_are m n types)
    ∙ ap (λ v. type_at_number (setting_of n).types (number_in v)) same

inside_is : (m n : Model) (x : Module) → value_of (setting_of m) x what.Inside ≡ value_of (setting_of n) x what.Inside
    → inside_of (setting_of m) x ≡ inside_of (setting_of n) x
inside_is m n x same = ap inside_in same

-- ---- the part that a module is

abbrev AroundIsSame : Model → Model → Option (List ℕ) → Type 0
AroundIsSame m n o = (path : List ℕ) → o ≡ Some path → IsSameAt m n path what.Type × IsSameAt m n path what.Inside

seat_is_in : (m n : Model) (stands : Whereabouts) (o : Option (List ℕ)) → m.types ≡ n.types → AroundIsSame m n o
    → seat_by (setting_of m) stands (option_map module_at o) ≡ seat_by (setting_of n) stands (option_map module_at o)
seat_is_in m n stands None types same = refl
seat_is_in m n stands (Some path) types same =
    ap (λ (t : Option TypeDeclaration). seat_typed stands t (inside_of (setting_of m) (module_at path))) (type_is m n (module_at path) types (same path refl).0)
    ∙ ap (λ (i : Option Inside). seat_typed stands (type_of (setting_of n) (module_at path)) i) (inside_is m n (module_at path) (same path refl).1)

seat_stands : (m : Model) (x : Module) → seat_of (setting_of m) x ≡ seat_by (setting_of m) (standing_of x) (declarer_of (standing_of x))
seat_stands m x = ap (λ (t : Whereabouts). seat_by (setting_of m) t (declarer_of t)) (stands_are m x)

seat_is : (m n : Model) (path : List ℕ) → m.types ≡ n.types → AroundIsSame m n (before_last path)
    → seat_of (setting_of m) (module_at path) ≡ seat_of (setting_of n) (module_at path)
seat_is m n path types same =
    seat_stands m (module_at path) ∙ seat_is_in m n (standing_of (module_at path)) (before_last path) types same ∙ sym (seat_stands n (module_at path))

-- ---- gates

seated_in : (m n : Model) (t : Seat) (gs : List TypeGate) → m.types ≡ n.types
    → sized_gates (seated_size (setting_of m) (Some t)) gs ≡ sized_gates (seated_size (setting_of n) (Some t)) gs
seated_in m n t gs types j = sized_gates (λ g. finished_size (gates_are m n types j) t.inside.parts t.inside.wiring t.part g) gs

seated_sizes : (m n : Model) (seat : Option Seat) (gs : List TypeGate) → m.types ≡ n.types
    → sized_gates (seated_size (setting_of m) seat) gs ≡ sized_gates (seated_size (setting_of n) seat) gs
seated_sizes m n None gs types = refl
seated_sizes m n (Some t) gs types = seated_in m n t gs types

declared_sizes : (m n : Model) (x : Module) (gs : List TypeGate) → ((g : List ℕ) → value_of (setting_of m) x (what.Declared g) ≡ value_of (setting_of n) x (what.Declared g))
    → sized_gates (declared_size (setting_of m) x) gs ≡ sized_gates (declared_size (setting_of n) x) gs
declared_sizes m n x gs same j = sized_gates (λ g. size_in (same g j)) gs

gates_in_are : (m n : Model) (x : Module) (around : Option Module) (gs : List TypeGate) → m.types ≡ n.types
    → seat_of (setting_of m) x ≡ seat_of (setting_of n) x
    → ((g : List ℕ) → value_of (setting_of m) x (what.Declared g) ≡ value_of (setting_of n) x (what.Declared g))
    → gates_in (setting_of m) x around gs ≡ gates_in (setting_of n) x around gs
gates_in_are m n x None gs types seat same = declared_sizes m n x gs same
gates_in_are m n x (Some around) gs types seat same =
    ap (λ (t : Option Seat). sized_gates (seated_size (setting_of m) t) gs) seat ∙ seated_sizes m n (seat_of (setting_of n) x) gs types

declarer_is : (m : Model) (x : Module) → declarer (setting_of m) x ≡ declarer_of (standing_of x)
declarer_is m x = ap declarer_of (stands_are m x)

gates_answer_is : (m n : Model) (x : Module) (t : Option TypeDeclaration) → m.types ≡ n.types
    → seat_of (setting_of m) x ≡ seat_of (setting_of n) x
    → ((g : List ℕ) → value_of (setting_of m) x (what.Declared g) ≡ value_of (setting_of n) x (what.Declared g))
    → gates_answer (setting_of m) x t ≡ gates_answer (setting_of n) x t
gates_answer_is m n x None types seat same = refl
gates_answer_is m n x (Some t) types seat same =
    ap (λ (a : Option Module). gates_in (setting_of m) x a (gates_of_type t)) (declarer_is m x)
    ∙ gates_in_are m n x (declarer_of (standing_of x)) (gates_of_type t) types seat same
    ∙ ap (λ (a : Option Module). gates_in (setting_of n) x a (gates_of_type t)) (sym (declarer_is n x))

-- ---- hops

outwards_is : (m n : Model) (way : Way) (g : List ℕ) (index : ℕ) (seat : Option Seat) → m.types ≡ n.types
    → next_outwards (setting_of m) way g index seat ≡ next_outwards (setting_of n) way g index seat
outwards_is m n way g index None types = refl
outwards_is m n way g index (Some t) types =
    ap (λ (gs : List TypeGates). next_in gs t.of_type.submodules t.inside.parts t.inside.wiring (FromOutside t.part) way g index) (gates_are m n types)

inwards_is : (m n : Model) (t : TypeDeclaration) (way : Way) (g : List ℕ) (index : ℕ) (i : Option Inside) → m.types ≡ n.types
    → next_inwards (setting_of m) t way g index i ≡ next_inwards (setting_of n) t way g index i
inwards_is m n t way g index None types = refl
inwards_is m n t way g index (Some i) types =
    ap (λ (gs : List TypeGates). next_in gs t.submodules i.parts i.wiring FromInside way g index) (gates_are m n types)

next_is : (m n : Model) (x : Module) (t : TypeDeclaration) (way : Way) (half : Half) (g : List ℕ) (index : ℕ) → m.types ≡ n.types
    → seat_of (setting_of m) x ≡ seat_of (setting_of n) x → inside_of (setting_of m) x ≡ inside_of (setting_of n) x
    → next_by (setting_of m) x t way half g index ≡ next_by (setting_of n) x t way half g index
next_is m n x t way half g index types seat inside = by (is_outwards way half)
  where
    out : next_outwards (setting_of m) way g index (seat_of (setting_of m) x) ≡ next_outwards (setting_of n) way g index (seat_of (setting_of n) x)
    out = ap (λ (o : Option Seat). next_outwards (setting_of m) way g index o) seat ∙ outwards_is m n way g index (seat_of (setting_of n) x) types

    within : next_inwards (setting_of m) t way g index (inside_of (setting_of m) x) ≡ next_inwards (setting_of n) t way g index (inside_of (setting_of n) x)
    within = ap (λ (i : Option Inside). next_inwards (setting_of m) t way g index i) inside ∙ inwards_is m n t way g index (inside_of (setting_of n) x) types

    by : (b : Bool)
        → (if b then next_outwards (setting_of m) way g index (seat_of (setting_of m) x) else next_inwards (setting_of m) t way g index (inside_of (setting_of m) x))
        ≡ (if b then next_outwards (setting_of n) way g index (seat_of (setting_of n) x) else next_inwards (setting_of n) t way g index (inside_of (setting_of n) x))
    by true = out
    by false = within

hop_by_is : (m n : Model) (x : Module) (t : TypeDeclaration) (way : Way) (index : ℕ) (h : Option (List ℕ × Half)) → m.types ≡ n.types
    → seat_of (setting_of m) x ≡ seat_of (setting_of n) x → inside_of (setting_of m) x ≡ inside_of (setting_of n) x
    → hop_by (setting_of m) x t way index h ≡ hop_by (setting_of n) x t way index h
hop_by_is m n x t way index None types seat inside = refl
hop_by_is m n x t way index (Some h) types seat inside = ap answer.Next (next_is m n x t way h.1 h.0 index types seat inside)

hop_answer_is : (m n : Model) (x : Module) (t : Option TypeDeclaration) (way : Way) (name : List ℕ) (index : ℕ) → m.types ≡ n.types
    → seat_of (setting_of m) x ≡ seat_of (setting_of n) x → inside_of (setting_of m) x ≡ inside_of (setting_of n) x
    → hop_answer (setting_of m) way x t name index ≡ hop_answer (setting_of n) way x t name index
hop_answer_is m n x None way name index types seat inside = refl
hop_answer_is m n x (Some t) way name index types seat inside = hop_by_is m n x t way index (half_named name (gates_of_type t)) types seat inside

-- ---- parameters

param_answer_is : (m n : Model) (x : Module) (t : Option TypeDeclaration) (name : List ℕ) → value_of (setting_of m) x (what.Param name) ≡ value_of (setting_of n) x (what.Param name)
    → param_answer (setting_of m) x t name ≡ param_answer (setting_of n) x t name
param_answer_is m n x None name same = refl
param_answer_is m n x (Some t) name same = ap (λ v. value_answer x.path v) same

-- ---- the module of an id

-- what both say alike of the module that stands in such a line
record AreSame (m n : Model) (p : Lineage) : Type 0 where
  types : m.types ≡ n.types
  none : has_created p ≡ false
  type : IsSameAt m n (path_along p) what.Type
  inside : IsSameAt m n (path_along p) what.Inside
  sizes : (g : List ℕ) → IsSameAt m n (path_along p) (what.Declared g)
  around : AroundIsSame m n (before_last (path_along p))

same_at : (m n : Model) (cs : List ChangedParameter) (rs : List Record) (id : ℕ) → AreAlikeBut m n cs rs → has_created (place_of rs id) ≡ false → AreSame m n (place_of rs id)
same_at m n cs rs id h e = record {
  types = h.types;
  none = e;
  type = h.own id e what.Type refl;
  inside = h.own id e what.Inside refl;
  sizes = λ g. h.own id e (what.Declared g) refl;
  around = h.around id e;
}

type_in_is : (m n : Model) (p : Lineage) → AreSame m n p → type_in (setting_of m) p ≡ type_in (setting_of n) p
type_in_is m n p h =
    ap (λ (t : Option TypeDeclaration). option_and_then (λ (r : Record). t) (record_there p))
    (subst (λ (x : Module). type_of (setting_of m) x ≡ type_of (setting_of n) x) (sym (site_is p h.none)) (type_is m n (module_at (path_along p)) h.types h.type))

gates_there_are : (m n : Model) (p : Lineage) → AreSame m n p
    → gates_answer (setting_of m) (site_of p) (type_in (setting_of m) p) ≡ gates_answer (setting_of n) (site_of p) (type_in (setting_of n) p)
gates_there_are m n p h =
    ap (λ (t : Option TypeDeclaration). gates_answer (setting_of m) (site_of p) t) (type_in_is m n p h)
    ∙ subst (λ (x : Module). gates_answer (setting_of m) x (type_in (setting_of n) p) ≡ gates_answer (setting_of n) x (type_in (setting_of n) p)) (sym (site_is p h.none))
    (gates_answer_is m n (module_at (path_along p)) (type_in (setting_of n) p) h.types (seat_is m n (path_along p) h.types h.around) h.sizes)

hop_there_is : (m n : Model) (p : Lineage) (way : Way) (name : List ℕ) (index : ℕ) → AreSame m n p
    → hop_answer (setting_of m) way (site_of p) (type_in (setting_of m) p) name index ≡ hop_answer (setting_of n) way (site_of p) (type_in (setting_of n) p) name index
hop_there_is m n p way name index h =
    ap (λ (t : Option TypeDeclaration). hop_answer (setting_of m) way (site_of p) t name index) (type_in_is m n p h)
    ∙ subst (λ (x : Module). hop_answer (setting_of m) way x (type_in (setting_of n) p) name index ≡ hop_answer (setting_of n) way x (type_in (setting_of n) p) name index) (sym (site_is p h.none))
    (hop_answer_is m n (module_at (path_along p)) (type_in (setting_of n) p) way name index h.types (seat_is m n (path_along p) h.types h.around) (inside_is m n (module_at (path_along p)) h.inside))

-- the value of a parameter, where the type declares one of that name
abbrev param_by : ModuleRules → Lineage → List ℕ → Answer
param_by s p name = if is_declared name (names_in (lines_of (type_in s p))) then param_answer s (site_of p) (type_in s p) name else answer.Absent

param_there_is : (m n : Model) (p : Lineage) (name : List ℕ) → AreSame m n p → IsSameAt m n (path_along p) (what.Param name)
    → param_by (setting_of m) p name ≡ param_by (setting_of n) p name
param_there_is m n p name h same =
    ap (λ (t : Option TypeDeclaration). if is_declared name (names_in (lines_of t)) then param_answer (setting_of m) (site_of p) t name else answer.Absent) (type_in_is m n p h)
    ∙ ap (λ (a : Answer). if is_declared name (names_in (lines_of (type_in (setting_of n) p))) then a else answer.Absent)
    (subst (λ (x : Module). param_answer (setting_of m) x (type_in (setting_of n) p) name ≡ param_answer (setting_of n) x (type_in (setting_of n) p) name) (sym (site_is p h.none))
    (param_answer_is m n (module_at (path_along p)) (type_in (setting_of n) p) name same))

-- ---- questions

not_true : (b : Bool) → not b ≡ true → b ≡ false
not_true true e = cc
not_true false e = refl

stays : (created changed : Bool) → (if created then false else not changed) ≡ true → (created ≡ false) × (not changed ≡ true)
stays true changed e = cc
stays false changed e = (refl, e)

pub spared_alike : SparedAreAlike
unfolding answers_of
spared_alike m n cs rs Root h e = cc
spared_alike m n cs rs (TypeOf id) h e = cc
spared_alike m n cs rs (Build id) h e = cc
spared_alike m n cs rs (Param id name) h e =
    let k = stays (has_created (place_of rs id)) (is_changed cs (path_of rs id) name) e in
    by_models (λ s. param_by s (place_of rs id) name) m n (place_of rs id) k.0
    (param_there_is m n (place_of rs id) name (same_at m n cs rs id h k.0) (h.own id k.0 (what.Param name) k.1))
spared_alike m n cs rs (GateSize id name) h e =
    let k = not_true (has_created (place_of rs id)) e in
    ap (λ (gs : List Gate). gate_named name gs)
    (by_models (λ s. gates_answer s (site_of (place_of rs id)) (type_in s (place_of rs id))) m n (place_of rs id) k (gates_there_are m n (place_of rs id) (same_at m n cs rs id h k)))
spared_alike m n cs rs (Hop id name index) h e =
    let k = not_true (has_created (place_of rs id)) e in
    by_models (λ s. hop_answer s Onwards (site_of (place_of rs id)) (type_in s (place_of rs id)) name index) m n (place_of rs id) k
    (hop_there_is m n (place_of rs id) Onwards name index (same_at m n cs rs id h k))
spared_alike m n cs rs (HopBack id name index) h e =
    let k = not_true (has_created (place_of rs id)) e in
    by_models (λ s. hop_answer s Back (site_of (place_of rs id)) (type_in s (place_of rs id)) name index) m n (place_of rs id) k
    (hop_there_is m n (place_of rs id) Back name index (same_at m n cs rs id h k))
spared_alike m n cs rs (BeyondLimit time) h e = cc
spared_alike m n cs rs (InjectionBefore due last) h e = cc
