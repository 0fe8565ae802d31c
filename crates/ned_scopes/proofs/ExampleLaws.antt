-- The types of a worked example, whose tree is two levels deep.
use Rattle.std.proofs.Common.{◌≡◌, ℕ, List, [], ◌∷◌, ◌++◌, map, refl, ap, ◌∙◌}
use Rattle.ned_trees.specs.declared.declarations.NestedType.{NestedType, roll-NestedType}
use Rattle.ned_trees.specs.declared.declarations.NestedType.TheOpen.{NestedType-F}
use Rattle.ned_trees.specs.declared.declarations.NestedType.TheFolds.{fold-roll-NestedType}
use Rattle.ned_trees.specs.declared.declarations.NestedType.TheViews.{out-roll-NestedType}
use Rattle.ned_trees.specs.declared.declarations.TypeDeclaration.{TypeDeclaration}
use Rattle.ned_scopes.specs.declared.known.Known.{Known}
use Rattle.ned_scopes.specs.declared.known.TypesByName.{TypesByName}
use Rattle.ned_scopes.specs.Known.{all_behind}
use Rattle.ned_scopes.specs.Scopes.{all_types, inner_name, inner_types, known_as, known_from, known_step, known_within, resolved, resolved_from, resolved_step, resolved_within, scopes_of, types_by_name}
use Rattle.ned_scopes.specs.Example.{alone, around}

-- ---- one level

known_roll : (x : NestedType-F NestedType) (outer : List ℕ) → known_from (roll-NestedType x) outer ≡ known_as (inner_name outer x.declared.name) x.declared ∷ known_within (inner_name outer x.declared.name) x.types
known_roll x outer = ap (λ (f : List ℕ → List Known). f outer) (fold-roll-NestedType (List ℕ → List Known) known_step x)

resolved_roll : (types : TypesByName) (x : NestedType-F NestedType) (scopes : List (List ℕ)) → resolved_from types (roll-NestedType x) scopes ≡ resolved types scopes (scopes_of types scopes x.declared) x.declared ∷ resolved_within types (scopes_of types scopes x.declared) x.types
resolved_roll types x scopes = ap (λ (f : List (List ℕ) → List TypeDeclaration). f scopes) (fold-roll-NestedType (List (List ℕ) → List TypeDeclaration) (resolved_step types) x)

-- ---- types within which there are none

abbrev pub known_in : List ℕ → TypeDeclaration → Known
known_in outer t = known_as (inner_name outer t.name) t

all_known : (outer : List ℕ) (ts : List TypeDeclaration) → known_within outer (map alone ts) ≡ map (known_in outer) ts
all_known outer [] = refl
all_known outer (t ∷ ts) =
    ap (λ (ks : List Known). ks ++ known_within outer (map alone ts)) (known_roll (record { declared = t; types = [] }) outer)
    ∙ ap (λ (ks : List Known). known_in outer t ∷ ks) (all_known outer ts)

abbrev pub resolved_in : TypesByName → List (List ℕ) → TypeDeclaration → TypeDeclaration
resolved_in types scopes t = resolved types scopes (scopes_of types scopes t) t

all_resolved : (types : TypesByName) (scopes : List (List ℕ)) (ts : List TypeDeclaration) → resolved_within types scopes (map alone ts) ≡ map (resolved_in types scopes) ts
all_resolved types scopes [] = refl
all_resolved types scopes (t ∷ ts) =
    ap (λ (us : List TypeDeclaration). us ++ resolved_within types scopes (map alone ts)) (resolved_roll types (record { declared = t; types = [] }) scopes)
    ∙ ap (λ (us : List TypeDeclaration). resolved_in types scopes t ∷ us) (all_resolved types scopes ts)

-- ---- two levels

abbrev pub inner_two : List (TypeDeclaration × List TypeDeclaration) → List Known
inner_two [] = []
inner_two (p ∷ ps) = map (known_in p.0.name) p.1 ++ inner_two ps

abbrev pub all_two : List (TypeDeclaration × List TypeDeclaration) → List Known
all_two [] = []
all_two (p ∷ ps) = known_as p.0.name p.0 ∷ (map (known_in p.0.name) p.1 ++ all_two ps)

abbrev pub resolved_two : TypesByName → List (TypeDeclaration × List TypeDeclaration) → List TypeDeclaration
resolved_two types [] = []
resolved_two types (p ∷ ps) = resolved_in types [] p.0 ∷ (map (resolved_in types (scopes_of types [] p.0)) p.1 ++ resolved_two types ps)

inner_is : (ps : List (TypeDeclaration × List TypeDeclaration)) → inner_types (map around ps) ≡ inner_two ps
inner_is [] = refl
inner_is (p ∷ ps) =
    ap (λ (x : NestedType-F NestedType). known_within x.declared.name x.types ++ inner_types (map around ps)) (out-roll-NestedType (record { declared = p.0; types = map alone p.1 }))
    ∙ ap (λ (ks : List Known). ks ++ inner_types (map around ps)) (all_known p.0.name p.1)
    ∙ ap (λ (ks : List Known). map (known_in p.0.name) p.1 ++ ks) (inner_is ps)

all_is : (ps : List (TypeDeclaration × List TypeDeclaration)) → all_types (map around ps) ≡ all_two ps
all_is [] = refl
all_is (p ∷ ps) =
    ap (λ (x : NestedType-F NestedType). known_as x.declared.name x.declared ∷ (known_within x.declared.name x.types ++ all_types (map around ps))) (out-roll-NestedType (record { declared = p.0; types = map alone p.1 }))
    ∙ ap (λ (ks : List Known). known_as p.0.name p.0 ∷ (ks ++ all_types (map around ps))) (all_known p.0.name p.1)
    ∙ ap (λ (ks : List Known). known_as p.0.name p.0 ∷ (map (known_in p.0.name) p.1 ++ ks)) (all_is ps)

resolved_is : (types : TypesByName) (ps : List (TypeDeclaration × List TypeDeclaration)) → resolved_within types [] (map around ps) ≡ resolved_two types ps
resolved_is types [] = refl
resolved_is types (p ∷ ps) =
    ap (λ (us : List TypeDeclaration). us ++ resolved_within types [] (map around ps)) (resolved_roll types (record { declared = p.0; types = map alone p.1 }) [])
    ∙ ap (λ (us : List TypeDeclaration). resolved_in types [] p.0 ∷ (us ++ resolved_within types [] (map around ps))) (all_resolved types (scopes_of types [] p.0) p.1)
    ∙ ap (λ (us : List TypeDeclaration). resolved_in types [] p.0 ∷ (map (resolved_in types (scopes_of types [] p.0)) p.1 ++ us)) (resolved_is types ps)

abbrev pub two_by_name : List (TypeDeclaration × List TypeDeclaration) → TypesByName
two_by_name ps = record { all = all_behind [] (all_two ps); inner = all_behind [] (inner_two ps) }

-- all types of a tree two levels deep
pub two_levels : (ps : List (TypeDeclaration × List TypeDeclaration)) → resolved_within (types_by_name (map around ps)) [] (map around ps) ≡ resolved_two (two_by_name ps) ps
two_levels ps =
    ap (λ (ks : List Known). resolved_within (record { all = all_behind [] ks; inner = all_behind [] (inner_types (map around ps)) }) [] (map around ps)) (all_is ps)
    ∙ ap (λ (ks : List Known). resolved_within (record { all = all_behind [] (all_two ps); inner = all_behind [] ks }) [] (map around ps)) (inner_is ps)
    ∙ resolved_is (two_by_name ps) ps
