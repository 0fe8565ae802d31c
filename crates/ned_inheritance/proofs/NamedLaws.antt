-- Types by their names: what is found, what is added, and when two have one name.
use Rattle.std.proofs.Common.{◌≡◌, ℕ, suc, Bool, true, false, not, ◌||◌, List, [], ◌∷◌, ◌++◌, Option, Some, None, refl, sym, ap, ◌∙◌, arith, length, append_assoc, bytes_eq, Bor, if◌then◌else◌}
use Rattle.std.proofs.lemmas.Bool.{false≢true}
use Rattle.std.specs.Prelude.{is_some, is_none}
use Rattle.std.specs.Map.{lookup, values_of}
use Rattle.std.specs.Option.{option_map}
use Rattle.ned_trees.specs.declared.declarations.TypeDeclaration.{TypeDeclaration}
use Rattle.ned_types.specs.Types.{type_named, is_built_in, is_type_named, has_duplicate}
use Rattle.ned_inheritance.specs.Inheritance.{types_in}
use Rattle.ned_inheritance.specs.Places.{duplicate_from}
use Rattle.ned_inheritance.specs.Named.{types_at, HaveNames, is_one_taken}
use Rattle.ned_inheritance.proofs.WellFormedLaws.{same_names, names_same, names_apart, apart_names}
use Rattle.indexmap.specs.IndexMap.{insert_entry}

abbrev pub Entry : Type 0
Entry = Bor (List ℕ) × Bor TypeDeclaration

-- ---- what is found

pub turned : (a b : List ℕ) → bytes_eq a b ≡ bytes_eq b a
turned a b = by (bytes_eq a b) refl
  where
    by : (c : Bool) → bytes_eq a b ≡ c → bytes_eq a b ≡ bytes_eq b a
    by true e = e ∙ sym (names_same b a (sym (same_names a b e)))
    by false e = e ∙ sym (apart_names b a (λ q. names_apart a b e (sym q)))

pub at_name : (e : Entry) (name : List ℕ) → e.0.now ≡ e.1.now.name → bytes_eq name e.0.now ≡ bytes_eq e.1.now.name name
at_name e name h = ap (bytes_eq name) h ∙ turned name e.1.now.name

pub found : (name : List ℕ) (es : List Entry) → HaveNames es → option_map (λ (r : Bor TypeDeclaration). r.now) (lookup (λ (k : Bor (List ℕ)). bytes_eq name k.now) es) ≡ type_named name (types_at es)
found name [] h = refl
found name (e ∷ es) h = by (bytes_eq name e.0.now) (bytes_eq e.1.now.name name) (at_name e name h.0) (found name es h.1)
  where
    by : (b c : Bool) → b ≡ c → option_map (λ (r : Bor TypeDeclaration). r.now) (lookup (λ (k : Bor (List ℕ)). bytes_eq name k.now) es) ≡ type_named name (types_at es)
        → option_map (λ (r : Bor TypeDeclaration). r.now) (if b then Some e.1 else lookup (λ (k : Bor (List ℕ)). bytes_eq name k.now) es) ≡ (if c then Some e.1.now else type_named name (types_at es))
    by true true p later = refl
    by false false p later = later
    by true false p later = absurd (false≢true (sym p))
    by false true p later = absurd (false≢true p)

-- a type is found exactly where one has the name
pub is_found : (name : List ℕ) (ts : List TypeDeclaration) → is_some (type_named name ts) ≡ is_type_named name ts
is_found name [] = refl
is_found name (t ∷ ts) = by (bytes_eq t.name name) (is_found name ts)
  where
    by : (b : Bool) → is_some (type_named name ts) ≡ is_type_named name ts → is_some (if b then Some t else type_named name ts) ≡ (b || is_type_named name ts)
    by true later = refl
    by false later = later

pub some_of : (o : Option (Bor TypeDeclaration)) → is_some o ≡ is_some (option_map (λ (r : Bor TypeDeclaration). r.now) o)
some_of (Some r) = refl
some_of None = refl

-- and in the map
pub is_there : (name : List ℕ) (es : List Entry) → HaveNames es → is_some (lookup (λ (k : Bor (List ℕ)). bytes_eq name k.now) es) ≡ is_type_named name (types_at es)
is_there name es h = some_of (lookup (λ (k : Bor (List ℕ)). bytes_eq name k.now) es) ∙ ap is_some (found name es h) ∙ is_found name (types_at es)

-- nothing stands there exactly where no type has the name
pub is_absent : (k : Bor (List ℕ)) (name : List ℕ) (es : List Entry) → HaveNames es → k.now ≡ name → is_none (lookup (λ (y : Bor (List ℕ)). bytes_eq k.now y.now) es) ≡ not (is_type_named name (types_at es))
is_absent k name es h n = none_of (lookup (λ (y : Bor (List ℕ)). bytes_eq k.now y.now) es) ∙ ap not (is_there k.now es h) ∙ ap (λ (m : List ℕ). not (is_type_named m (types_at es))) n
  where
    none_of : (o : Option (Bor TypeDeclaration)) → is_none o ≡ not (is_some o)
    none_of (Some r) = refl
    none_of None = refl

-- what it tells that nothing is there
pub told_none : (o : Option (Bor TypeDeclaration)) (none : Bool) → is_some o ≡ not none → none ≡ is_none o
told_none (Some r) true e = absurd (false≢true (sym e))
told_none (Some r) false e = refl
told_none None true e = refl
told_none None false e = absurd (false≢true e)

-- ---- what is added

pub have_more : (k : Bor (List ℕ)) (t : Bor TypeDeclaration) (es : List Entry) → k.now ≡ t.now.name → HaveNames es → HaveNames (insert_entry (λ (x y : Bor (List ℕ)). bytes_eq x.now y.now) es k t)
have_more k t [] n h = (n, tt)
have_more k t (e ∷ es) n h = by (bytes_eq k.now e.0.now) refl (have_more k t es n h.1)
  where
    by : (b : Bool) → bytes_eq k.now e.0.now ≡ b → HaveNames (insert_entry (λ (x y : Bor (List ℕ)). bytes_eq x.now y.now) es k t) → HaveNames (if b then (e.0, t) ∷ es else e ∷ insert_entry (λ (x y : Bor (List ℕ)). bytes_eq x.now y.now) es k t)
    by true p later = (sym (same_names k.now e.0.now p) ∙ n, h.1)
    by false p later = (h.0, later)

pub added : (k : Bor (List ℕ)) (t : Bor TypeDeclaration) (es : List Entry) → k.now ≡ t.now.name → HaveNames es → is_type_named t.now.name (types_at es) ≡ false → types_at (insert_entry (λ (x y : Bor (List ℕ)). bytes_eq x.now y.now) es k t) ≡ types_at es ++ t.now ∷ []
added k t [] n h none = refl
added k t (e ∷ es) n h none = by (bytes_eq k.now e.0.now) (bytes_eq e.1.now.name t.now.name) (at_name e k.now h.0 ∙ ap (bytes_eq e.1.now.name) n) none (added k t es n h.1)
  where
    by : (b c : Bool) → b ≡ c → (c || is_type_named t.now.name (types_at es)) ≡ false → (is_type_named t.now.name (types_at es) ≡ false → types_at (insert_entry (λ (x y : Bor (List ℕ)). bytes_eq x.now y.now) es k t) ≡ types_at es ++ t.now ∷ [])
        → types_at (if b then (e.0, t) ∷ es else e ∷ insert_entry (λ (x y : Bor (List ℕ)). bytes_eq x.now y.now) es k t) ≡ e.1.now ∷ types_at es ++ t.now ∷ []
    by false false p q later = ap (λ ts. e.1.now ∷ ts) (later q)
    by b true p q later = absurd (false≢true (sym q))
    by true false p q later = absurd (false≢true (sym p))

-- ---- two types of one name

pub or_zero : (a : Bool) → (a || false) ≡ a
or_zero true = refl
or_zero false = refl

pub or_joined : (a b c : Bool) → ((a || b) || c) ≡ (a || (b || c))
or_joined true b c = refl
or_joined false b c = refl

or_one : (a : Bool) → (a || true) ≡ true
or_one true = refl
or_one false = refl

mixed : (a b c d : Bool) → ((a || b) || (c || d)) ≡ ((a || c) || (b || d))
mixed true b c d = refl
mixed false b true d = or_one b
mixed false b false d = refl

named_more : (name : List ℕ) (seen : List TypeDeclaration) (t : TypeDeclaration) → is_type_named name (seen ++ t ∷ []) ≡ (is_type_named name seen || bytes_eq t.name name)
named_more name [] t = or_zero (bytes_eq t.name name)
named_more name (s ∷ seen) t = ap (λ (b : Bool). bytes_eq s.name name || b) (named_more name seen t) ∙ sym (or_joined (bytes_eq s.name name) (is_type_named name seen) (bytes_eq t.name name))

taken_more : (seen : List TypeDeclaration) (t : TypeDeclaration) (ts : List TypeDeclaration) → is_one_taken (seen ++ t ∷ []) ts ≡ (is_one_taken seen ts || is_type_named t.name ts)
taken_more seen t [] = refl
taken_more seen t (u ∷ ts) =
    ap (λ b. b || is_one_taken (seen ++ t ∷ []) ts) (named_more u.name seen t ∙ ap (λ b. is_type_named u.name seen || b) (turned t.name u.name))
    ∙ ap (λ b. (is_type_named u.name seen || bytes_eq u.name t.name) || b) (taken_more seen t ts)
    ∙ mixed (is_type_named u.name seen) (bytes_eq u.name t.name) (is_one_taken seen ts) (is_type_named t.name ts)

abbrev pub is_taken_from : List TypeDeclaration → List TypeDeclaration → Bool
is_taken_from seen rest = is_one_taken seen rest || has_duplicate rest

-- no type is left
pub none_left : (seen rest types : List TypeDeclaration) → length rest ≡ 0 → is_taken_from seen rest ≡ has_duplicate types → seen ++ rest ≡ types → (has_duplicate types ≡ false) × (seen ≡ types)
none_left seen [] types h d e = (sym d, sym (nil seen) ∙ e)
  where
    nil : (ts : List TypeDeclaration) → ts ++ [] ≡ ts
    nil [] = refl
    nil (t ∷ ts) = ap (λ rs. t ∷ rs) (nil ts)
none_left seen (t ∷ ts) types h d e = absurd (omega (arith, h))

-- the next one has the name of a built-in channel
pub channel_name : (seen rest : List TypeDeclaration) (t : TypeDeclaration) (ts : List TypeDeclaration) → rest ≡ t ∷ ts → is_built_in t.name ≡ true → is_taken_from seen rest ≡ true
channel_name seen rest t ts is e =
    ap (is_taken_from seen) is
    ∙ ap (λ b. is_one_taken seen (t ∷ ts) || ((b || is_type_named t.name ts) || has_duplicate ts)) e
    ∙ or_one (is_one_taken seen (t ∷ ts))

-- or that of one before it
pub name_before : (seen rest : List TypeDeclaration) (t : TypeDeclaration) (ts : List TypeDeclaration) → rest ≡ t ∷ ts → is_type_named t.name seen ≡ true → is_taken_from seen rest ≡ true
name_before seen rest t ts is e = ap (is_taken_from seen) is ∙ ap (λ b. (b || is_one_taken seen ts) || has_duplicate (t ∷ ts)) e

-- or another one
pub name_of_its_own : (seen rest : List TypeDeclaration) (t : TypeDeclaration) (ts : List TypeDeclaration) → rest ≡ t ∷ ts → is_built_in t.name ≡ false → is_type_named t.name seen ≡ false → is_taken_from (seen ++ t ∷ []) ts ≡ is_taken_from seen rest
name_of_its_own seen rest t ts is e f =
    ap (λ b. b || has_duplicate ts) (taken_more seen t ts)
    ∙ or_joined (is_one_taken seen ts) (is_type_named t.name ts) (has_duplicate ts)
    ∙ sym (ap (λ b. is_one_taken seen ts || ((b || is_type_named t.name ts) || has_duplicate ts)) e)
    ∙ sym (ap (λ b. (b || is_one_taken seen ts) || ((is_built_in t.name || is_type_named t.name ts) || has_duplicate ts)) f)
    ∙ sym (ap (is_taken_from seen) is)

-- and then it is seen
pub one_moved : (seen rest types : List TypeDeclaration) (t : TypeDeclaration) (ts : List TypeDeclaration) → rest ≡ t ∷ ts → seen ++ rest ≡ types → (seen ++ t ∷ []) ++ ts ≡ types
one_moved seen rest types t ts is e = append_assoc seen (t ∷ []) ts ∙ sym (ap (λ rs. seen ++ rs) is) ∙ e

-- at first none is seen
pub none_seen : (seen types : List TypeDeclaration) → seen ≡ [] → (seen ++ types ≡ types) × (is_taken_from seen types ≡ has_duplicate types)
none_seen seen types e = (ap (λ (ns : List TypeDeclaration). ns ++ types) e, ap (λ (ns : List TypeDeclaration). is_taken_from ns types) e ∙ ap (λ (b : Bool). b || has_duplicate types) (none_of types))
  where
    none_of : (ts : List TypeDeclaration) → is_one_taken [] ts ≡ false
    none_of [] = refl
    none_of (t ∷ ts) = none_of ts

-- the first whose name is taken is the next one, or one after it
pub taken_here : (seen rest : List TypeDeclaration) (n : ℕ) (t : TypeDeclaration) (ts : List TypeDeclaration) → rest ≡ t ∷ ts → (is_built_in t.name || is_type_named t.name seen) ≡ true → duplicate_from seen n rest ≡ Some n
taken_here seen rest n t ts is e = ap (duplicate_from seen n) is ∙ ap (λ (b : Bool). if b then Some n else duplicate_from (seen ++ t ∷ []) (suc n) ts) e

pub taken_later : (seen rest : List TypeDeclaration) (n : ℕ) (t : TypeDeclaration) (ts : List TypeDeclaration) → rest ≡ t ∷ ts → is_built_in t.name ≡ false → is_type_named t.name seen ≡ false → duplicate_from (seen ++ t ∷ []) (suc n) ts ≡ duplicate_from seen n rest
taken_later seen rest n t ts is e f =
    sym (ap (duplicate_from seen n) is
    ∙ ap (λ (b : Bool). if b || is_type_named t.name seen then Some n else duplicate_from (seen ++ t ∷ []) (suc n) ts) e
    ∙ ap (λ (b : Bool). if b then Some n else duplicate_from (seen ++ t ∷ []) (suc n) ts) f)

pub one_longer : (ts : List TypeDeclaration) (t : TypeDeclaration) → length (ts ++ t ∷ []) ≡ suc (length ts)
one_longer [] t = refl
one_longer (u ∷ ts) t = ap suc (one_longer ts t)

pub named_or_built_in : (b x : Bool) → x ≡ true → (b || x) ≡ true
named_or_built_in b x e = ap (λ c. b || c) e ∙ or_one b

-- what the answer of an addition tells
pub told_there : (b x : Bool) → b ≡ not x → b ≡ false → x ≡ true
told_there b true e f = refl
told_there b false e f = absurd (false≢true (sym f ∙ e))

pub told_new : (b x : Bool) → b ≡ not x → b ≡ true → x ≡ false
told_new b false e f = refl
told_new b true e f = absurd (false≢true (sym e ∙ f))

-- ---- names, whatever stands at them

or_again : (a b : Bool) → (a || b) ≡ ((a || b) || a)
or_again true b = refl
or_again false true = refl
or_again false false = refl

pub names_added : (k : Bor (List ℕ)) (t : Bor TypeDeclaration) (es : List Entry) (name : List ℕ) → k.now ≡ t.now.name → HaveNames es → is_type_named name (types_at (insert_entry (λ (x y : Bor (List ℕ)). bytes_eq x.now y.now) es k t)) ≡ (is_type_named name (types_at es) || bytes_eq t.now.name name)
names_added k t [] name n h = or_zero (bytes_eq t.now.name name)
names_added k t (e ∷ es) name n h = by (bytes_eq k.now e.0.now) refl (names_added k t es name n h.1)
  where
    by : (b : Bool) → bytes_eq k.now e.0.now ≡ b → is_type_named name (types_at (insert_entry (λ (x y : Bor (List ℕ)). bytes_eq x.now y.now) es k t)) ≡ (is_type_named name (types_at es) || bytes_eq t.now.name name)
        → is_type_named name (types_at (if b then (e.0, t) ∷ es else e ∷ insert_entry (λ (x y : Bor (List ℕ)). bytes_eq x.now y.now) es k t)) ≡ ((bytes_eq e.1.now.name name || is_type_named name (types_at es)) || bytes_eq t.now.name name)
    by true p later =
        let same : t.now.name ≡ e.1.now.name = sym n ∙ same_names k.now e.0.now p ∙ h.0 in
        or_again (bytes_eq t.now.name name) (is_type_named name (types_at es))
        ∙ ap (λ (m : List ℕ). (bytes_eq m name || is_type_named name (types_at es)) || bytes_eq t.now.name name) same
    by false p later =
        ap (λ b. bytes_eq e.1.now.name name || b) later
        ∙ sym (or_joined (bytes_eq e.1.now.name name) (is_type_named name (types_at es)) (bytes_eq t.now.name name))

-- the types that the values of a map lead to
pub types_of_values : (es : List Entry) → types_in (values_of es) ≡ types_at es
types_of_values [] = refl
types_of_values (e ∷ es) = ap (λ ts. e.1.now ∷ ts) (types_of_values es)
