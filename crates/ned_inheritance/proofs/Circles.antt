-- A way along as many types as there are, and one more, comes to one of them twice.
use Rattle.std.proofs.Common.{◌≡◌, ⊎_elim, inl, inr, ◌⊎◌, ℕ, zero, suc, ◌+◌, ◌-◌, ◌<◌, ◌≤◌, Bool, true, false, not, ◌||◌, ◌&&◌, List, [], ◌∷◌, length, Option, Some, None, refl, sym, ap, ◌∙◌, subst, arith, slice_get, bytes_eq, if◌then◌else◌}
use Rattle.std.specs.List.{filter, list_any}
use Rattle.std.proofs.lemmas.Bool.{cases_eq, false≢true}
use Rattle.ned_trees.specs.declared.declarations.TypeDeclaration.{TypeDeclaration}
use Rattle.ned_types.specs.Types.{is_interface_kind, is_type_named}
use Rattle.ned_inheritance.specs.Inheritance.{extends_one, has_circle, heirs, is_base_among, is_one_among, is_one_left, left_after}
use Rattle.ned_inheritance.specs.Circles.{Extends, ExtendsItself, LeadsTo}
use Rattle.ned_types.specs.WellFormed.{IsAmong}
use Rattle.ned_inheritance.proofs.WellFormedLaws.{any_found, any_is, any_told, names_same, not_false, same_names}

-- ---- more numbers than places: two of them have one place

abbrev Repeats : (ℕ → ℕ) → ℕ → Type 0
Repeats f n = (i : ℕ) × ((j : ℕ) × (i < j) × (j ≤ n) × (f i ≡ f j))

abbrev Found : (ℕ → ℕ) → ℕ → ℕ → Type 0
Found f x n = (i : ℕ) × (i < n) × (f i ≡ x)

abbrev Missing : (ℕ → ℕ) → ℕ → ℕ → Type 0
Missing f x n = (i : ℕ) → i < n → f i ≡ x → ⊥

look : (f : ℕ → ℕ) (x n : ℕ) → Found f x n ⊎ Missing f x n
look f x zero = inr (λ i l e. absurd (omega (arith, l)))
look f x (suc n) = ⊎_elim here (later (look f x n)) (cases_eq (f n) x)
  where
    apart : (f n ≡ x → ⊥) → Missing f x n → Missing f x (suc n)
    apart d none i l e = ⊎_elim (λ (s : i ≡ n). d (ap f (sym s) ∙ e)) (λ (s : i ≡ n → ⊥). none i (omega (arith, l, s)) e) (cases_eq i n)

    here : f n ≡ x → Found f x (suc n) ⊎ Missing f x (suc n)
    here e = inl (n, omega arith, e)

    later : Found f x n ⊎ Missing f x n → (f n ≡ x → ⊥) → Found f x (suc n) ⊎ Missing f x (suc n)
    later (inl h) d = inl (h.0, omega (arith, h.1), h.2)
    later (inr none) d = inr (apart d none)

-- the place of a number, where who has the greatest place takes that of the last number instead
abbrev Moved : (ℕ → ℕ) → ℕ → ℕ → ℕ → Type 0
Moved f m i g = ((f i ≡ m) × (g ≡ f (suc m))) ⊎ ((f i ≡ m → ⊥) × (g ≡ f i))

moved : (f : ℕ → ℕ) (m i : ℕ) → (g : ℕ) × Moved f m i g
moved f m i = ⊎_elim (λ (e : f i ≡ m). (f (suc m), inl (e, refl))) (λ (d : f i ≡ m → ⊥). (f i, inr (d, refl))) (cases_eq (f i) m)

below : (f : ℕ → ℕ) (m i g : ℕ) → f i < suc m → f (suc m) < suc m → (f i ≡ f (suc m) → ⊥) → Moved f m i g → g < m
below f m i g l last apart (inl h) =
    let less : f (suc m) < m = ⊎_elim (λ (s : f (suc m) ≡ m). absurd (apart (h.0 ∙ sym s))) (λ (s : f (suc m) ≡ m → ⊥). omega (arith, last, s)) (cases_eq (f (suc m)) m) in
    omega (arith, less, h.1)
below f m i g l last apart (inr h) = omega (arith, l, h.0, h.1)

-- two that share a place then shared it before
back : (f : ℕ → ℕ) (m i j g k : ℕ) → (f i ≡ f (suc m) → ⊥) → (f j ≡ f (suc m) → ⊥) → g ≡ k → Moved f m i g → Moved f m j k → f i ≡ f j
back f m i j g k a b e (inl h) (inl w) = h.0 ∙ sym w.0
back f m i j g k a b e (inl h) (inr w) = absurd (b (sym w.1 ∙ sym e ∙ h.1))
back f m i j g k a b e (inr h) (inl w) = absurd (a (sym h.1 ∙ e ∙ w.1))
back f m i j g k a b e (inr h) (inr w) = sym h.1 ∙ e ∙ w.1

pub repeats : (n : ℕ) (f : ℕ → ℕ) → ((i : ℕ) → i ≤ n → f i < n) → Repeats f n
repeats zero f inside = absurd (omega (arith, inside 0 (omega arith)))
repeats (suc m) f inside = ⊎_elim twice (once (λ g. repeats m g)) (look f (f (suc m)) (suc m))
  where
    twice : Found f (f (suc m)) (suc m) → Repeats f (suc m)
    twice h = (h.0, (suc m, h.1, omega arith, h.2))

    once : ((g : ℕ → ℕ) → ((i : ℕ) → i ≤ m → g i < m) → Repeats g m) → Missing f (f (suc m)) (suc m) → Repeats f (suc m)
    once among none =
        let fewer = among (λ i. (moved f m i).0) (λ i l. below f m i (moved f m i).0 (inside i (omega (arith, l))) (inside (suc m) (omega arith)) (none i (omega (arith, l))) (moved f m i).1) in
        let i = fewer.0 in
        let j = fewer.1.0 in (
          i,
          (
            j,
            fewer.1.1,
            omega (arith, fewer.1.2),
            back f m i j (moved f m i).0 (moved f m j).0 (none i (omega (arith, fewer.1.1, fewer.1.2))) (none j (omega (arith, fewer.1.2))) fewer.1.3 (moved f m i).1 (moved f m j).1,
          ),
        )

-- ---- what is left of a list

pub fewer : {X : Type 0} (p : X → Bool) (xs : List X) → length (filter p xs) ≤ length xs
fewer p [] = omega arith
fewer p (y ∷ ys) = by (p y) (fewer p ys)
  where
    by : (b : Bool) → length (filter p ys) ≤ length ys → length (if b then y ∷ filter p ys else filter p ys) ≤ suc (length ys)
    by true l = omega (arith, l)
    by false l = omega (arith, l)

pub less : {X : Type 0} (p : X → Bool) (xs : List X) (x : X) → IsAmong x xs → p x ≡ false → length (filter p xs) < length xs
less p [] x is h = absurd is
less p (y ∷ ys) x is h = by (p y) refl is (fewer p ys) (λ r. less p ys x r h)
  where
    by : (b : Bool) → p y ≡ b → IsAmong x (y ∷ ys) → length (filter p ys) ≤ length ys → (IsAmong x ys → length (filter p ys) < length ys) → length (if b then y ∷ filter p ys else filter p ys) < suc (length ys)
    by true e (inl same) l more = absurd (false≢true (sym h ∙ ap p same ∙ e))
    by true e (inr r) l more = let m = more r in omega (arith, m)
    by false e is l more = omega (arith, l)

pub among_filter : {X : Type 0} (p : X → Bool) (xs : List X) (x : X) → IsAmong x (filter p xs) → IsAmong x xs
among_filter p [] x is = absurd is
among_filter p (y ∷ ys) x is = by (p y) is (among_filter p ys x)
  where
    by : (b : Bool) → IsAmong x (if b then y ∷ filter p ys else filter p ys) → (IsAmong x (filter p ys) → IsAmong x ys) → IsAmong x (y ∷ ys)
    by true (inl same) later = inl same
    by true (inr r) later = inr (later r)
    by false r later = inr (later r)

pub filter_among : {X : Type 0} (p : X → Bool) (xs : List X) (x : X) → IsAmong x xs → p x ≡ true → IsAmong x (filter p xs)
filter_among p [] x is h = absurd is
filter_among p (y ∷ ys) x is h = by (p y) refl is (λ r. filter_among p ys x r h)
  where
    by : (b : Bool) → p y ≡ b → IsAmong x (y ∷ ys) → (IsAmong x ys → IsAmong x (filter p ys)) → IsAmong x (if b then y ∷ filter p ys else filter p ys)
    by true e (inl same) later = inl same
    by true e (inr r) later = inr (later r)
    by false e (inl same) later = absurd (false≢true (sym e ∙ ap p (sym same) ∙ h))
    by false e (inr r) later = later r

pub turned_true : (b : Bool) → not b ≡ true → b ≡ false
turned_true true h = absurd (false≢true h)
turned_true false h = refl

-- ---- a type extends one of these

abbrev pub Found_in : List TypeDeclaration → TypeDeclaration → Type 0
Found_in types t = (u : TypeDeclaration) × IsAmong u types × Extends t u

named_one : (types : List TypeDeclaration) (name : List ℕ) → is_type_named name types ≡ true → (u : TypeDeclaration) × IsAmong u types × (u.name ≡ name)
named_one types name h = let found = any_found (λ u. bytes_eq u.name name) types h in (found.0, found.1, same_names found.0.name name found.2)

pub extended_found : (types : List TypeDeclaration) (t : TypeDeclaration) → extends_one types t ≡ true → Found_in types t
extended_found types t h = go t.base refl (is_interface_kind t.kind) refl h
  where
    based : (name : List ℕ) → t.base ≡ Some name → is_type_named name types ≡ true → Found_in types t
    based name e is = let u = named_one types name is in (u.0, u.1, inl (e ∙ ap Some (sym u.2)))

    kept : (k : Bool) → is_interface_kind t.kind ≡ k → (k && is_one_among types t.interfaces) ≡ true → Found_in types t
    kept false f is = absurd (false≢true is)
    kept true f is =
        let n = any_found (λ n. is_type_named n types) t.interfaces is in
        let u = named_one types n.0 n.2 in
        (u.0, u.1, inr (f, subst (λ (m : List ℕ). IsAmong m t.interfaces) (sym u.2) n.1))

    either : (name : List ℕ) → t.base ≡ Some name → (k : Bool) → is_interface_kind t.kind ≡ k → (b : Bool) → is_type_named name types ≡ b → (b || (k && is_one_among types t.interfaces)) ≡ true → Found_in types t
    either name e k f true is all = based name e is
    either name e k f false is all = kept k f all

    go : (base : Option (List ℕ)) → t.base ≡ base → (k : Bool) → is_interface_kind t.kind ≡ k → (is_base_among types base || (k && is_one_among types t.interfaces)) ≡ true → Found_in types t
    go None e k f all = kept k f all
    go (Some name) e k f all = either name e k f (is_type_named name types) refl all

or_left : (a b : Bool) → a ≡ true → (a || b) ≡ true
or_left a b h = ap (λ c. c || b) h

or_right : (a b : Bool) → b ≡ true → (a || b) ≡ true
or_right true b h = refl
or_right false b h = h

both : (a b : Bool) → a ≡ true → b ≡ true → (a && b) ≡ true
both a b h k = ap (λ c. c && b) h ∙ k

extends_is : (types : List TypeDeclaration) (t u : TypeDeclaration) → IsAmong u types → Extends t u → extends_one types t ≡ true
extends_is types t u is (inl e) =
    let there : is_type_named u.name types ≡ true = any_is (λ v. bytes_eq v.name u.name) types u is (names_same u.name u.name refl) in
    or_left (is_base_among types t.base) _ (ap (is_base_among types) e ∙ there)
extends_is types t u is (inr k) =
    let there : is_type_named u.name types ≡ true = any_is (λ v. bytes_eq v.name u.name) types u is (names_same u.name u.name refl) in
    or_right (is_base_among types t.base) _ (both (is_interface_kind t.kind) _ k.0 (any_is (λ n. is_type_named n types) t.interfaces u.name k.1 there))

-- ---- a circle is never taken away

first_step : (n : ℕ) (types : List TypeDeclaration) (t u : TypeDeclaration) → LeadsTo n types t u → extends_one types t ≡ true
first_step zero types t u w = extends_is types t u w.0 w.1
first_step (suc n) types t u w = extends_is types t w.0 w.1.0 w.1.1

way_on : (n : ℕ) (types : List TypeDeclaration) (t u : TypeDeclaration) → IsAmong u (heirs types) → LeadsTo n types t u → LeadsTo n (heirs types) t u
way_on zero types t u is w = (is, w.1)
way_on (suc n) types t u is w =
    let v = w.0 in
    (v, (filter_among (λ x. extends_one types x) types v w.1.0 (first_step n types v u w.2), w.1.1), way_on n types v u is w.2)

circle_on : (types : List TypeDeclaration) → ExtendsItself types → ExtendsItself (heirs types)
circle_on types c =
    let is = filter_among (λ x. extends_one types x) types c.0 c.1 (first_step c.2.0 types c.0 c.0 c.2.1) in
    (c.0, is, (c.2.0, way_on c.2.0 types c.0 c.0 is c.2.1))

circle_ever : (n : ℕ) (types : List TypeDeclaration) → ExtendsItself types → ExtendsItself (left_after n types)
circle_ever zero types c = c
circle_ever (suc n) types c = circle_ever n (heirs types) (circle_on types c)

pub one_is_circle : (types : List TypeDeclaration) → ExtendsItself types → has_circle types ≡ true
one_is_circle types c = by (left_after (length types) types) (circle_ever (length types) types c)
  where
    by : (ts : List TypeDeclaration) → ExtendsItself ts → is_one_left ts ≡ true
    by [] c = absurd c.1
    by (t ∷ ts) c = refl

-- ---- where some are left, each of some types extends one of them

abbrev pub AllExtend : List TypeDeclaration → Type 0
AllExtend types = (t : TypeDeclaration) → IsAmong t types → extends_one types t ≡ true

abbrev pub Stuck : List TypeDeclaration → Type 0
Stuck types = (ts : List TypeDeclaration) × (is_one_left ts ≡ true) × AllExtend ts × ((t : TypeDeclaration) → IsAmong t ts → IsAmong t types)

none_left : (n : ℕ) → is_one_left (left_after n []) ≡ false
none_left zero = refl
none_left (suc n) = none_left n

pub stuck : (n : ℕ) (types : List TypeDeclaration) → length types ≤ n → is_one_left (left_after n types) ≡ true → Stuck types
stuck n [] l h = absurd (false≢true (sym (none_left n) ∙ h))
stuck zero (t ∷ ts) l h = absurd (omega (arith, l))
stuck (suc n) (t ∷ ts) l h = by (list_any (λ x. not (extends_one (t ∷ ts) x)) (t ∷ ts)) refl (stuck n (heirs (t ∷ ts)))
  where
    by : (b : Bool) → list_any (λ x. not (extends_one (t ∷ ts) x)) (t ∷ ts) ≡ b → (length (heirs (t ∷ ts)) ≤ n → is_one_left (left_after n (heirs (t ∷ ts))) ≡ true → Stuck (heirs (t ∷ ts))) → Stuck (t ∷ ts)
    by false e more = (t ∷ ts, refl, (λ x is. not_false _ (any_told (λ y. not (extends_one (t ∷ ts) y)) (t ∷ ts) e x is)), (λ x is. is))
    by true e more =
        let root = any_found (λ x. not (extends_one (t ∷ ts) x)) (t ∷ ts) e in
        let shorter = less (λ x. extends_one (t ∷ ts) x) (t ∷ ts) root.0 root.1 (turned_true _ root.2) in
        let s = more (omega (arith, l, shorter)) h in
        (s.0, s.1, s.2, (λ x is. among_filter (λ y. extends_one (t ∷ ts) y) (t ∷ ts) x (s.3 x is)))

-- ---- a way along as many types as there are, and one more

abbrev pub Point : List TypeDeclaration → Type 0
Point types = (t : TypeDeclaration) × IsAmong t types

abbrev next_point : (types : List TypeDeclaration) → AllExtend types → Point types → Point types
next_point types all p = let found = extended_found types p.0 (all p.0 p.1) in (found.0, found.1)

next_extends : (types : List TypeDeclaration) (all : AllExtend types) (p : Point types) → Extends p.0 (next_point types all p).0
next_extends types all p = (extended_found types p.0 (all p.0 p.1)).2

abbrev walk : (types : List TypeDeclaration) → AllExtend types → ℕ → Point types → Point types
walk types all zero p = p
walk types all (suc n) p = walk types all n (next_point types all p)

walk_sum : (types : List TypeDeclaration) (all : AllExtend types) (n m : ℕ) (p : Point types) → walk types all (n + m) p ≡ walk types all m (walk types all n p)
walk_sum types all zero m p = let same : 0 + m ≡ m = omega arith in ap (λ k. walk types all k p) same
walk_sum types all (suc n) m p =
    let same : suc n + m ≡ suc (n + m) = omega arith in
    ap (λ k. walk types all k p) same ∙ walk_sum types all n m (next_point types all p)

walk_leads : (types : List TypeDeclaration) (all : AllExtend types) (n : ℕ) (p : Point types) → LeadsTo n types p.0 (walk types all (suc n) p).0
walk_leads types all zero p = ((next_point types all p).1, next_extends types all p)
walk_leads types all (suc n) p =
    let q = next_point types all p in
    (q.0, (q.1, next_extends types all p), walk_leads types all n q)

abbrev place_of : (types : List TypeDeclaration) (t : TypeDeclaration) → IsAmong t types → ℕ
place_of [] t is = absurd is
place_of (u ∷ us) t (inl e) = 0
place_of (u ∷ us) t (inr is) = suc (place_of us t is)

place_within : (types : List TypeDeclaration) (t : TypeDeclaration) (is : IsAmong t types) → place_of types t is < length types
place_within [] t is = absurd is
place_within (u ∷ us) t (inl e) = omega arith
place_within (u ∷ us) t (inr is) = let l = place_within us t is in omega (arith, l)

at_place : (types : List TypeDeclaration) (t : TypeDeclaration) (is : IsAmong t types) → slice_get types (place_of types t is) ≡ Some t
at_place [] t is = absurd is
at_place (u ∷ us) t (inl e) = ap Some (sym e)
at_place (u ∷ us) t (inr is) = at_place us t is

pub some_same : (t u : TypeDeclaration) → Some t ≡ Some u → t ≡ u
some_same t u e = cc

way_among : (n : ℕ) (ts types : List TypeDeclaration) (t u : TypeDeclaration) → ((x : TypeDeclaration) → IsAmong x ts → IsAmong x types) → LeadsTo n ts t u → LeadsTo n types t u
way_among zero ts types t u among w = (among u w.0, w.1)
way_among (suc n) ts types t u among w = (w.0, (among w.0 w.1.0, w.1.1), way_among n ts types w.0 u among w.2)

pub begin : (types : List TypeDeclaration) → is_one_left types ≡ true → Point types
begin [] h = absurd (false≢true h)
begin (t ∷ ts) h = (t, inl refl)

pub stuck_is_one : (types : List TypeDeclaration) → Stuck types → ExtendsItself types
stuck_is_one types s =
    let ts = s.0 in
    let all = s.2 in
    let p = begin ts s.1 in
    let point = (λ (i : ℕ). walk ts all i p) in
    let place = (λ (i : ℕ). place_of ts (point i).0 (point i).1) in
    let twice = repeats (length ts) place (λ i l. place_within ts (point i).0 (point i).1) in
    let i = twice.0 in
    let j = twice.1.0 in
    let n = j - suc i in
    let more : i + suc n ≡ j = omega (arith, twice.1.1) in
    let same : (point i).0 ≡ (point j).0 = some_same (point i).0 (point j).0 (sym (at_place ts (point i).0 (point i).1) ∙ ap (slice_get ts) twice.1.3 ∙ at_place ts (point j).0 (point j).1) in
    let back : (walk ts all (suc n) (point i)).0 ≡ (point i).0 = ap (λ (q : Point ts). q.0) (sym (walk_sum ts all i (suc n) p) ∙ ap (λ k. walk ts all k p) more) ∙ sym same in (
      (point i).0,
      s.3 (point i).0 (point i).1,
      (n, way_among n ts types (point i).0 (point i).0 s.3 (subst (LeadsTo n ts (point i).0) back (walk_leads ts all n (point i)))),
    )

pub circle_is_one : (types : List TypeDeclaration) → has_circle types ≡ true → ExtendsItself types
circle_is_one types h = stuck_is_one types (stuck (length types) types (omega arith) h)
