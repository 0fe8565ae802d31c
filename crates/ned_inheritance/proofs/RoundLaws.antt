-- From a type that no order has, as many steps as there are types lead into a circle.
use Rattle.std.proofs.Common.{◌≡◌, ◌⊎◌, inl, inr, ℕ, zero, suc, ◌+◌, ◌-◌, ◌==◌, Bool, true, false, not, ◌||◌, ◌&&◌, List, [], ◌∷◌, length, Option, Some, None, refl, sym, ap, ◌∙◌, subst, arith, slice_get, bytes_eq, cond, Bor, if◌then◌else◌}
use Rattle.std.specs.List.{list_any, position, position_from}
use Rattle.std.specs.Map.{keys_of}
use Rattle.std.specs.Option.{option_and_then, option_map, unwrap_or}
use Rattle.std.proofs.lemmas.Bool.{false≢true}
use Rattle.std.proofs.lemmas.Iterator.Adapters.{position_from-zero}
use Rattle.std.proofs.lemmas.Option.{slice_get_within}
use Rattle.ned_trees.specs.declared.declarations.TypeDeclaration.{TypeDeclaration}
use Rattle.ned_types.specs.Types.{has_duplicate, is_interface_kind, is_type_named, type_named}
use Rattle.ned_types.specs.WellFormed.{IsAmong}
use Rattle.ned_inheritance.specs.declared.places.Member.{Member}
use Rattle.ned_inheritance.specs.declared.places.Member.TheVariants.{Whole, Base, Interface}
use Rattle.ned_inheritance.specs.declared.places.FaultPlace.{FaultPlace}
use Rattle.ned_inheritance.specs.Circles.{extended_name, Extends, GoesRound, IsCirclePlace, LeadsTo}
use Rattle.ned_inheritance.specs.Inheritance.{is_one_left, types_in}
use Rattle.ned_inheritance.specs.Named.{types_at, HaveNames}
use Rattle.ned_inheritance.specs.Order.{are_ready, first_left, is_base_ready, is_name_ready, is_ready, left_in, member_left, next_left, next_of, number_by, number_named, steps_left, AreLeft, AreStuck, IsUnderWay}
use Rattle.ned_inheritance.specs.Places.{first_from}
use Rattle.ned_inheritance.proofs.Circles.{begin, repeats, some_same, turned_true, Stuck}
use Rattle.ned_inheritance.proofs.LineLaws.{named_among, neither_first, neither_second, or_either}
use Rattle.ned_inheritance.proofs.NamedLaws.{at_name, Entry}
use Rattle.ned_inheritance.proofs.ReadyLaws.{never, not_all, one_left_is, stuck_of}
use Rattle.ned_inheritance.proofs.WellFormedLaws.{any_is, names_same, not_false, same_names, type_is, types_apart}

-- ---- the first that is picked

pub record FirstAt (X : Type 0) (picks : X → Bool) (n : ℕ) (xs : List X) : Type 0 where
  pub place : ℕ
  pub index : ℕ
  pub picked : X
  pub told : first_from picks n xs ≡ Some place
  pub counted : place ≡ n + index
  pub there : slice_get xs index ≡ Some picked
  pub is : picks picked ≡ true

first_at : (X : Type 0) (p : X → Bool) (n : ℕ) (xs : List X) → list_any p xs ≡ true → FirstAt X p n xs
first_at X p n [] h = absurd (false≢true h)
first_at X p n (x ∷ xs) h = by (p x) refl h (λ r. first_at X p (suc n) xs r)
  where
    by : (b : Bool) → p x ≡ b → (b || list_any p xs) ≡ true → (list_any p xs ≡ true → FirstAt X p (suc n) xs) → FirstAt X p n (x ∷ xs)
    by true e r later = record {
      place = n;
      index = 0;
      picked = x;
      told = ap (λ c. if c then Some n else first_from p (suc n) xs) e;
      counted = omega arith;
      there = refl;
      is = e;
    }
    by false e r later =
        let f = later r in
        let counted = f.counted in
        record {
          place = f.place;
          index = suc f.index;
          picked = f.picked;
          told = ap (λ c. if c then Some n else first_from p (suc n) xs) e ∙ f.told;
          counted = omega (arith, counted);
          there = f.there;
          is = f.is;
        }

-- counted from the first on
pub record FirstOf (X : Type 0) (picks : X → Bool) (xs : List X) : Type 0 where
  pub place : ℕ
  pub picked : X
  pub told : first_from picks 0 xs ≡ Some place
  pub there : slice_get xs place ≡ Some picked
  pub is : picks picked ≡ true

first_of : (X : Type 0) (p : X → Bool) (xs : List X) → list_any p xs ≡ true → FirstOf X p xs
first_of X p xs h =
    let f = first_at X p 0 xs h in
    let counted = f.counted in
    let same : f.index ≡ f.place = omega (arith, counted) in
    record {
      place = f.place;
      picked = f.picked;
      told = f.told;
      there = ap (slice_get xs) (sym same) ∙ f.there;
      is = f.is;
    }

get_among : {X : Type 0} (xs : List X) (n : ℕ) (x : X) → slice_get xs n ≡ Some x → IsAmong x xs
get_among [] n x e = cc
get_among (y ∷ ys) zero x e = inl (some_sym y x e)
  where
    some_sym : {X : Type 0} (a b : X) → Some a ≡ Some b → b ≡ a
    some_sym a b e = cc
get_among (y ∷ ys) (suc n) x e = inr (get_among ys n x e)

-- ---- the number of the type of a name

pub number_told : (name : List ℕ) (es : List Entry) → HaveNames es → position (λ (k : Bor (List ℕ)). bytes_eq name k.now) (keys_of es) ≡ number_named (types_at es) name
number_told name es h = position_from-zero (λ (k : Bor (List ℕ)). bytes_eq name k.now) (keys_of es) ∙ from 0 es h
  where
    from : (n : ℕ) (es : List Entry) → HaveNames es → position_from (λ (k : Bor (List ℕ)). bytes_eq name k.now) n (keys_of es) ≡ first_from (λ t. bytes_eq t.name name) n (types_at es)
    from n [] h = refl
    from n (e ∷ es) h = by (bytes_eq name e.0.now) (bytes_eq e.1.now.name name) (at_name e name h.0) (from (n + 1) es h.1)
      where
        next : n + 1 ≡ suc n
        next = omega arith

        by : (b c : Bool) → b ≡ c → position_from (λ (k : Bor (List ℕ)). bytes_eq name k.now) (n + 1) (keys_of es) ≡ first_from (λ t. bytes_eq t.name name) (n + 1) (types_at es)
            → cond b (Some n) (position_from (λ (k : Bor (List ℕ)). bytes_eq name k.now) (n + 1) (keys_of es)) ≡ (if c then Some n else first_from (λ t. bytes_eq t.name name) (suc n) (types_at es))
        by true true p later = refl
        by false false p later = later ∙ ap (λ k. first_from (λ t. bytes_eq t.name name) k (types_at es)) next
        by true false p later = absurd (false≢true (sym p))
        by false true p later = absurd (false≢true p)

-- ---- one step

-- the type of that number is left out of the order
pub record IsLeft (types order : List TypeDeclaration) (n : ℕ) : Type 0 where
  pub left : TypeDeclaration
  pub there : slice_get types n ≡ Some left
  pub out : is_type_named left.name order ≡ false

-- a step leads from it to another
pub record IsStep (types order : List TypeDeclaration) (n : ℕ) (t : TypeDeclaration) : Type 0 where
  pub member : Member
  pub by : left_in types order t ≡ Some member
  pub next : TypeDeclaration
  pub there : slice_get types (next_left types order types n) ≡ Some next
  pub name : extended_name t member ≡ Some next.name
  pub extends : Extends t next
  pub out : is_type_named next.name order ≡ false

-- a name that isn't ready is that of a type, and the order lacks it
lacked : (types order : List TypeDeclaration) (name : List ℕ) → is_name_ready types order name ≡ false → (is_type_named name types ≡ true) × (is_type_named name order ≡ false)
lacked types order name h = (not_false (is_type_named name types) (neither_first (not (is_type_named name types)) (is_type_named name order) h), neither_second (not (is_type_named name types)) (is_type_named name order) h)

step_by : (types order : List TypeDeclaration) (n : ℕ) (t : TypeDeclaration) (member : Member) (name : List ℕ) → slice_get types n ≡ Some t → left_in types order t ≡ Some member → extended_name t member ≡ Some name → is_name_ready types order name ≡ false
    → ((u : TypeDeclaration) → u.name ≡ name → Extends t u) → IsStep types order n t
step_by types order n t member name here left named unready extends =
    let known = lacked types order name unready in
    let found = first_of TypeDeclaration (λ u. bytes_eq u.name name) types known.0 in
    let same : found.picked.name ≡ name = same_names found.picked.name name found.is in
    let next : next_left types order types n ≡ found.place =
    ap (λ o. unwrap_or (option_and_then (next_of types order) o) n) here
    ∙ ap (λ o. unwrap_or (option_and_then (number_by types t) o) n) left
    ∙ ap (λ o. unwrap_or (option_and_then (number_named types) o) n) named
    ∙ ap (λ o. unwrap_or o n) found.told in
    record {
      member = member;
      by = left;
      next = found.picked;
      there = ap (slice_get types) next ∙ found.there;
      name = named ∙ ap Some (sym same);
      extends = extends found.picked same;
      out = ap (λ (m : List ℕ). is_type_named m order) same ∙ known.1;
    }

-- a type that isn't ready has such a step
step : (types order : List TypeDeclaration) (n : ℕ) (t : TypeDeclaration) → slice_get types n ≡ Some t → is_ready types order t ≡ false → IsStep types order n t
step types order n t here h = based (is_base_ready types order t.base) refl h
  where
    names : List TypeDeclaration → Option ℕ
    names ts = first_from (λ m. not (is_name_ready ts order m)) 0 t.interfaces

    kept : (k : Bool) → is_interface_kind t.kind ≡ k → is_base_ready types order t.base ≡ true → (not k || are_ready types order t.interfaces) ≡ false → IsStep types order n t
    kept false e f r = absurd (false≢true (sym r))
    kept true e f r =
        let unready = not_all (λ m. is_name_ready types order m) t.interfaces r in
        let found = first_of (List ℕ) (λ m. not (is_name_ready types order m)) t.interfaces (any_is (λ m. not (is_name_ready types order m)) t.interfaces unready.0 unready.1 (ap not unready.2)) in
        step_by types order n t (Interface found.place) found.picked here
        (ap (λ b. if not b then Some Base else (if not (is_interface_kind t.kind) then None else option_map Interface (names types))) f
        ∙ ap (λ b. if not b then None else option_map Interface (names types)) e
        ∙ ap (option_map Interface) found.told)
        (ap (λ b. if b then slice_get t.interfaces found.place else None) e ∙ found.there)
        (turned_true (is_name_ready types order found.picked) found.is)
        (λ u same. inr (e, subst (λ (m : List ℕ). IsAmong m t.interfaces) (sym same) (get_among t.interfaces found.place found.picked found.there)))

    named : (base : Option (List ℕ)) → t.base ≡ base → is_base_ready types order base ≡ false → IsStep types order n t
    named None e f = absurd (false≢true (sym f))
    named (Some name) e f =
        step_by types order n t Base name here
        (ap (λ b. if not b then Some Base else (if not (is_interface_kind t.kind) then None else option_map Interface (names types))) (ap (is_base_ready types order) e ∙ f))
        e
        f
        (λ u same. inl (e ∙ ap Some (sym same)))

    based : (b : Bool) → is_base_ready types order t.base ≡ b → (b && (not (is_interface_kind t.kind) || are_ready types order t.interfaces)) ≡ false → IsStep types order n t
    based true e f = kept (is_interface_kind t.kind) refl e f
    based false e f = named t.base refl e

-- ---- many steps

module _ (types order : List TypeDeclaration) (left : AreLeft types order) where
  abbrev walk : ℕ → ℕ → ℕ
  walk k n = steps_left types order types k n

  step_on : (n : ℕ) (l : IsLeft types order n) → IsStep types order n l.left
  step_on n l = step types order n l.left l.there (left.1 l.left (get_among types n l.left l.there) l.out)

  next_is : (n : ℕ) → IsLeft types order n → IsLeft types order (next_left types order types n)
  next_is n l = let s = step_on n l in record { left = s.next; there = s.there; out = s.out }

  walk_is : (k n : ℕ) → IsLeft types order n → IsLeft types order (walk k n)
  walk_is zero n l = l
  walk_is (suc k) n l = next_is (walk k n) (walk_is k n l)

  walk_sum : (a b n : ℕ) → walk (a + b) n ≡ walk a (walk b n)
  walk_sum zero b n = let same : 0 + b ≡ b = omega arith in ap (λ k. walk k n) same
  walk_sum (suc a) b n =
      let same : suc a + b ≡ suc (a + b) = omega arith in
      ap (λ k. walk k n) same ∙ ap (next_left types order types) (walk_sum a b n)

  walk_first : (k n : ℕ) → walk (suc k) n ≡ walk k (next_left types order types n)
  walk_first k n = let same : suc k ≡ k + 1 = omega arith in ap (λ j. walk j n) same ∙ walk_sum k 1 n

  leads : (k n : ℕ) (l : IsLeft types order n) (u : TypeDeclaration) → slice_get types (walk (suc k) n) ≡ Some u → LeadsTo k types l.left u
  leads zero n l u e =
      let s = step_on n l in
      let same : s.next ≡ u = some_same s.next u (sym s.there ∙ e) in
      (subst (λ (v : TypeDeclaration). IsAmong v types) same (get_among types (next_left types order types n) s.next s.there), subst (Extends l.left) same s.extends)
  leads (suc k) n l u e =
      let s = step_on n l in
      (s.next, (get_among types (next_left types order types n) s.next s.there, s.extends), leads k (next_left types order types n) (record { left = s.next; there = s.there; out = s.out }) u (ap (slice_get types) (sym (walk_first (suc k) n)) ∙ e))

  -- where a way comes to its first type again, its first step is one of a circle
  round : (k n : ℕ) (l : IsLeft types order n) → walk (suc k) n ≡ n → (s : IsStep types order n l.left) → GoesRound types l.left s.member
  round k n l again s = (s.next, get_among types (next_left types order types n) s.next s.there, s.name, by k (sym (walk_first k n) ∙ again))
    where
      by : (k : ℕ) → walk k (next_left types order types n) ≡ n → (s.next ≡ l.left) ⊎ ((m : ℕ) × LeadsTo m types s.next l.left)
      by zero e = inl (some_same s.next l.left (sym s.there ∙ ap (slice_get types) e ∙ l.there))
      by (suc m) e = inr (m, leads m (next_left types order types n) (record { left = s.next; there = s.there; out = s.out }) l.left (ap (slice_get types) e ∙ l.there))

  begins : IsLeft types order (first_left order types)
  begins =
      let first = left.0 in
      let found = first_of TypeDeclaration (λ t. not (is_type_named t.name order)) types (any_is (λ t. not (is_type_named t.name order)) types first.0 first.1 (ap not first.2)) in
      let same : first_left order types ≡ found.place = ap (λ o. unwrap_or o 0) found.told in
      record { left = found.picked; there = ap (slice_get types) same ∙ found.there; out = turned_true (is_type_named found.picked.name order) found.is }

  pub circle_here : (p : FaultPlace) → p.number ≡ walk (length types) (first_left order types) → p.member ≡ member_left types order types p.number → IsCirclePlace types p
  circle_here p at by =
      let start = first_left order types in
      let twice = repeats (length types) (λ k. walk k start) (λ k l. let is = walk_is k start begins in slice_get_within types (walk k start) is.left is.there) in
      let i = twice.0 in
      let j = twice.1.0 in
      let i-j = twice.1.1 in
      let j-n = twice.1.2 in
      let last = length types in
      let rest = last - j in
      let k = j - suc i in
      let whole : last ≡ rest + j = omega (arith, j-n) in
      let once : walk last start ≡ walk (rest + i) start =
      ap (λ m. walk m start) whole ∙ walk_sum rest j start ∙ ap (walk rest) (sym twice.1.3) ∙ sym (walk_sum rest i start) in
      let long : suc k + (rest + i) ≡ last = omega (arith, i-j, j-n) in
      let again : walk (suc k) (walk last start) ≡ walk last start =
      ap (walk (suc k)) once ∙ sym (walk_sum (suc k) (rest + i) start) ∙ ap (λ m. walk m start) long in
      let l = walk_is last start begins in
      let s = step_on (walk last start) l in
      let member : p.member ≡ s.member =
      by ∙ ap (λ m. member_left types order types m) at
      ∙ ap (λ o. unwrap_or (option_and_then (left_in types order) o) Whole) l.there
      ∙ ap (λ o. unwrap_or o Whole) s.by in
      (l.left, ap (slice_get types) at ∙ l.there, subst (GoesRound types l.left) (sym member) (round k (walk last start) l again s))

-- ---- what is left where nothing could be added

pub left_told : (types order : List TypeDeclaration) (waiting : List (Bor TypeDeclaration)) (n : ℕ) (empty : Bool) → has_duplicate types ≡ false → IsUnderWay types order (types_in waiting) → AreStuck types order (types_in waiting) → n ≡ length waiting → empty ≡ (n == 0) → not empty ≡ true
    → AreLeft types order
left_told types order waiting n empty apart way stuck long told some = (
  (p.0, way.0 p.0 p.1, never types apart s [] order way.2 (λ u is. refl) p.0 p.1),
  λ t is out. unready t is out,
)
  where
    left : List TypeDeclaration
    left = types_in waiting

    one : is_one_left left ≡ true
    one = sym (one_left_is waiting n long) ∙ ap not (sym told) ∙ some

    s : Stuck types
    s = stuck_of types order left way stuck one

    p : (t : TypeDeclaration) × IsAmong t left
    p = begin left one

    unready : (t : TypeDeclaration) → IsAmong t types → is_type_named t.name order ≡ false → is_ready types order t ≡ false
    unready t is out =
        let waits : is_type_named t.name left ≡ true = or_either (is_type_named t.name order) (is_type_named t.name left) (way.1 t.name (named_among types t t.name is (names_same t.name t.name refl))) out in
        let found = first_of TypeDeclaration (λ u. bytes_eq u.name t.name) left waits in
        let in-left = get_among left found.place found.picked found.there in
        let u = found.picked in
        let same : u ≡ t = some_same u t (
        sym (type_is types u (types_apart types apart) (way.0 u in-left))
        ∙ ap (λ (m : List ℕ). type_named m types) (same_names u.name t.name found.is)
        ∙ type_is types t (types_apart types apart) is) in
        subst (λ (v : TypeDeclaration). is_ready types order v ≡ false) same (stuck u in-left)
