-- An order in which types stand after all that they extend.
use Rattle.std.proofs.Common.{◌≡◌, ◌⊎◌, inl, inr, ℕ, zero, suc, ◌+◌, ◌-◌, ◌==◌, ◌≤◌, ◌<◌, Bool, true, false, not, ◌||◌, ◌&&◌, List, [], ◌∷◌, ◌++◌, Option, Some, None, refl, sym, subst, ap, ◌∙◌, arith, append_assoc, append-nil, length, take, drop, slice_get, slice_index_or, bytes_eq, Bor}
use Rattle.std.proofs.lemmas.Bool.{eqb-true, false≢true}
use Rattle.std.specs.List.{list_all}
use Rattle.ned_trees.specs.declared.declarations.TypeDeclaration.{TypeDeclaration}
use Rattle.ned_types.specs.Types.{has_duplicate, is_interface_kind, is_type_named, type_named}
use Rattle.ned_types.specs.WellFormed.{IsAmong}
use Rattle.ned_inheritance.specs.Circles.{Extends}
use Rattle.ned_inheritance.specs.Inheritance.{extends_one, has_circle, is_base_among, is_one_among, is_one_left, types_in}
use Rattle.ned_inheritance.specs.Named.{IsBehind, StandBehind}
use Rattle.ned_inheritance.specs.Order.{are_ready, is_base_ready, is_name_ready, is_ready, AreAmong, AreStuck, Covers, IsOrder, IsUnderWay, TakesOne}
use Rattle.ned_inheritance.proofs.Circles.{begin, extended_found, one_is_circle, some_same, stuck, stuck_is_one, Found_in, Stuck}
use Rattle.ned_inheritance.proofs.LineLaws.{behind_both, named_among, named_joined, neither_first, neither_second, or_either, or_first, or_turned}
use Rattle.ned_inheritance.proofs.OrderLaws.{first_and_rest, in_length, rest_length, types_more}
use Rattle.ned_inheritance.proofs.WellFormedLaws.{any_is, names_same, not_false, or_second, same_names, type_is, types_apart}

and_first : (a b : Bool) → (a && b) ≡ true → a ≡ true
and_first true b h = refl
and_first false b h = absurd (false≢true h)

and_second : (a b : Bool) → (a && b) ≡ true → b ≡ true
and_second true b h = h
and_second false b h = absurd (false≢true h)

and_both : (a b : Bool) → a ≡ true → b ≡ true → (a && b) ≡ true
and_both a b h k = ap (λ c. c && b) h ∙ k

all_at : {X : Type 0} (p : X → Bool) (xs : List X) (x : X) → list_all p xs ≡ true → IsAmong x xs → p x ≡ true
all_at p [] x h is = absurd is
all_at p (y ∷ ys) x h (inl same) = ap p same ∙ and_first (p y) (list_all p ys) h
all_at p (y ∷ ys) x h (inr is) = all_at p ys x (and_second (p y) (list_all p ys) h) is

pub not_all : {X : Type 0} (p : X → Bool) (xs : List X) → list_all p xs ≡ false → (x : X) × IsAmong x xs × (p x ≡ false)
not_all p [] h = absurd (false≢true (sym h))
not_all {X = X} p (y ∷ ys) h = by (p y) refl h (λ r. not_all p ys r)
  where
    by : (b : Bool) → p y ≡ b → (b && list_all p ys) ≡ false → (list_all p ys ≡ false → (x : X) × IsAmong x ys × (p x ≡ false)) → (x : X) × IsAmong x (y ∷ ys) × (p x ≡ false)
    by true e r later = let f = later r in (f.0, inr f.1, f.2)
    by false e r later = (y, inl refl, e)

-- ---- types that can be added

name_ready : (types seen : List TypeDeclaration) (name : List ℕ) → is_name_ready types seen name ≡ true → is_type_named name types ≡ true → is_type_named name seen ≡ true
name_ready types seen name h known = or_either (not (is_type_named name types)) (is_type_named name seen) h (ap not known)

ready_behind : (types seen : List TypeDeclaration) (t : TypeDeclaration) → is_ready types seen t ≡ true → IsAmong t types → is_type_named t.name seen ≡ false → IsBehind types seen t
ready_behind types seen t ready is fresh = (
  is,
  λ name kind in-t known.
      let all : are_ready types seen t.interfaces ≡ true = or_either (not (is_interface_kind t.kind)) (are_ready types seen t.interfaces) (and_second (is_base_ready types seen t.base) (not (is_interface_kind t.kind) || are_ready types seen t.interfaces) ready) (ap not kind) in
      name_ready types seen name (all_at (λ n. is_name_ready types seen n) t.interfaces name all in-t) known,
  λ name base known. name_ready types seen name (sym (ap (is_base_ready types seen) base) ∙ and_first (is_base_ready types seen t.base) (not (is_interface_kind t.kind) || are_ready types seen t.interfaces) ready) known,
  fresh,
)

among_skip : {X : Type 0} (w r : List X) (t x : X) → IsAmong x (w ++ r) → IsAmong x (w ++ t ∷ r)
among_skip [] r t x is = inr is
among_skip (y ∷ ys) r t x (inl same) = inl same
among_skip (y ∷ ys) r t x (inr is) = inr (among_skip ys r t x is)

among_mid : {X : Type 0} (w r : List X) (t : X) → IsAmong t (w ++ t ∷ r)
among_mid [] r t = inl refl
among_mid (y ∷ ys) r t = inr (among_mid ys r t)

-- a name of an order and of those that are left, where one of these goes to the order or is there
name_gone : (order w r : List TypeDeclaration) (t : TypeDeclaration) (name : List ℕ) → (is_type_named name order || is_type_named name (w ++ t ∷ r)) ≡ true → (is_type_named name (order ++ t ∷ []) || is_type_named name (w ++ r)) ≡ true
name_gone order w r t name h =
    ap (λ b. b || is_type_named name (w ++ r)) (named_joined name order (t ∷ []))
    ∙ ap (λ b. (is_type_named name order || (bytes_eq t.name name || false)) || b) (named_joined name w r)
    ∙ moved (is_type_named name order) (is_type_named name w) (bytes_eq t.name name) (is_type_named name r)
    ∙ sym (ap (λ b. is_type_named name order || b) (named_joined name w (t ∷ r)))
    ∙ h
  where
    moved : (a b c d : Bool) → ((a || (c || false)) || (b || d)) ≡ (a || (b || (c || d)))
    moved true b c d = refl
    moved false true true d = refl
    moved false true false d = refl
    moved false false true d = refl
    moved false false false d = refl

name_there : (order w r : List TypeDeclaration) (t : TypeDeclaration) (name : List ℕ) → is_type_named t.name order ≡ true → (is_type_named name order || is_type_named name (w ++ t ∷ r)) ≡ true → (is_type_named name order || is_type_named name (w ++ r)) ≡ true
name_there order w r t name there h = by (bytes_eq t.name name) refl
  where
    by : (b : Bool) → bytes_eq t.name name ≡ b → (is_type_named name order || is_type_named name (w ++ r)) ≡ true
    by true e = or_first (is_type_named name order) (is_type_named name (w ++ r)) (ap (λ (n : List ℕ). is_type_named n order) (sym (same_names t.name name e)) ∙ there)
    by false e =
        ap (λ b. is_type_named name order || b) (named_joined name w r ∙ ap (λ b. is_type_named name w || (b || is_type_named name r)) (sym e) ∙ sym (named_joined name w (t ∷ r)))
        ∙ h

pub one_taken : (types before after waited waiting r : List TypeDeclaration) (t : TypeDeclaration) (taken : Bool) → TakesOne types before after waited waiting t taken → IsUnderWay types before (waited ++ t ∷ r) → IsUnderWay types after (waiting ++ r)
one_taken types before after waited waiting r t true takes way =
    subst (λ (ts : List TypeDeclaration). IsUnderWay types ts (waiting ++ r)) (sym takes.0)
    (subst (λ (ts : List TypeDeclaration). IsUnderWay types (before ++ t ∷ []) (ts ++ r)) (sym takes.1) (
      λ x is. way.0 x (among_skip waited r t x is),
      λ name known. name_gone before waited r t name (way.1 name known),
      behind_both types [] before (t ∷ []) way.2 (ready_behind types before t takes.2 (way.0 t (among_mid waited r t)) takes.3, tt),
    ))
one_taken types before after waited waiting r t false (e, inl takes) way =
    subst (λ (ts : List TypeDeclaration). IsUnderWay types ts (waiting ++ r)) (sym e)
    (subst (λ (ts : List TypeDeclaration). IsUnderWay types before (ts ++ r)) (sym takes.0) (
      λ x is. way.0 x (among_skip waited r t x is),
      λ name known. name_there before waited r t name takes.1 (way.1 name known),
      way.2,
    ))
one_taken types before after waited waiting r t false (e, inr takes) way =
    subst (λ (ts : List TypeDeclaration). IsUnderWay types ts (waiting ++ r)) (sym e)
    (subst (λ (ts : List TypeDeclaration). IsUnderWay types before ts) (sym (append_assoc waited (t ∷ []) r) ∙ ap (λ (ts : List TypeDeclaration). ts ++ r) (sym takes.0)) way)

among_joined : {X : Type 0} (xs ys : List X) (x : X) → IsAmong x (xs ++ ys) → IsAmong x xs ⊎ IsAmong x ys
among_joined [] ys x is = inr is
among_joined (y ∷ xs) ys x (inl same) = inl (inl same)
among_joined {X = X} (y ∷ xs) ys x (inr is) = by (among_joined xs ys x is)
  where
    by : IsAmong x xs ⊎ IsAmong x ys → IsAmong x (y ∷ xs) ⊎ IsAmong x ys
    by (inl a) = inl (inr a)
    by (inr a) = inr a

-- where nothing was added to the order, one that waits more is stuck too
pub stuck_more : (types before after waited waiting : List TypeDeclaration) (t : TypeDeclaration) → TakesOne types before after waited waiting t false → AreStuck types before waited → AreStuck types after waiting
stuck_more types before after waited waiting t (e, inl takes) stuck =
    subst (λ (ts : List TypeDeclaration). AreStuck types ts waiting) (sym e) (subst (λ (ts : List TypeDeclaration). AreStuck types before ts) (sym takes.0) stuck)
stuck_more types before after waited waiting t (e, inr takes) stuck =
    subst (λ (ts : List TypeDeclaration). AreStuck types ts waiting) (sym e) (subst (λ (ts : List TypeDeclaration). AreStuck types before ts) (sym takes.0) more)
  where
    more : AreStuck types before (waited ++ t ∷ [])
    more x is = by (among_joined waited (t ∷ []) x is)
      where
        by : IsAmong x waited ⊎ IsAmong x (t ∷ []) → is_ready types before x ≡ false
        by (inl a) = stuck x a
        by (inr (inl same)) = ap (is_ready types before) same ∙ takes.1
        by (inr (inr none)) = absurd none

-- ---- circles

name_unready : (types order left : List TypeDeclaration) (name : List ℕ) → Covers types order left → is_name_ready types order name ≡ false → is_type_named name left ≡ true
name_unready types order left name covers h =
    or_either (is_type_named name order) (is_type_named name left)
    (covers name (not_false (is_type_named name types) (neither_first (not (is_type_named name types)) (is_type_named name order) h)))
    (neither_second (not (is_type_named name types)) (is_type_named name order) h)

pub unready_extends : (types order left : List TypeDeclaration) (x : TypeDeclaration) → Covers types order left → is_ready types order x ≡ false → extends_one left x ≡ true
unready_extends types order left x covers h = based (is_base_ready types order x.base) refl h
  where
    kept : (k : Bool) → is_interface_kind x.kind ≡ k → (not k || are_ready types order x.interfaces) ≡ false → extends_one left x ≡ true
    kept false e f = absurd (false≢true (sym f))
    kept true e f =
        let found = not_all (λ n. is_name_ready types order n) x.interfaces f in
        or_second (is_base_among left x.base) (is_interface_kind x.kind && is_one_among left x.interfaces)
        (and_both (is_interface_kind x.kind) (is_one_among left x.interfaces) e (any_is (λ n. is_type_named n left) x.interfaces found.0 found.1 (name_unready types order left found.0 covers found.2)))

    named : (base : Option (List ℕ)) → x.base ≡ base → is_base_ready types order base ≡ false → extends_one left x ≡ true
    named None e f = absurd (false≢true (sym f))
    named (Some name) e f =
        or_first (is_base_among left x.base) (is_interface_kind x.kind && is_one_among left x.interfaces) (ap (is_base_among left) e ∙ name_unready types order left name covers f)

    based : (b : Bool) → is_base_ready types order x.base ≡ b → (b && (not (is_interface_kind x.kind) || are_ready types order x.interfaces)) ≡ false → extends_one left x ≡ true
    based true e f = kept (is_interface_kind x.kind) refl f
    based false e f = named x.base refl e

-- where types are stuck, each of them extends one of them
abbrev pub stuck_of : (types order left : List TypeDeclaration) → IsUnderWay types order left → AreStuck types order left → is_one_left left ≡ true → Stuck types
stuck_of types order left way stuck one = (left, one, (λ t is. unready_extends types order left t way.1 (stuck t is)), way.0)

-- and there is a circle
pub stuck_circle : (types order left : List TypeDeclaration) → IsUnderWay types order left → AreStuck types order left → is_one_left left ≡ true → has_circle types ≡ true
stuck_circle types order left way stuck one = one_is_circle types (stuck_is_one types (stuck_of types order left way stuck one))

-- no type that extends one of some types, as each of these does, is ever added
pub never : (types : List TypeDeclaration) → has_duplicate types ≡ false → (s : Stuck types) → (seen order : List TypeDeclaration) → StandBehind types seen order
    → ((u : TypeDeclaration) → IsAmong u s.0 → is_type_named u.name seen ≡ false) → (u : TypeDeclaration) → IsAmong u s.0 → is_type_named u.name (seen ++ order) ≡ false
never types apart s seen [] h none u is = ap (is_type_named u.name) (append-nil seen) ∙ none u is
never types apart s seen (t ∷ rest) h none u is =
    ap (is_type_named u.name) (sym (append_assoc seen (t ∷ []) rest))
    ∙ never types apart s (seen ++ t ∷ []) rest h.1 (λ v in-s. more v in-s (bytes_eq t.name v.name) refl) u is
  where
    circled : (v : TypeDeclaration) → IsAmong v s.0 → t ≡ v → ⊥
    circled v in-s same = by found.2
      where
        found : Found_in s.0 v
        found = extended_found s.0 v (s.2 v in-s)

        known : is_type_named found.0.name types ≡ true
        known = named_among types found.0 found.0.name (s.3 found.0 found.1) (names_same found.0.name found.0.name refl)

        by : Extends v found.0 → ⊥
        by (inl e) = false≢true (sym (none found.0 found.1) ∙ h.0.2 found.0.name (ap (λ (x : TypeDeclaration). x.base) same ∙ e) known)
        by (inr k) =
            false≢true
            (sym (none found.0 found.1)
            ∙ h.0.1 found.0.name (ap (λ (x : TypeDeclaration). is_interface_kind x.kind) same ∙ k.0) (subst (λ (x : TypeDeclaration). IsAmong found.0.name x.interfaces) (sym same) k.1) known)

    more : (v : TypeDeclaration) → IsAmong v s.0 → (b : Bool) → bytes_eq t.name v.name ≡ b → is_type_named v.name (seen ++ t ∷ []) ≡ false
    more v in-s false e =
        named_joined v.name seen (t ∷ [])
        ∙ ap (λ b. b || (bytes_eq t.name v.name || false)) (none v in-s)
        ∙ ap (λ b. b || false) e
    more v in-s true e =
        absurd (circled v in-s (some_same t v (
        sym (type_is types t (types_apart types apart) h.0.0)
        ∙ ap (λ (n : List ℕ). type_named n types) (same_names t.name v.name e)
        ∙ type_is types v (types_apart types apart) (s.3 v in-s))))

-- where all types have an order, there is no circle
pub order_circle : (types order : List TypeDeclaration) → has_duplicate types ≡ false → IsOrder types order → has_circle types ≡ false
order_circle types order apart is = by (has_circle types) refl
  where
    by : (b : Bool) → has_circle types ≡ b → b ≡ false
    by false e = refl
    by true e =
        let s : Stuck types = stuck (length types) types (omega arith) e in
        let p = begin s.0 s.1 in
        absurd (false≢true (sym (never types apart s [] order is.0 (λ u in-s. refl) p.0 p.1) ∙ is.1 p.0.name (named_among types p.0 p.0.name (s.3 p.0 p.1) (names_same p.0.name p.0.name refl))))

-- where none is left, all types have an order
pub none_left : (types order left : List TypeDeclaration) → IsUnderWay types order left → is_one_left left ≡ false → IsOrder types order
none_left types order [] way none = (way.2, λ name known. or_either false (is_type_named name order) (or_turned (is_type_named name order) false (way.1 name known)) refl)
none_left types order (t ∷ ts) way none = absurd (false≢true (sym none))

-- ---- at the beginning

pub way_begun : (types front : List TypeDeclaration) → AreAmong front types → IsUnderWay types [] (front ++ types)
way_begun types front among = (
  λ x is. by x (among_joined front types x is),
  λ name known. named_joined name front types ∙ or_second (is_type_named name front) (is_type_named name types) known,
  tt,
)
  where
    by : (x : TypeDeclaration) → IsAmong x front ⊎ IsAmong x types → IsAmong x types
    by x (inl a) = among x a
    by x (inr a) = a

-- ---- the list that is gone through

got_among : {X : Type 0} (xs : List X) (i : ℕ) (x : X) → slice_get xs i ≡ Some x → IsAmong x xs
got_among [] i x e = absurd cc
got_among (y ∷ ys) zero x e = let same : y ≡ x = cc in inl (sym same)
got_among (y ∷ ys) (suc i) x e = inr (got_among ys i x e)

pub among_more : (refs : List (Bor TypeDeclaration)) (r : Bor TypeDeclaration) (types : List TypeDeclaration) (i : ℕ) → AreAmong (types_in refs) types → slice_get types i ≡ Some r.now → AreAmong (types_in (refs ++ r ∷ [])) types
among_more refs r types i among got = subst (λ (ts : List TypeDeclaration). AreAmong ts types) (sym (types_more refs r)) (λ x is. by x (among_joined (types_in refs) (r.now ∷ []) x is))
  where
    by : (x : TypeDeclaration) → IsAmong x (types_in refs) ⊎ IsAmong x (r.now ∷ []) → IsAmong x types
    by x (inl a) = among x a
    by x (inr (inl same)) = subst (λ (y : TypeDeclaration). IsAmong y types) (sym same) (got_among types i r.now got)
    by x (inr (inr none)) = absurd none

pub ready_moved : (types before after : List TypeDeclaration) (waited waiting rest : List (Bor TypeDeclaration)) (item d : Bor TypeDeclaration) (taken : Bool) → 1 ≤ length rest → item ≡ slice_index_or rest 0 d
    → TakesOne types before after (types_in waited) (types_in waiting) item.now taken → IsUnderWay types before (types_in waited ++ types_in rest) → IsUnderWay types after (types_in waiting ++ types_in (take (length rest - 1) (drop 1 rest)))
ready_moved types before after waited waiting rest item d taken h is takes way =
    let left = types_in (take (length rest - 1) (drop 1 rest)) in
    let front : types_in rest ≡ item.now ∷ left = ap types_in (first_and_rest rest d h) ∙ ap (λ (x : Bor TypeDeclaration). x.now ∷ left) (sym is) in
    one_taken types before after (types_in waited) (types_in waiting) left item.now taken takes (subst (λ (ts : List TypeDeclaration). IsUnderWay types before (types_in waited ++ ts)) front way)

pub size_taken : (types before after : List TypeDeclaration) (waited waiting : List (Bor TypeDeclaration)) (t : TypeDeclaration) → TakesOne types before after (types_in waited) (types_in waiting) t true → length waiting ≡ length waited
size_taken types before after waited waiting t takes = sym (in_length waiting) ∙ ap length takes.1 ∙ in_length waited

pub size_left : (types before after : List TypeDeclaration) (waited waiting : List (Bor TypeDeclaration)) (t : TypeDeclaration) → TakesOne types before after (types_in waited) (types_in waiting) t false → length waiting ≤ suc (length waited)
size_left types before after waited waiting t (e, inl takes) =
    let same = sym (in_length waiting) ∙ ap length takes.0 ∙ in_length waited in omega (arith, same)
size_left types before after waited waiting t (e, inr takes) =
    let same = sym (in_length waiting) ∙ ap length takes.0 ∙ one_longer (types_in waited) t in
    let old = in_length waited in
    omega (arith, same, old)
  where
    one_longer : (xs : List TypeDeclaration) (u : TypeDeclaration) → length (xs ++ u ∷ []) ≡ suc (length xs)
    one_longer [] u = refl
    one_longer (x ∷ xs) u = ap suc (one_longer xs u)

pub left_over : (types order : List TypeDeclaration) (waiting rest : List (Bor TypeDeclaration)) → rest ≡ [] → IsUnderWay types order (types_in waiting ++ types_in rest) → IsUnderWay types order (types_in waiting)
left_over types order waiting rest e way = subst (IsUnderWay types order) (ap (λ (rs : List (Bor TypeDeclaration)). types_in waiting ++ types_in rs) e ∙ append-nil (types_in waiting)) way

pub size_moved : (waited waiting rest : List (Bor TypeDeclaration)) (total : ℕ) → 1 ≤ length rest → length waiting ≤ suc (length waited) → length waited + length rest ≤ total → length waiting + length (take (length rest - 1) (drop 1 rest)) ≤ total
size_moved waited waiting rest total h more all = let less-by-one = rest_length rest h in omega (arith, h, more, all, less-by-one)

pub size_kept : (waited waiting rest : List (Bor TypeDeclaration)) (total : ℕ) → 1 ≤ length rest → length waiting ≤ suc (length waited) → length waited + length rest < total → length waiting + length (take (length rest - 1) (drop 1 rest)) < total
size_kept waited waiting rest total h more all = let less-by-one = rest_length rest h in omega (arith, h, more, all, less-by-one)

pub size_less : (waited waiting rest : List (Bor TypeDeclaration)) (total : ℕ) → 1 ≤ length rest → length waiting ≡ length waited → length waited + length rest ≤ total → length waiting + length (take (length rest - 1) (drop 1 rest)) < total
size_less waited waiting rest total h same all = let less-by-one = rest_length rest h in omega (arith, h, same, all, less-by-one)

-- ---- at the end

pub one_left_is : (refs : List (Bor TypeDeclaration)) (n : ℕ) → n ≡ length refs → not (n == 0) ≡ is_one_left (types_in refs)
one_left_is [] n h = ap (λ k. not (k == 0)) h
one_left_is (r ∷ refs) n h = by (n == 0) refl
  where
    by : (b : Bool) → (n == 0) ≡ b → not b ≡ true
    by true e = absurd (omega (arith, eqb-true n 0 e, h))
    by false e = refl

-- where nothing could be added, there is a circle unless none waits
pub circle_told : (types order : List TypeDeclaration) (waiting : List (Bor TypeDeclaration)) (n : ℕ) (empty : Bool) → has_duplicate types ≡ false → IsUnderWay types order (types_in waiting) → AreStuck types order (types_in waiting) → n ≡ length waiting → empty ≡ (n == 0)
    → not empty ≡ has_circle types
circle_told types order waiting n empty apart way stuck long told = ap not told ∙ one_left_is waiting n long ∙ by (is_one_left (types_in waiting)) refl
  where
    by : (b : Bool) → is_one_left (types_in waiting) ≡ b → is_one_left (types_in waiting) ≡ has_circle types
    by true e = e ∙ sym (stuck_circle types order (types_in waiting) way stuck e)
    by false e = e ∙ sym (order_circle types order apart (none_left types order (types_in waiting) way e))

-- and where none waits, the order has all
pub order_told : (types order : List TypeDeclaration) (waiting : List (Bor TypeDeclaration)) (n : ℕ) (empty : Bool) → IsUnderWay types order (types_in waiting) → n ≡ length waiting → empty ≡ (n == 0) → not empty ≡ false → IsOrder types order
order_told types order waiting n empty way long told all = none_left types order (types_in waiting) way (sym (one_left_is waiting n long) ∙ ap not (sym told) ∙ all)
