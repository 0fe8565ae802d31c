-- What repeats one before it is found by the names of those before it, and some is found exactly where one is repeated.
use Rattle.std.proofs.Common.{◌≡◌, ℕ, zero, suc, ◌+◌, Bool, true, false, ◌||◌, ◌&&◌, List, [], ◌∷◌, ◌++◌, Option, Some, None, refl, sym, ap, ◌∙◌, arith, take, drop, slice_get, bytes_eq, if◌then◌else◌}
use Rattle.std.specs.Prelude.{is_some}
use Rattle.std.specs.List.{list_any}
use Rattle.ned_trees.specs.declared.declarations.GateLine.{GateLine}
use Rattle.ned_trees.specs.declared.declarations.GateLine.TheVariants as gate
use Rattle.ned_trees.specs.declared.declarations.SectionLine.{SectionLine}
use Rattle.ned_trees.specs.declared.declarations.Submodule.{Submodule}
use Rattle.ned_types.specs.Flat.{or_else}
use Rattle.ned_types.specs.Types.{declares, declares_gate, gives, gives_fixed, is_declaration, is_declared, is_declared_again, is_fixed, is_refixed, name_in, redeclares, redeclares_gate, repeats_submodule, sets_fixed_again, value_in}
use Rattle.ned_inheritance.specs.Places.{first_again, is_declared_twice, is_name_before}
use Rattle.ned_inheritance.specs.Seen.{declares_one, is_in, AddsNames}
use Rattle.ned_inheritance.proofs.NamedLaws.{turned}
use Rattle.ned_inheritance.proofs.PlaceLaws.{any_like, any_or, drop_at, if_told}
use Rattle.ned_inheritance.proofs.Repeats.{or_false, or_joined}
use Rattle.ned_inheritance.proofs.SectionLaws.{and_false, declares_by}

-- ---- one more of a list that is gone through from the front

take_at : {X : Type 0} (xs : List X) (n : ℕ) (x : X) → slice_get xs n ≡ Some x → take (suc n) xs ≡ take n xs ++ x ∷ []
take_at [] n x e = cc
take_at (y ∷ ys) zero x e = let same : y ≡ x = cc in ap (λ z. z ∷ []) same
take_at (y ∷ ys) (suc n) x e = ap (λ zs. y ∷ zs) (take_at ys n x e)

take_next : {X : Type 0} (xs : List X) (n : ℕ) (x : X) → slice_get xs n ≡ Some x → take (n + 1) xs ≡ take n xs ++ x ∷ []
take_next xs n x here =
    let next : n + 1 ≡ suc n = omega arith in
    ap (λ k. take k xs) next ∙ take_at xs n x here

any_next : {X : Type 0} (p : X → Bool) (xs : List X) (x : X) → list_any p (xs ++ x ∷ []) ≡ (list_any p xs || p x)
any_next p [] x = or_false (p x)
any_next p (y ∷ xs) x = ap (λ b. p y || b) (any_next p xs x) ∙ sym (or_joined (p y) (list_any p xs) (p x))

-- ---- the first that repeats one before it

-- the next one does
pub again_here : {X : Type 0} (repeats : List X → X → Bool) (n : ℕ) (xs : List X) (x : X) (all : Option ℕ) → slice_get xs n ≡ Some x → repeats (take n xs) x ≡ true → first_again repeats (take n xs) n (drop n xs) ≡ all → Some n ≡ all
again_here repeats n xs x all here is told =
    sym (ap (λ b. if b then Some n else first_again repeats (take n xs ++ x ∷ []) (suc n) (drop (suc n) xs)) is)
    ∙ sym (ap (first_again repeats (take n xs) n) (drop_at xs n x here))
    ∙ told

one_behind : {X : Type 0} (repeats : List X → X → Bool) (n : ℕ) (xs : List X) (x : X) → slice_get xs n ≡ Some x → first_again repeats (take n xs ++ x ∷ []) (suc n) (drop (suc n) xs) ≡ first_again repeats (take (n + 1) xs) (n + 1) (drop (n + 1) xs)
one_behind repeats n xs x here =
    let next : suc n ≡ n + 1 = omega arith in
    sym (ap (λ ys. first_again repeats ys (suc n) (drop (suc n) xs)) (take_at xs n x here))
    ∙ ap (λ k. first_again repeats (take k xs) k (drop k xs)) next

-- it doesn't
pub again_passed : {X : Type 0} (repeats : List X → X → Bool) (n : ℕ) (xs : List X) (x : X) (all : Option ℕ) → slice_get xs n ≡ Some x → repeats (take n xs) x ≡ false → first_again repeats (take n xs) n (drop n xs) ≡ all
    → first_again repeats (take (n + 1) xs) (n + 1) (drop (n + 1) xs) ≡ all
again_passed repeats n xs x all here none told =
    sym (one_behind repeats n xs x here)
    ∙ sym (ap (λ b. if b then Some n else first_again repeats (take n xs ++ x ∷ []) (suc n) (drop (suc n) xs)) none)
    ∙ sym (ap (first_again repeats (take n xs) n) (drop_at xs n x here))
    ∙ told

-- where one was found before it counts
again_more : {X : Type 0} (repeats : List X → X → Bool) (n : ℕ) (xs : List X) (x : X) (again : Option ℕ) (seen : Bool) (all : Option ℕ) → slice_get xs n ≡ Some x → seen ≡ repeats (take n xs) x → or_else again (first_again repeats (take n xs) n (drop n xs)) ≡ all
    → or_else (or_else again (if seen then Some n else None)) (first_again repeats (take (n + 1) xs) (n + 1) (drop (n + 1) xs)) ≡ all
again_more repeats n xs x again seen all here is told =
    let later = first_again repeats (take (n + 1) xs) (n + 1) (drop (n + 1) xs) in
    joined again seen later
    ∙ ap (λ b. or_else again (if b then Some n else later)) is
    ∙ sym (ap (λ o. or_else again (if repeats (take n xs) x then Some n else o)) (one_behind repeats n xs x here))
    ∙ sym (ap (λ ys. or_else again (first_again repeats (take n xs) n ys)) (drop_at xs n x here))
    ∙ told
  where
    joined : (again : Option ℕ) (seen : Bool) (later : Option ℕ) → or_else (or_else again (if seen then Some n else None)) later ≡ or_else again (if seen then Some n else later)
    joined (Some k) seen later = refl
    joined None true later = refl
    joined None false later = refl

pub again_told_more : {X : Type 0} (repeats : List X → X → Bool) (n : ℕ) (xs : List X) (x : X) (again now : Option ℕ) (seen : Bool) (all : Option ℕ) → slice_get xs n ≡ Some x → seen ≡ repeats (take n xs) x → now ≡ or_else again (if seen then Some n else None) → or_else again (first_again repeats (take n xs) n (drop n xs)) ≡ all
    → or_else now (first_again repeats (take (n + 1) xs) (n + 1) (drop (n + 1) xs)) ≡ all
again_told_more repeats n xs x again now seen all here is e told =
    ap (λ o. or_else o (first_again repeats (take (n + 1) xs) (n + 1) (drop (n + 1) xs))) e ∙ again_more repeats n xs x again seen all here is told

-- ---- the names of those that were gone through

-- the names are those that one of these has
abbrev pub AreSeen : {X : Type 0} → (List ℕ → X → Bool) → List (List ℕ) → List X → Type 0
AreSeen has names xs = (m : List ℕ) → is_in m names ≡ list_any (λ y. has m y) xs

pub seen_next : {X : Type 0} (has : List ℕ → X → Bool) (names more : List (List ℕ)) (n : ℕ) (xs : List X) (x : X) → slice_get xs n ≡ Some x → AddsNames names (λ m. has m x) more → AreSeen has names (take n xs) → AreSeen has more (take (n + 1) xs)
seen_next has names more n xs x here adds held = λ m.
    adds m
    ∙ ap (λ b. b || has m x) (held m)
    ∙ sym (any_next (λ y. has m y) (take n xs) x)
    ∙ sym (ap (list_any (λ y. has m y)) (take_next xs n x here))

-- a name that is added by another place of its own
pub added_as : (names more : List (List ℕ)) (a b : List ℕ) → a ≡ b → AddsNames names (λ m. bytes_eq a m) more → AddsNames names (λ m. bytes_eq b m) more
added_as names more a b e adds = λ m. adds m ∙ ap (λ x. is_in m names || bytes_eq x m) e

-- ---- some is found exactly where one is repeated

pub again_told : {X : Type 0} (repeats : List X → X → Bool) (by : X → X → Bool) (twice : List X → Bool) → ((before : List X) (x y : X) → repeats (before ++ x ∷ []) y ≡ (repeats before y || by x y)) → ((x : X) (xs : List X) → twice (x ∷ xs) ≡ (list_any (by x) xs || twice xs)) → twice [] ≡ false
    → (before : List X) (n : ℕ) (xs : List X) → is_some (first_again repeats before n xs) ≡ (list_any (repeats before) xs || twice xs)
again_told repeats by twice more step none before n [] = sym none
again_told repeats by twice more step none before n (x ∷ xs) =
    if_told (repeats before x) n (first_again repeats (before ++ x ∷ []) (suc n) xs)
    ∙ ap (λ b. repeats before x || b) (again_told repeats by twice more step none (before ++ x ∷ []) (suc n) xs)
    ∙ ap (λ b. repeats before x || (b || twice xs)) (any_like (repeats (before ++ x ∷ [])) (λ y. repeats before y || by x y) (more before x) xs ∙ any_or (repeats before) (by x) xs)
    ∙ grouped (repeats before x) (list_any (repeats before) xs) (list_any (by x) xs) (twice xs)
    ∙ sym (ap (λ b. (repeats before x || list_any (repeats before) xs) || b) (step x xs))
  where
    grouped : (r a s t : Bool) → (r || ((a || s) || t)) ≡ ((r || a) || (s || t))
    grouped true a s t = refl
    grouped false true s t = refl
    grouped false false s t = refl

any_no : {X : Type 0} (p : X → Bool) → ((x : X) → p x ≡ false) → (xs : List X) → list_any p xs ≡ false
any_no p none [] = refl
any_no p none (x ∷ xs) = ap (λ b. b || list_any p xs) (none x) ∙ any_no p none xs

pub whole_told : {X : Type 0} (repeats : List X → X → Bool) (by : X → X → Bool) (twice : List X → Bool) → ((before : List X) (x y : X) → repeats (before ++ x ∷ []) y ≡ (repeats before y || by x y)) → ((x : X) (xs : List X) → twice (x ∷ xs) ≡ (list_any (by x) xs || twice xs)) → twice [] ≡ false
    → ((y : X) → repeats [] y ≡ false) → (xs : List X) → is_some (first_again repeats [] 0 xs) ≡ twice xs
whole_told repeats by twice more step none alone xs =
    again_told repeats by twice more step none [] 0 xs ∙ ap (λ b. b || twice xs) (any_no (repeats []) alone xs)

-- ---- lines, gates and submodules

any_and : {X : Type 0} (b : Bool) (p : X → Bool) (xs : List X) → list_any (λ x. b && p x) xs ≡ (b && list_any p xs)
any_and true p xs = refl
any_and false p xs = any_no (λ x. false) (λ x. refl) xs

and_or : (a b c : Bool) → (a && (b || c)) ≡ ((a && b) || (a && c))
and_or true b c = refl
and_or false b c = refl

and_turned : (a b c d : Bool) → c ≡ d → (a && (b && c)) ≡ (b && (a && d))
and_turned true b c d e = ap (λ t. b && t) e
and_turned false true c d e = refl
and_turned false false c d e = refl

pub declared_told : (ls : List SectionLine) → is_some (first_again is_declared_twice [] 0 ls) ≡ redeclares ls
declared_told ls = whole_told is_declared_twice (λ x y. is_declaration y && declares (name_in y) x) redeclares more step refl (λ y. and_false (is_declaration y)) ls
  where
    more : (before : List SectionLine) (x y : SectionLine) → is_declared_twice (before ++ x ∷ []) y ≡ (is_declared_twice before y || (is_declaration y && declares (name_in y) x))
    more before x y = ap (λ b. is_declaration y && b) (any_next (λ l. declares (name_in y) l) before x) ∙ and_or (is_declaration y) (is_declared (name_in y) before) (declares (name_in y) x)

    swapped : (x y : SectionLine) → (is_declaration y && declares (name_in y) x) ≡ (is_declaration x && declares (name_in x) y)
    swapped x y =
        ap (λ b. is_declaration y && b) (declares_by (name_in y) x)
        ∙ and_turned (is_declaration y) (is_declaration x) (bytes_eq (name_in x) (name_in y)) (bytes_eq (name_in y) (name_in x)) (turned (name_in x) (name_in y))
        ∙ sym (ap (λ b. is_declaration x && b) (declares_by (name_in x) y))

    step : (x : SectionLine) (xs : List SectionLine) → redeclares (x ∷ xs) ≡ (list_any (λ y. is_declaration y && declares (name_in y) x) xs || redeclares xs)
    step x xs = ap (λ b. b || redeclares xs) (sym (any_like (λ y. is_declaration y && declares (name_in y) x) (λ y. is_declaration x && declares (name_in x) y) (swapped x) xs ∙ any_and (is_declaration x) (λ y. declares (name_in x) y) xs))

pub refixed_told : (ls : List SectionLine) → is_some (first_again is_refixed [] 0 ls) ≡ sets_fixed_again ls
refixed_told ls = whole_told is_refixed (λ x y. is_some (value_in y) && gives_fixed (name_in y) x) sets_fixed_again more step refl (λ y. and_false (is_some (value_in y))) ls
  where
    more : (before : List SectionLine) (x y : SectionLine) → is_refixed (before ++ x ∷ []) y ≡ (is_refixed before y || (is_some (value_in y) && gives_fixed (name_in y) x))
    more before x y = ap (λ b. is_some (value_in y) && b) (any_next (λ l. gives_fixed (name_in y) l) before x) ∙ and_or (is_some (value_in y)) (list_any (λ l. gives_fixed (name_in y) l) before) (gives_fixed (name_in y) x)

    swapped : (x y : SectionLine) → (is_some (value_in y) && gives_fixed (name_in y) x) ≡ (is_fixed (value_in x) && gives (name_in x) y)
    swapped x y = and_turned (is_some (value_in y)) (is_fixed (value_in x)) (bytes_eq (name_in x) (name_in y)) (bytes_eq (name_in y) (name_in x)) (turned (name_in x) (name_in y))

    step : (x : SectionLine) (xs : List SectionLine) → sets_fixed_again (x ∷ xs) ≡ (list_any (λ y. is_some (value_in y) && gives_fixed (name_in y) x) xs || sets_fixed_again xs)
    step x xs = ap (λ b. b || sets_fixed_again xs) (sym (any_like (λ y. is_some (value_in y) && gives_fixed (name_in y) x) (λ y. is_fixed (value_in x) && gives (name_in x) y) (swapped x) xs ∙ any_and (is_fixed (value_in x)) (λ y. gives (name_in x) y) xs))

-- whether the second line declares the gate of the first
abbrev repeats_gate : GateLine → GateLine → Bool
repeats_gate x (gate.Declaration d) = declares_gate d.name x
repeats_gate x (gate.Refinement r) = false

pub gate_told : (gs : List GateLine) → is_some (first_again is_declared_again [] 0 gs) ≡ redeclares_gate gs
gate_told gs = whole_told is_declared_again repeats_gate redeclares_gate more step refl alone gs
  where
    alone : (y : GateLine) → is_declared_again [] y ≡ false
    alone (gate.Declaration d) = refl
    alone (gate.Refinement r) = refl

    more : (before : List GateLine) (x y : GateLine) → is_declared_again (before ++ x ∷ []) y ≡ (is_declared_again before y || repeats_gate x y)
    more before x (gate.Declaration d) = any_next (λ g. declares_gate d.name g) before x
    more before x (gate.Refinement r) = refl

    same : (x y : GateLine) → repeats_gate x y ≡ is_declared_again (y ∷ []) x
    same (gate.Declaration d) (gate.Declaration e) = turned d.name e.name ∙ sym (or_false (bytes_eq e.name d.name))
    same (gate.Declaration d) (gate.Refinement r) = refl
    same (gate.Refinement r) (gate.Declaration e) = refl
    same (gate.Refinement r) (gate.Refinement s) = refl

    spread : (x : GateLine) (xs : List GateLine) → list_any (λ y. is_declared_again (y ∷ []) x) xs ≡ is_declared_again xs x
    spread (gate.Declaration d) xs = any_like (λ y. declares_gate d.name y || false) (λ y. declares_gate d.name y) (λ y. or_false (declares_gate d.name y)) xs
    spread (gate.Refinement r) xs = any_no (λ y. false) (λ y. refl) xs

    step : (x : GateLine) (xs : List GateLine) → redeclares_gate (x ∷ xs) ≡ (list_any (repeats_gate x) xs || redeclares_gate xs)
    step x xs = ap (λ b. b || redeclares_gate xs) (sym (any_like (repeats_gate x) (λ y. is_declared_again (y ∷ []) x) (same x) xs ∙ spread x xs))

pub submodule_told : (ss : List Submodule) → is_some (first_again is_name_before [] 0 ss) ≡ repeats_submodule ss
submodule_told ss = whole_told is_name_before (λ x y. bytes_eq x.name y.name) repeats_submodule more step refl (λ y. refl) ss
  where
    more : (before : List Submodule) (x y : Submodule) → is_name_before (before ++ x ∷ []) y ≡ (is_name_before before y || bytes_eq x.name y.name)
    more before x y = any_next (λ s. bytes_eq s.name y.name) before x

    step : (x : Submodule) (xs : List Submodule) → repeats_submodule (x ∷ xs) ≡ (list_any (λ y. bytes_eq x.name y.name) xs || repeats_submodule xs)
    step x xs = ap (λ b. b || repeats_submodule xs) (sym (any_like (λ y. bytes_eq x.name y.name) (λ y. bytes_eq y.name x.name) (λ y. turned x.name y.name) xs))

-- whether the line declares a gate that was seen
pub gate_seen : (names : List (List ℕ)) (before : List GateLine) (g : GateLine) → AreSeen declares_gate names before → declares_one names g ≡ is_declared_again before g
gate_seen names before (gate.Declaration d) held = held d.name
gate_seen names before (gate.Refinement r) held = refl
