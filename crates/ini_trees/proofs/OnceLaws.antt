-- A chain names each configuration once.
use Rattle.std.proofs.Common.{◌≡◌, ◌≢◌, ◌⊎◌, inl, inr, ℕ, zero, suc, ◌<◌, ◌≤◌, Bool, true, false, not, ◌||◌, List, [], ◌∷◌, ◌++◌, length, get_or, Some, refl, sym, ap, subst, ◌∙◌, arith, if◌then◌else◌}
use Rattle.std.specs.List.{AllZip, filter}
use Rattle.std.specs.Str.{bytes_eq}
use Rattle.std.proofs.lemmas.Bool.{false≢true}
use Rattle.std.proofs.lemmas.Slice.Eq.{bytes_eq-Decides}
use Rattle.ini_trees.specs.declared.lines.IniLine.{IniLine}
use Rattle.ini_trees.specs.Merge.{tail, stands_in, stands_behind, first_free, without_head, without, IsMerge}
use Rattle.ini_trees.specs.Numbers.{name_at, AreApart}
use Rattle.ini_trees.specs.Once.{NamesOnce}
use Rattle.ini_trees.specs.Sections.{general, bases_named, bases_of, IsLineWithin}
use Rattle.ini_trees.specs.Words.{Bytes}
use Rattle.ini_trees.proofs.LineLaws.{IsBaseLine, only_line}

-- the list has the name
abbrev pub Has : Bytes → List Bytes → Type 0
Has x [] = ⊥
Has x (y ∷ ys) = (y ≡ x) ⊎ Has x ys

-- one of the lists has it
abbrev pub OneHas : Bytes → List (List Bytes) → Type 0
OneHas x [] = ⊥
OneHas x (l ∷ ls) = Has x l ⊎ OneHas x ls

-- each name stands once in the list
abbrev pub AreOnce : List Bytes → Type 0
AreOnce [] = Unit {0}
AreOnce (x ∷ xs) = (Has x xs → ⊥) × AreOnce xs

-- ---- merges

or_left : (a b : Bool) → (a || b) ≡ false → a ≡ false
or_left true b h = h
or_left false b h = refl

or_right : (a b : Bool) → (a || b) ≡ false → b ≡ false
or_right true b h = absurd (false≢true (sym h))
or_right false b h = h

stands_not : (x : Bytes) (l : List Bytes) → stands_in bytes_eq x l ≡ false → Has x l → ⊥
stands_not x [] none h = h
stands_not x (y ∷ ys) none (inl e) = false≢true (sym (or_left (bytes_eq y x) (stands_in bytes_eq x ys) none) ∙ (bytes_eq-Decides y x).1 e)
stands_not x (y ∷ ys) none (inr h) = stands_not x ys (or_right (bytes_eq y x) (stands_in bytes_eq x ys) none) h

free_stands : (all ls : List (List Bytes)) (x : Bytes) → first_free bytes_eq all ls ≡ Some x → (stands_behind bytes_eq x all ≡ false) × OneHas x ls
free_stands all [] x e = absurd cc
free_stands all ([] ∷ ls) x e = let rest = free_stands all ls x e in (rest.0, inr rest.1)
free_stands all ((y ∷ ys) ∷ ls) x e = go (stands_behind bytes_eq y all) refl e (free_stands all ls x)
  where
    go : (b : Bool) → stands_behind bytes_eq y all ≡ b → (if b then first_free bytes_eq all ls else Some y) ≡ Some x → (first_free bytes_eq all ls ≡ Some x → (stands_behind bytes_eq x all ≡ false) × OneHas x ls) → (stands_behind bytes_eq x all ≡ false) × OneHas x ((y ∷ ys) ∷ ls)
    go true h e later = let rest = later e in (rest.0, inr rest.1)
    go false h e later =
        let same : y ≡ x = cc in
        (subst (λ (n : Bytes). stands_behind bytes_eq n all ≡ false) same h, inl (inl same))

head_not : (x : Bytes) (l : List Bytes) → stands_in bytes_eq x (tail l) ≡ false → Has x (without_head bytes_eq x l) → ⊥
head_not x [] none h = h
head_not x (y ∷ ys) none h = go (bytes_eq y x) refl h
  where
    go : (b : Bool) → bytes_eq y x ≡ b → Has x (if b then ys else y ∷ ys) → ⊥
    go true e h = stands_not x ys none h
    go false e (inl is) = false≢true (sym e ∙ (bytes_eq-Decides y x).1 is)
    go false e (inr h) = stands_not x ys none h

taken_away : (x : Bytes) (ls : List (List Bytes)) → stands_behind bytes_eq x ls ≡ false → OneHas x (without bytes_eq x ls) → ⊥
taken_away x [] none h = h
taken_away x (l ∷ ls) none (inl h) = head_not x l (or_left (stands_in bytes_eq x (tail l)) (stands_behind bytes_eq x ls) none) h
taken_away x (l ∷ ls) none (inr h) = taken_away x ls (or_right (stands_in bytes_eq x (tail l)) (stands_behind bytes_eq x ls) none) h

head_had : (x y : Bytes) (l : List Bytes) → Has y (without_head bytes_eq x l) → Has y l
head_had x y [] h = h
head_had x y (z ∷ zs) h = go (bytes_eq z x) h
  where
    go : (b : Bool) → Has y (if b then zs else z ∷ zs) → Has y (z ∷ zs)
    go true h = inr h
    go false h = h

was_there : (x y : Bytes) (ls : List (List Bytes)) → OneHas y (without bytes_eq x ls) → OneHas y ls
was_there x y [] h = h
was_there x y (l ∷ ls) (inl h) = inl (head_had x y l h)
was_there x y (l ∷ ls) (inr h) = inr (was_there x y ls h)

-- what a merge has, one of the lists has
pub merge_has : (ls : List (List Bytes)) (m : List Bytes) (y : Bytes) → IsMerge bytes_eq ls m → Has y m → OneHas y ls
merge_has ls [] y w h = absurd h
merge_has ls (x ∷ more) y w (inl e) = subst (λ (n : Bytes). OneHas n ls) e (free_stands ls ls x w.0).1
merge_has ls (x ∷ more) y w (inr h) = was_there x y ls (merge_has (without bytes_eq x ls) more y w.1 h)

-- a merge has each name once
merge_once : (ls : List (List Bytes)) (m : List Bytes) → IsMerge bytes_eq ls m → AreOnce m
merge_once ls [] w = tt
merge_once ls (x ∷ more) w =
    (λ h. taken_away x ls (free_stands ls ls x w.0).0 (merge_has (without bytes_eq x ls) more x w.1 h), merge_once (without bytes_eq x ls) more w.1)

pub one_of : (y : Bytes) (ls : List (List Bytes)) (l : List Bytes) → OneHas y (ls ++ l ∷ []) → OneHas y ls ⊎ Has y l
one_of y [] l (inl h) = inr h
one_of y [] l (inr h) = absurd h
one_of y (m ∷ ls) l (inl h) = inl (inl h)
one_of y (m ∷ ls) l (inr h) = go (one_of y ls l h)
  where
    go : OneHas y ls ⊎ Has y l → OneHas y (m ∷ ls) ⊎ Has y l
    go (inl h) = inl (inr h)
    go (inr h) = inr h

-- ---- lines

-- the name has a line that goes less deep
abbrev HasBelow : ℕ → List IniLine → Bytes → Type 0
HasBelow d text y = (e : ℕ) × (e < d) × (l : List Bytes) × IsLineWithin e text y l

below_more : (d : ℕ) (text : List IniLine) (y : Bytes) → HasBelow d text y → HasBelow (suc d) text y
below_more d text y h = (h.0, omega (arith, h.1), h.2, h.3)

base_below : (d : ℕ) (text : List IniLine) (y : Bytes) (bs : List Bytes) (ls : List (List Bytes)) → AllZip (IsBaseLine d text) bs ls → Has y bs → HasBelow (suc d) text y
base_below d text y [] ls z h = absurd h
base_below d text y (b ∷ bs) [] z h = absurd z
base_below d text y (b ∷ bs) (l ∷ ls) z (inl e) = (d, omega arith, l, subst (λ (n : Bytes). IsLineWithin d text n l) e z.0.1)
base_below d text y (b ∷ bs) (l ∷ ls) z (inr h) = base_below d text y bs ls z.1 h

-- what stands in a line has one that goes no deeper
line_below : (d : ℕ) (text : List IniLine) (b v y : Bytes) (vs : List Bytes) → (Has y vs → HasBelow d text y) → IsLineWithin d text b (v ∷ vs) → Has y (v ∷ vs) → HasBelow (suc d) text y
line_below zero text b v y vs later w h = absurd w
line_below (suc d) text b v y vs later w (inl e) = (suc d, omega arith, v ∷ vs, subst (λ (n : Bytes). IsLineWithin (suc d) text n (v ∷ vs)) (sym w.0 ∙ e) w)
line_below (suc d) text b v y vs later w (inr h) = below_more (suc d) text y (later h)

lines_below : (d : ℕ) (text : List IniLine) (y : Bytes) → ((b v : Bytes) (vs : List Bytes) → IsLineWithin d text b (v ∷ vs) → Has y vs → HasBelow d text y) → (bs : List Bytes) (ls : List (List Bytes)) → AllZip (IsBaseLine d text) bs ls → OneHas y ls → HasBelow (suc d) text y
lines_below d text y later [] [] z h = absurd h
lines_below d text y later [] (l ∷ ls) z h = absurd z
lines_below d text y later (b ∷ bs) [] z h = absurd z
lines_below d text y later (b ∷ bs) ([] ∷ ls) z (inl h) = absurd h
lines_below d text y later (b ∷ bs) ((v ∷ vs) ∷ ls) z (inl h) = line_below d text b v y vs (later b v vs z.0.1) z.0.1 h
lines_below d text y later (b ∷ bs) (l ∷ ls) z (inr h) = lines_below d text y later bs ls z.1 h

all_below : (d : ℕ) (text : List IniLine) (y : Bytes) (bs : List Bytes) (ls : List (List Bytes)) → ((b v : Bytes) (vs : List Bytes) → IsLineWithin d text b (v ∷ vs) → Has y vs → HasBelow d text y) → AllZip (IsBaseLine d text) bs ls → OneHas y ls ⊎ Has y bs → HasBelow (suc d) text y
all_below d text y bs ls later z (inl h) = lines_below d text y later bs ls z h
all_below d text y bs ls later z (inr h) = base_below d text y bs ls z h

-- what stands after a configuration in its line has a line that goes less deep
behind_below : (d : ℕ) (text : List IniLine) (name x y : Bytes) (xs : List Bytes) → IsLineWithin d text name (x ∷ xs) → Has y xs → HasBelow d text y
behind_below zero text name x y xs w h = absurd w
behind_below (suc d) text name x y xs w h =
    all_below d text y (bases_named name text) w.1 (λ b v vs u k. behind_below d text b v y vs u k) w.2
    (one_of y w.1 (bases_named name text) (merge_has (w.1 ++ bases_named name text ∷ []) xs y w.3 h))

-- a configuration stands in its line once
not_again : (n d : ℕ) → d ≤ n → (text : List IniLine) (name x : Bytes) (xs : List Bytes) → IsLineWithin d text name (x ∷ xs) → Has name xs → ⊥
not_again n zero le text name x xs w h = w
not_again zero (suc d) le text name x xs w h = omega (arith, le)
not_again (suc n) (suc d) le text name x xs w h =
    let below = behind_below (suc d) text name x name xs w h in
    let same : x ∷ xs ≡ below.2 = only_line (suc d) text below.0 name (x ∷ xs) below.2 w below.3 in
    not_again n below.0 (omega (arith, le, below.1)) text name x xs (subst (IsLineWithin below.0 text name) (sym same) below.3) h

pub line_once : (d : ℕ) (text : List IniLine) (name : Bytes) (line : List Bytes) → IsLineWithin d text name line → AreOnce line
line_once zero text name line w = absurd w
line_once (suc d) text name [] w = absurd w
line_once (suc d) text name (x ∷ xs) w =
    (λ h. not_again (suc d) (suc d) (omega arith) text name x xs w (subst (λ (n : Bytes). Has n xs) w.0 h), merge_once (w.1 ++ bases_named name text ∷ []) xs w.3)

-- ---- General

other_not : (n : Bytes) (ns : List Bytes) (b : Bool) → bytes_eq n general ≡ b → (Has general ns → ⊥) → Has general (if not b then n ∷ ns else ns) → ⊥
other_not n ns true e later h = later h
other_not n ns false e later (inl is) = false≢true (sym e ∙ (bytes_eq-Decides n general).1 is)
other_not n ns false e later (inr h) = later h

pub others_not : (names : List Bytes) → Has general (filter (λ base. not (bytes_eq base general)) names) → ⊥
others_not [] h = h
others_not (n ∷ ns) h = other_not n (filter (λ base. not (bytes_eq base general)) ns) (bytes_eq n general) refl (others_not ns) h

lines_not : (d : ℕ) (text : List IniLine) → ((b : Bytes) (l : List Bytes) → IsLineWithin d text b l → b ≢ general → Has general l → ⊥) → (bs : List Bytes) (ls : List (List Bytes)) → (Has general bs → ⊥) → AllZip (IsBaseLine d text) bs ls → OneHas general ls → ⊥
lines_not d text later [] [] none z h = h
lines_not d text later [] (l ∷ ls) none z h = z
lines_not d text later (b ∷ bs) [] none z h = z
lines_not d text later (b ∷ bs) (l ∷ ls) none z (inl h) = later b l z.0.1 (λ e. none (inl e)) h
lines_not d text later (b ∷ bs) (l ∷ ls) none z (inr h) = lines_not d text later bs ls (λ g. none (inr g)) z.1 h

all_not : (d : ℕ) (text : List IniLine) (bs : List Bytes) (ls : List (List Bytes)) → ((b : Bytes) (l : List Bytes) → IsLineWithin d text b l → b ≢ general → Has general l → ⊥) → (Has general bs → ⊥) → AllZip (IsBaseLine d text) bs ls → OneHas general ls ⊎ Has general bs → ⊥
all_not d text bs ls later none z (inl h) = lines_not d text later bs ls none z h
all_not d text bs ls later none z (inr h) = none h

-- General stands in the line of no other configuration
pub line_not : (d : ℕ) (text : List IniLine) (name : Bytes) (line : List Bytes) → IsLineWithin d text name line → name ≢ general → Has general line → ⊥
line_not zero text name line w other h = w
line_not (suc d) text name [] w other h = h
line_not (suc d) text name (x ∷ xs) w other (inl e) = other (sym w.0 ∙ e)
line_not (suc d) text name (x ∷ xs) w other (inr h) =
    all_not d text (bases_named name text) w.1 (λ b l u apart k. line_not d text b l u apart k) (others_not (bases_of name text)) w.2
    (one_of general w.1 (bases_named name text) (merge_has (w.1 ++ bases_named name text ∷ []) xs general w.3 h))

-- ---- places

once_behind : (xs : List Bytes) (x : Bytes) → AreOnce xs → (Has x xs → ⊥) → AreOnce (xs ++ x ∷ [])
once_behind [] x once none = (λ h. h, tt)
once_behind (y ∷ ys) x once none = (first, once_behind ys x once.1 (λ h. none (inr h)))
  where
    joined : (zs : List Bytes) → Has y (zs ++ x ∷ []) → Has y zs ⊎ (x ≡ y)
    joined [] (inl e) = inr e
    joined [] (inr h) = absurd h
    joined (z ∷ zs) (inl e) = inl (inl e)
    joined (z ∷ zs) (inr h) = go (joined zs h)
      where
        go : Has y zs ⊎ (x ≡ y) → Has y (z ∷ zs) ⊎ (x ≡ y)
        go (inl h) = inl (inr h)
        go (inr e) = inr e

    first : Has y (ys ++ x ∷ []) → ⊥
    first h = go (joined ys h)
      where
        go : Has y ys ⊎ (x ≡ y) → ⊥
        go (inl h) = once.0 h
        go (inr e) = none (inl (sym e))

pub had_at : (xs : List Bytes) (k : ℕ) → k < length xs → Has (get_or xs k []) xs
had_at [] k h = absurd (omega (arith, h))
had_at (x ∷ xs) zero h = inl refl
had_at (x ∷ xs) (suc k) h = inr (had_at xs k (omega (arith, h)))

once_apart : (xs : List Bytes) → AreOnce xs → AreApart (name_at xs) (length xs)
once_apart [] once i j h k e = absurd (omega (arith, h))
once_apart (x ∷ xs) once zero zero h k e = refl
once_apart (x ∷ xs) once zero (suc j) h k e = absurd (once.0 (subst (λ (n : Bytes). Has n xs) (sym e) (had_at xs j (omega (arith, k)))))
once_apart (x ∷ xs) once (suc i) zero h k e = absurd (once.0 (subst (λ (n : Bytes). Has n xs) e (had_at xs i (omega (arith, h)))))
once_apart (x ∷ xs) once (suc i) (suc j) h k e = ap suc (once_apart xs once.1 i j (omega (arith, h)) (omega (arith, k)) e)

pub names_once : (text : List IniLine) (config : Bytes) → NamesOnce text config
names_once text config chain (inl h) = subst (λ (l : List Bytes). AreApart (name_at l) (length l)) (sym h.1) (once_apart (general ∷ []) (λ n. n, tt))
names_once text config chain (inr h) =
    let is = h.3 in
    subst (λ (l : List Bytes). AreApart (name_at l) (length l)) (sym h.2)
    (once_apart (h.1 ++ general ∷ []) (once_behind h.1 general (line_once is.0 text config h.1 is.1) (line_not is.0 text config h.1 is.1 h.0)))
