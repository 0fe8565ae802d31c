-- Laws of merges, and of how often a number stands in lists.
use Rattle.std.proofs.Common.{◌≡◌, ℕ, zero, suc, ◌+◌, ◌<◌, ◌≤◌, ◌==◌, Bool, true, false, List, [], ◌∷◌, ◌++◌, length, drop, take, set, get_or, Some, None, refl, sym, ap, subst, ◌∙◌, append-nil, append_assoc, arith, add-one, eq-eqb, if◌then◌else◌, slice_get}
use Rattle.std.specs.List.{All}
use Rattle.std.proofs.lemmas.List.{drop_more, length-map, length-take-le, get_or_at, set_at, map_more}
use Rattle.std.proofs.lemmas.List.Elements.{All-head, All-tail, All-cons}
use Rattle.ini_trees.specs.Merge.{tail, stands_in, stands_behind, first_free, without_head, without, IsMerge}
use Rattle.ini_trees.specs.Counts.{one_where, same_number, held, behind, AreBelow, AreAllBelow}

pub tail_of_drop : {X : Type 0} (xs : List X) (i : ℕ) → drop (i + 1) xs ≡ tail (drop i xs)
tail_of_drop xs i = rw add-one (go xs i)
  where
    go : {X : Type 0} (xs : List X) (i : ℕ) → drop (suc i) xs ≡ tail (drop i xs)
    go [] zero = refl
    go [] (suc i) = refl
    go (x ∷ xs) zero = refl
    go (x ∷ xs) (suc i) = go xs i

pub tail_of_all : {X : Type 0} (xs : List X) (i : ℕ) → length xs ≤ i → drop i xs ≡ tail (drop i xs)
tail_of_all [] zero le = refl
tail_of_all [] (suc i) le = refl
tail_of_all (x ∷ xs) zero le = absurd (omega arith)
tail_of_all (x ∷ xs) (suc i) le = let less : length xs ≤ i = omega arith in tail_of_all xs i less

-- ---- how often

pub held_more : (k : ℕ) (xs : List ℕ) (i d : ℕ) → i < length xs → held k (drop i xs) ≡ one_where (get_or xs i d == k) + held k (drop (i + 1) xs)
held_more k xs i d h = ap (held k) (drop_more xs i d h)

pub held-le : (k : ℕ) (xs : List ℕ) → held k xs ≤ length xs
held-le k [] = omega arith
held-le k (x ∷ xs) = let le = held-le k xs in go (x == k) le
  where
    go : (b : Bool) → held k xs ≤ length xs → one_where b + held k xs ≤ suc (length xs)
    go true le = omega arith
    go false le = omega arith

pub behind_more : (k : ℕ) (ls : List (List ℕ)) (i : ℕ) (d : List ℕ) → i < length ls → behind k (drop i ls) ≡ held k (tail (get_or ls i d)) + behind k (drop (i + 1) ls)
behind_more k ls i d h = ap (behind k) (drop_more ls i d h)

-- ---- a merge on its way

-- these numbers were taken from the lists, and this is left of them
pub record IsMerging (ls : List (List ℕ)) (line : List ℕ) (rests : List (List ℕ)) : Type 0 where
  pub there : (more : List ℕ) → IsMerge same_number rests more → IsMerge same_number ls (line ++ more)
  pub back : (all : List ℕ) → IsMerge same_number ls all → (more : List ℕ) × (all ≡ line ++ more) × IsMerge same_number rests more

-- how many numbers are left
abbrev pub all_lengths : List (List ℕ) → ℕ
all_lengths [] = 0
all_lengths (l ∷ ls) = length l + all_lengths ls

pub held_here : (k : ℕ) (xs : List ℕ) (i d : ℕ) → i < length xs → get_or xs i d ≡ k → 0 < held k (drop i xs)
held_here k xs i d h e =
    let parts = held_more k xs i d h in
    let yes : (get_or xs i d == k) ≡ true = eq-eqb _ _ e in
    let one : one_where (get_or xs i d == k) ≡ 1 = ap one_where yes in
    omega arith

pub held_first : (k : ℕ) (xs : List ℕ) → slice_get xs 0 ≡ Some k → 0 < held k xs
held_first k [] e = absurd cc
held_first k (x ∷ xs) e =
    let same : x ≡ k = cc in
    let one : one_where (x == k) ≡ 1 = ap one_where (eq-eqb x k same) in
    omega arith

held_none : (k : ℕ) (xs : List ℕ) → held k xs ≡ 0 → stands_in same_number k xs ≡ false
held_none k [] e = refl
held_none k (x ∷ xs) e = go (x == k) refl e (held_none k xs)
  where
    go : (b : Bool) → (x == k) ≡ b → one_where b + held k xs ≡ 0 → (held k xs ≡ 0 → stands_in same_number k xs ≡ false) → stands_in same_number k (x ∷ xs) ≡ false
    go true is e later = absurd (omega arith)
    go false is e later = rw is (later (omega arith))

held_some : (k : ℕ) (xs : List ℕ) → 0 < held k xs → stands_in same_number k xs ≡ true
held_some k [] h = absurd (omega arith)
held_some k (x ∷ xs) h = go (x == k) refl h (held_some k xs)
  where
    go : (b : Bool) → (x == k) ≡ b → 0 < one_where b + held k xs → (0 < held k xs → stands_in same_number k xs ≡ true) → stands_in same_number k (x ∷ xs) ≡ true
    go true is h later = rw is refl
    go false is h later = rw is (later (omega arith))

pub none_behind : (k : ℕ) (ls : List (List ℕ)) → behind k ls ≡ 0 → stands_behind same_number k ls ≡ false
none_behind k [] e = refl
none_behind k (l ∷ ls) e =
    let here : stands_in same_number k (tail l) ≡ false = held_none k (tail l) (omega arith) in
    rw here (none_behind k ls (omega arith))

pub some_behind : (k : ℕ) (ls : List (List ℕ)) → 0 < behind k ls → stands_behind same_number k ls ≡ true
some_behind k [] h = absurd (omega arith)
some_behind k (l ∷ ls) h = go (held k (tail l)) refl (some_behind k ls)
  where
    go : (n : ℕ) → held k (tail l) ≡ n → (0 < behind k ls → stands_behind same_number k ls ≡ true) → stands_behind same_number k (l ∷ ls) ≡ true
    go zero e later =
        let here : stands_in same_number k (tail l) ≡ false = held_none k (tail l) e in
        rw here (later (omega arith))
    go (suc n) e later =
        let here : stands_in same_number k (tail l) ≡ true = held_some k (tail l) (omega arith) in
        rw here refl

pub behind_at : (k : ℕ) (ls : List (List ℕ)) (i : ℕ) (d : List ℕ) → i < length ls → held k (tail (get_or ls i d)) ≤ behind k ls
behind_at k [] i d h = absurd (omega arith)
behind_at k (l ∷ ls) zero d h = omega arith
behind_at k (l ∷ ls) (suc i) d h = let later = behind_at k ls i d (omega arith) in omega arith

pub behind-set : (k : ℕ) (ls : List (List ℕ)) (i : ℕ) (m d : List ℕ) → i < length ls → behind k (set ls i m) + held k (tail (get_or ls i d)) ≡ behind k ls + held k (tail m)
behind-set k [] i m d h = absurd (omega arith)
behind-set k (l ∷ ls) zero m d h = omega arith
behind-set k (l ∷ ls) (suc i) m d h = let later = behind-set k ls i m d (omega arith) in omega arith

-- ---- the first head

pub free_here : (x : ℕ) (l : List ℕ) (ls all : List (List ℕ)) → slice_get l 0 ≡ Some x → stands_behind same_number x all ≡ false → first_free same_number all (l ∷ ls) ≡ Some x
free_here x [] ls all e free = absurd cc
free_here x (y ∷ ys) ls all e free =
    let same : y ≡ x = cc in
    let other : stands_behind same_number y all ≡ false = ap (λ (n : ℕ). stands_behind same_number n all) same ∙ free in
    rw other (ap Some same)

pub free_later : (l : List ℕ) (ls all : List (List ℕ)) → ((x : ℕ) → slice_get l 0 ≡ Some x → stands_behind same_number x all ≡ true) → first_free same_number all (l ∷ ls) ≡ first_free same_number all ls
free_later [] ls all held = refl
free_later (y ∷ ys) ls all held = let is = held y refl in rw is refl

pub free_none : {X : Type 0} (same : X → X → Bool) (all ls : List (List X)) → All (λ l. l ≡ []) ls → first_free same all ls ≡ None
free_none same all [] empty = refl
free_none same all ([] ∷ ls) empty = free_none same all ls (All-tail (λ l. l ≡ []) [] ls empty)
free_none same all ((x ∷ xs) ∷ ls) empty = let wrong : x ∷ xs ≡ [] = All-head (λ l. l ≡ []) (x ∷ xs) ls empty in absurd cc

-- ---- what is taken

below_tail : (n : ℕ) (l : List ℕ) → AreBelow n l → AreBelow n (tail l)
below_tail n [] below = below
below_tail n (x ∷ xs) below = All-tail (λ y. y < n) x xs below

pub first_below : (n x : ℕ) (l : List ℕ) → AreBelow n l → slice_get l 0 ≡ Some x → x < n
first_below n x [] below e = absurd cc
first_below n x (y ∷ ys) below e =
    let same : y ≡ x = cc in
    subst (λ (k : ℕ). k < n) same (All-head (λ y. y < n) y ys below)

pub next_below : (n x : ℕ) (l : List ℕ) → AreBelow n l → slice_get (tail l) 0 ≡ Some x → x < n
next_below n x l below e = first_below n x (tail l) (below_tail n l below) e

pub without_below : (n x : ℕ) (l : List ℕ) → AreBelow n l → AreBelow n (without_head same_number x l)
without_below n x [] below = below
without_below n x (y ∷ ys) below = go (y == x)
  where
    go : (b : Bool) → AreBelow n (if b then ys else y ∷ ys)
    go true = All-tail (λ y. y < n) y ys below
    go false = below

pub all_without_below : (n x : ℕ) (ls : List (List ℕ)) → AreAllBelow n ls → AreAllBelow n (without same_number x ls)
all_without_below n x [] below = below
all_without_below n x (l ∷ ls) below =
    All-cons (AreBelow n) (without_head same_number x l) (without same_number x ls) (without_below n x l (All-head (AreBelow n) l ls below)) (all_without_below n x ls (All-tail (AreBelow n) l ls below))

length_without : (x : ℕ) (l : List ℕ) → length (without_head same_number x l) ≤ length l
length_without x [] = omega arith
length_without x (y ∷ ys) = go (y == x)
  where
    go : (b : Bool) → length (if b then ys else y ∷ ys) ≤ suc (length ys)
    go true = omega arith
    go false = omega arith

lengths_without : (x : ℕ) (ls : List (List ℕ)) → all_lengths (without same_number x ls) ≤ all_lengths ls
lengths_without x [] = omega arith
lengths_without x (l ∷ ls) =
    let here = length_without x l in
    let rest = lengths_without x ls in
    omega arith

pub fewer_numbers : (x : ℕ) (all ls : List (List ℕ)) → first_free same_number all ls ≡ Some x → all_lengths (without same_number x ls) < all_lengths ls
fewer_numbers x all [] e = absurd cc
fewer_numbers x all ([] ∷ ls) e = let rest = fewer_numbers x all ls e in omega arith
fewer_numbers x all ((y ∷ ys) ∷ ls) e = go (stands_behind same_number y all) e (fewer_numbers x all ls)
  where
    go : (b : Bool) → (if b then first_free same_number all ls else Some y) ≡ Some x → (first_free same_number all ls ≡ Some x → all_lengths (without same_number x ls) < all_lengths ls) → all_lengths (without same_number x ((y ∷ ys) ∷ ls)) < all_lengths ((y ∷ ys) ∷ ls)
    go true e later =
        let here = length_without x (y ∷ ys) in
        let rest = later e in
        omega arith
    go false e later =
        let same : y ≡ x = cc in
        let yes : (y == x) ≡ true = eq-eqb y x same in
        let rest = lengths_without x ls in
        rw yes (omega arith)

pub taken_more : (x i : ℕ) (rests init : List (List ℕ)) (d : List ℕ) → i < length init → rests ≡ without same_number x (take i init) ++ drop i init → get_or rests i d ≡ get_or init i d
taken_more x i rests init d h e =
    let front : length (without same_number x (take i init)) ≡ i = length-map (take i init) (λ l. without_head same_number x l) ∙ length-take-le i init (omega arith) in
    ap (λ (l : List (List ℕ)). get_or l i d) (e ∙ ap (λ (l : List (List ℕ)). without same_number x (take i init) ++ l) (drop_more init i d h)) ∙ get_or_at (without same_number x (take i init)) (get_or init i d) (drop (i + 1) init) d i front

pub taken_next : (x i : ℕ) (rests init : List (List ℕ)) (d : List ℕ) → i < length init → rests ≡ without same_number x (take i init) ++ drop i init → set rests i (without_head same_number x (get_or init i d)) ≡ without same_number x (take (i + 1) init) ++ drop (i + 1) init
taken_next x i rests init d h e =
    let front : length (without same_number x (take i init)) ≡ i = length-map (take i init) (λ l. without_head same_number x l) ∙ length-take-le i init (omega arith) in
    ap (λ (l : List (List ℕ)). set l i (without_head same_number x (get_or init i d))) (e ∙ ap (λ (l : List (List ℕ)). without same_number x (take i init) ++ l) (drop_more init i d h))
    ∙ set_at (without same_number x (take i init)) (get_or init i d) (drop (i + 1) init) (without_head same_number x (get_or init i d)) i front
    ∙ sym (append_assoc (without same_number x (take i init)) (without_head same_number x (get_or init i d) ∷ []) (drop (i + 1) init))
    ∙ ap (λ (l : List (List ℕ)). l ++ drop (i + 1) init) (sym (map_more (λ l. without_head same_number x l) init i d h))

-- ---- steps of a merge

pub merging_begins : (ls : List (List ℕ)) → IsMerging ls [] ls
merging_begins ls = record { there = λ more m. m; back = λ all m. (all, refl, m) }

merging_back : (ls rests : List (List ℕ)) (line all more : List ℕ) (x : ℕ) → first_free same_number rests rests ≡ Some x → all ≡ line ++ more → IsMerge same_number rests more → (rest : List ℕ) × (all ≡ (line ++ x ∷ []) ++ rest) × IsMerge same_number (without same_number x rests) rest
merging_back ls rests line all [] x e is m = absurd (let none = free_none same_number rests rests m in cc)
merging_back ls rests line all (y ∷ ys) x e is m =
    let found : Some y ≡ Some x = sym m.0 ∙ e in
    let same : y ≡ x = cc in (
      ys,
      is ∙ ap (λ (n : ℕ). line ++ (n ∷ ys)) same ∙ sym (append_assoc line (x ∷ []) ys),
      subst (λ (n : ℕ). IsMerge same_number (without same_number n rests) ys) same m.1,
    )

pub merging_goes_on : (ls rests : List (List ℕ)) (line : List ℕ) (x : ℕ) → first_free same_number rests rests ≡ Some x → IsMerging ls line rests → IsMerging ls (line ++ x ∷ []) (without same_number x rests)
merging_goes_on ls rests line x e w = record {
  there = λ more m. subst (IsMerge same_number ls) (sym (append_assoc line (x ∷ []) more)) (w.there (x ∷ more) (e, m));
  back = λ all m. let found = w.back all m in merging_back ls rests line all found.0 x e found.1 found.2;
}

pub merging_ends : (ls rests : List (List ℕ)) (line : List ℕ) → All (λ l. l ≡ []) rests → IsMerging ls line rests → IsMerge same_number ls line
merging_ends ls rests line empty w = subst (IsMerge same_number ls) (append-nil line) (w.there [] empty)

no_more : (rests : List (List ℕ)) (more : List ℕ) → first_free same_number rests rests ≡ None → (All (λ l. l ≡ []) rests → ⊥) → IsMerge same_number rests more → ⊥
no_more rests [] none left m = left m
no_more rests (x ∷ more) none left m = let wrong : None ≡ Some x = sym none ∙ m.0 in absurd cc

pub merging_stuck : (ls rests : List (List ℕ)) (line : List ℕ) → first_free same_number rests rests ≡ None → (All (λ l. l ≡ []) rests → ⊥) → IsMerging ls line rests → (all : List ℕ) → IsMerge same_number ls all → ⊥
merging_stuck ls rests line none left w all m = let found = w.back all m in no_more rests found.0 none left found.2

pub none_counted : (k : ℕ) (ls : List (List ℕ)) → All (λ l. l ≡ []) ls → behind k ls ≡ 0
none_counted k [] empty = refl
none_counted k (l ∷ ls) empty =
    let here : held k (tail l) ≡ 0 = ap (λ (m : List ℕ). held k (tail m)) (All-head (λ m. m ≡ []) l ls empty) in
    let rest = none_counted k ls (All-tail (λ m. m ≡ []) l ls empty) in
    omega arith
