-- Configurations by numbers: where different numbers have different names, a merge of numbers is
-- one of their names.
use Rattle.std.proofs.Common.{◌≡◌, ℕ, ◌<◌, ◌==◌, Bool, true, false, List, [], ◌∷◌, map, Option, Some, None, option_map, refl, sym, ap, subst, ◌∙◌, arith, if◌then◌else◌, eqb-true}
use Rattle.std.specs.List.{All}
use Rattle.std.specs.Str.{bytes_eq}
use Rattle.std.proofs.lemmas.Bool.{false≢true, eq-eqb}
use Rattle.std.proofs.lemmas.List.Elements.{All-head, All-tail, All-cons}
use Rattle.std.proofs.lemmas.Slice.Eq.{bytes_eq-Decides}
use Rattle.ini_trees.specs.Merge.{tail, stands_in, stands_behind, first_free, without_head, without, IsMerge}
use Rattle.ini_trees.specs.Counts.{same_number, AreBelow, AreAllBelow}
use Rattle.ini_trees.specs.Numbers.{AreApart}
use Rattle.ini_trees.specs.Words.{Bytes}
use Rattle.ini_trees.proofs.MergeLaws.{all_without_below}

same_by : (f : ℕ → Bytes) (n i j : ℕ) → AreApart f n → i < n → j < n → bytes_eq (f i) (f j) ≡ (i == j)
same_by f n i j apart h k = go (i == j) refl (bytes_eq (f i) (f j)) refl
  where
    go : (b : Bool) → (i == j) ≡ b → (c : Bool) → bytes_eq (f i) (f j) ≡ c → c ≡ b
    go true e c is = sym is ∙ (bytes_eq-Decides (f i) (f j)).1 (ap f (eqb-true i j e))
    go false e true is = absurd (let same : i ≡ j = apart i j h k ((bytes_eq-Decides (f i) (f j)).0 is) in false≢true (sym e ∙ eq-eqb i j same))
    go false e false is = refl

stands_in_names : (f : ℕ → Bytes) (n x : ℕ) (l : List ℕ) → AreApart f n → x < n → AreBelow n l → stands_in bytes_eq (f x) (map f l) ≡ stands_in same_number x l
stands_in_names f n x [] apart h below = refl
stands_in_names f n x (y ∷ ys) apart h below =
    let here : bytes_eq (f y) (f x) ≡ (y == x) = same_by f n y x apart (All-head (λ k. k < n) y ys below) h in
    let rest = stands_in_names f n x ys apart h (All-tail (λ k. k < n) y ys below) in
    cc

tail_names : (f : ℕ → Bytes) (l : List ℕ) → tail (map f l) ≡ map f (tail l)
tail_names f [] = refl
tail_names f (x ∷ xs) = refl

below_behind : (n : ℕ) (l : List ℕ) → AreBelow n l → AreBelow n (tail l)
below_behind n [] below = below
below_behind n (x ∷ xs) below = All-tail (λ y. y < n) x xs below

stands_behind_names : (f : ℕ → Bytes) (n x : ℕ) (ls : List (List ℕ)) → AreApart f n → x < n → AreAllBelow n ls → stands_behind bytes_eq (f x) (map (map f) ls) ≡ stands_behind same_number x ls
stands_behind_names f n x [] apart h below = refl
stands_behind_names f n x (l ∷ ls) apart h below =
    let here : stands_in bytes_eq (f x) (tail (map f l)) ≡ stands_in same_number x (tail l) =
    ap (stands_in bytes_eq (f x)) (tail_names f l) ∙ stands_in_names f n x (tail l) apart h (below_behind n l (All-head (AreBelow n) l ls below)) in
    let rest = stands_behind_names f n x ls apart h (All-tail (AreBelow n) l ls below) in
    cc

free_names : (f : ℕ → Bytes) (n : ℕ) (all ls : List (List ℕ)) → AreApart f n → AreAllBelow n all → AreAllBelow n ls → first_free bytes_eq (map (map f) all) (map (map f) ls) ≡ option_map f (first_free same_number all ls)
free_names f n all [] apart a below = refl
free_names f n all ([] ∷ ls) apart a below = free_names f n all ls apart a (All-tail (AreBelow n) [] ls below)
free_names f n all ((x ∷ xs) ∷ ls) apart a below =
    go (stands_behind same_number x all) (stands_behind_names f n x all apart (All-head (λ k. k < n) x xs (All-head (AreBelow n) (x ∷ xs) ls below)) a) (free_names f n all ls apart a (All-tail (AreBelow n) (x ∷ xs) ls below))
  where
    go : (b : Bool) → stands_behind bytes_eq (f x) (map (map f) all) ≡ b → first_free bytes_eq (map (map f) all) (map (map f) ls) ≡ option_map f (first_free same_number all ls) → (if stands_behind bytes_eq (f x) (map (map f) all) then first_free bytes_eq (map (map f) all) (map (map f) ls) else Some (f x)) ≡ option_map f (if b then first_free same_number all ls else Some x)
    go true e later = rw e later
    go false e later = rw e refl

without_head_names : (f : ℕ → Bytes) (n x : ℕ) (l : List ℕ) → AreApart f n → x < n → AreBelow n l → without_head bytes_eq (f x) (map f l) ≡ map f (without_head same_number x l)
without_head_names f n x [] apart h below = refl
without_head_names f n x (y ∷ ys) apart h below = go (y == x) (same_by f n y x apart (All-head (λ k. k < n) y ys below) h)
  where
    go : (b : Bool) → bytes_eq (f y) (f x) ≡ b → (if bytes_eq (f y) (f x) then map f ys else f y ∷ map f ys) ≡ map f (if b then ys else y ∷ ys)
    go true e = rw e refl
    go false e = rw e refl

without_names : (f : ℕ → Bytes) (n x : ℕ) (ls : List (List ℕ)) → AreApart f n → x < n → AreAllBelow n ls → without bytes_eq (f x) (map (map f) ls) ≡ map (map f) (without same_number x ls)
without_names f n x [] apart h below = refl
without_names f n x (l ∷ ls) apart h below =
    let here = without_head_names f n x l apart h (All-head (AreBelow n) l ls below) in
    let rest = without_names f n x ls apart h (All-tail (AreBelow n) l ls below) in
    cc

pub free_below : (n x : ℕ) (all ls : List (List ℕ)) → AreAllBelow n ls → first_free same_number all ls ≡ Some x → x < n
free_below n x all [] below e = absurd cc
free_below n x all ([] ∷ ls) below e = free_below n x all ls (All-tail (AreBelow n) [] ls below) e
free_below n x all ((y ∷ ys) ∷ ls) below e = go (stands_behind same_number y all) e (free_below n x all ls (All-tail (AreBelow n) (y ∷ ys) ls below))
  where
    go : (b : Bool) → (if b then first_free same_number all ls else Some y) ≡ Some x → (first_free same_number all ls ≡ Some x → x < n) → x < n
    go true e later = later e
    go false e later =
        let same : y ≡ x = cc in
        subst (λ (k : ℕ). k < n) same (All-head (λ k. k < n) y ys (All-head (AreBelow n) (y ∷ ys) ls below))

all_empty_names : (f : ℕ → Bytes) (ls : List (List ℕ)) → All (λ l. l ≡ []) ls → All (λ l. l ≡ []) (map (map f) ls)
all_empty_names f [] empty = λ k d h. absurd (omega arith)
all_empty_names f (l ∷ ls) empty =
    All-cons (λ m. m ≡ []) (map f l) (map (map f) ls) (ap (map f) (All-head (λ m. m ≡ []) l ls empty)) (all_empty_names f ls (All-tail (λ m. m ≡ []) l ls empty))

no_names : (f : ℕ → Bytes) (l : List ℕ) → map f l ≡ [] → l ≡ []
no_names f [] e = refl
no_names f (x ∷ xs) e = absurd cc

all_empty_numbers : (f : ℕ → Bytes) (ls : List (List ℕ)) → All (λ l. l ≡ []) (map (map f) ls) → All (λ l. l ≡ []) ls
all_empty_numbers f [] empty = λ k d h. absurd (omega arith)
all_empty_numbers f (l ∷ ls) empty =
    All-cons (λ m. m ≡ []) l ls (no_names f l (All-head (λ m. m ≡ []) (map f l) (map (map f) ls) empty)) (all_empty_numbers f ls (All-tail (λ m. m ≡ []) (map f l) (map (map f) ls) empty))

pub names_merge : (f : ℕ → Bytes) (n : ℕ) (ls : List (List ℕ)) (line : List ℕ) → AreApart f n → AreAllBelow n ls → IsMerge same_number ls line → IsMerge bytes_eq (map (map f) ls) (map f line)
names_merge f n ls [] apart below m = all_empty_names f ls m
names_merge f n ls (x ∷ more) apart below m =
    let within = free_below n x ls ls below m.0 in (
      free_names f n ls ls apart below below ∙ ap (option_map f) m.0,
      subst (λ (l : List (List Bytes)). IsMerge bytes_eq l (map f more)) (sym (without_names f n x ls apart within below)) (names_merge f n (without same_number x ls) more apart (all_without_below n x ls below) m.1),
    )

pub numbers_merge : (f : ℕ → Bytes) (n : ℕ) (ls : List (List ℕ)) (names : List Bytes) → AreApart f n → AreAllBelow n ls → IsMerge bytes_eq (map (map f) ls) names → (line : List ℕ) × IsMerge same_number ls line
numbers_merge f n ls [] apart below m = ([], all_empty_numbers f ls m)
numbers_merge f n ls (y ∷ more) apart below m = go (first_free same_number ls ls) refl (λ left all w. numbers_merge f n left more apart all w)
  where
    go : (o : Option ℕ) → first_free same_number ls ls ≡ o → ((left : List (List ℕ)) → AreAllBelow n left → IsMerge bytes_eq (map (map f) left) more → (line : List ℕ) × IsMerge same_number left line) → (line : List ℕ) × IsMerge same_number ls line
    go None e later = absurd (let wrong : Some y ≡ None = sym m.0 ∙ free_names f n ls ls apart below below ∙ ap (option_map f) e in cc)
    go (Some x) e later =
        let is : Some y ≡ Some (f x) = sym m.0 ∙ free_names f n ls ls apart below below ∙ ap (option_map f) e in
        let same : y ≡ f x = cc in
        let within = free_below n x ls ls below e in
        let left = subst (λ (l : List (List Bytes)). IsMerge bytes_eq l more) (without_names f n x ls apart within below) (subst (λ (b : Bytes). IsMerge bytes_eq (without bytes_eq b (map (map f) ls)) more) same m.1) in
        let rest = later (without same_number x ls) (all_without_below n x ls below) left in
        (x ∷ rest.0, (e, rest.1))
