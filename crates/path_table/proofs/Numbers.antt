-- The numbers of the modules of a path, and how many of them are dead from the first on.
use Rattle.std.proofs.Common.{ℕ, zero, suc, ◌+◌, ◌-◌, ◌≡◌, ◌≤◌, refl, sym, ◌∙◌, ap, Bool, true, false, true≢false, not, ◌&&◌, cond, if◌then◌else◌, bytes_eq, List, [], ◌∷◌, ◌++◌, length, Option, Some, None, arith}
use Rattle.std.proofs.lemmas.Bool.{le-leb}
use Rattle.std.proofs.lemmas.Iterator.Adapters.{position_from-zero}
use Rattle.std.specs.List.{position_from}
use Rattle.std.specs.Prelude.{slice_get, slice_set}
use Rattle.path_table.specs.Groups.{begins_dead, dead_in, dead_number, is_from, numbers_of, IsFrontBefore}
use Rattle.path_table.specs.Paths.{first_living, lives_at, with_dead}
use Rattle.path_table.specs.declared.ModuleAt.{ModuleAt}

-- ---- one more

-- that number, or none
abbrev pub one_if : Bool → ℕ → List ℕ
one_if b n = if b then n ∷ [] else []

pub numbers_behind : (path : List ℕ) (i : ℕ) (ms : List ModuleAt) (m : ModuleAt)
    → numbers_of path i (ms ++ m ∷ []) ≡ numbers_of path i ms ++ one_if (bytes_eq m.path path) (i + length ms)
numbers_behind path i [] m = by (bytes_eq m.path path)
  where
    by : (b : Bool) → (if b then i ∷ [] else []) ≡ one_if b (i + 0)
    by true = ap (λ k. k ∷ []) (omega arith)
    by false = refl
numbers_behind path i (x ∷ ms) m =
    let e : i + 1 + length ms ≡ i + suc (length ms) = omega arith in
    by (bytes_eq x.path path) (numbers_behind path (i + 1) ms m ∙ ap (λ k. numbers_of path (i + 1) ms ++ one_if (bytes_eq m.path path) k) e)
  where
    by : (b : Bool) → numbers_of path (i + 1) (ms ++ m ∷ []) ≡ numbers_of path (i + 1) ms ++ one_if (bytes_eq m.path path) (i + suc (length ms))
        → (if b then i ∷ numbers_of path (i + 1) (ms ++ m ∷ []) else numbers_of path (i + 1) (ms ++ m ∷ []))
        ≡ (if b then i ∷ numbers_of path (i + 1) ms else numbers_of path (i + 1) ms) ++ one_if (bytes_eq m.path path) (i + suc (length ms))
    by true e = ap (λ l. i ∷ l) e
    by false e = e

pub begins_behind : (path : List ℕ) (k : ℕ) (ms : List ModuleAt) (m : ModuleAt) → begins_dead path k ms ≡ true → begins_dead path k (ms ++ m ∷ []) ≡ true
begins_behind path zero ms m h = refl
begins_behind path (suc k) [] m h = absurd (true≢false (sym h))
begins_behind path (suc k) (x ∷ ms) m h = by (bytes_eq x.path path) x.is_dead h (begins_behind path k ms m) (begins_behind path (suc k) ms m)
  where
    by : (b d : Bool) → (if b then d && begins_dead path k ms else begins_dead path (suc k) ms) ≡ true
        → (begins_dead path k ms ≡ true → begins_dead path k (ms ++ m ∷ []) ≡ true)
        → (begins_dead path (suc k) ms ≡ true → begins_dead path (suc k) (ms ++ m ∷ []) ≡ true)
        → (if b then d && begins_dead path k (ms ++ m ∷ []) else begins_dead path (suc k) (ms ++ m ∷ [])) ≡ true
    by true true h f g = f h
    by true false h f g = h
    by false d h f g = g h

pub begins_few : (path : List ℕ) (i k : ℕ) (ms : List ModuleAt) → begins_dead path k ms ≡ true → k ≤ length (numbers_of path i ms)
begins_few path i zero ms h = omega arith
begins_few path i (suc k) [] h = absurd (true≢false (sym h))
begins_few path i (suc k) (x ∷ ms) h = by (bytes_eq x.path path) x.is_dead h (begins_few path (i + 1) k ms) (begins_few path (i + 1) (suc k) ms)
  where
    by : (b d : Bool) → (if b then d && begins_dead path k ms else begins_dead path (suc k) ms) ≡ true
        → (begins_dead path k ms ≡ true → k ≤ length (numbers_of path (i + 1) ms))
        → (begins_dead path (suc k) ms ≡ true → suc k ≤ length (numbers_of path (i + 1) ms))
        → suc k ≤ length (if b then i ∷ numbers_of path (i + 1) ms else numbers_of path (i + 1) ms)
    by true true h f g = let n = f h in omega (arith, n)
    by true false h f g = absurd (true≢false (sym h))
    by false d h f g = g h

-- ---- one less

pub begins_less : (path : List ℕ) (i j k : ℕ) (ms : List ModuleAt) (m : ModuleAt) → begins_dead path k (ms ++ m ∷ []) ≡ true → j ≤ k → j ≤ length (numbers_of path i ms) → begins_dead path j ms ≡ true
begins_less path i zero k ms m h u l = refl
begins_less path i (suc j) k [] m h u l = absurd (omega (arith, l))
begins_less path i (suc j) zero (x ∷ ms) m h u l = absurd (omega (arith, u))
begins_less path i (suc j) (suc k) (x ∷ ms) m h u l = by (bytes_eq x.path path) x.is_dead h l (begins_less path (i + 1) j k ms m) (λ g. begins_less path (i + 1) (suc j) (suc k) ms m g u)
  where
    by : (b d : Bool) → (if b then d && begins_dead path k (ms ++ m ∷ []) else begins_dead path (suc k) (ms ++ m ∷ [])) ≡ true
        → suc j ≤ length (if b then i ∷ numbers_of path (i + 1) ms else numbers_of path (i + 1) ms)
        → (begins_dead path k (ms ++ m ∷ []) ≡ true → j ≤ k → j ≤ length (numbers_of path (i + 1) ms) → begins_dead path j ms ≡ true)
        → (begins_dead path (suc k) (ms ++ m ∷ []) ≡ true → suc j ≤ length (numbers_of path (i + 1) ms) → begins_dead path (suc j) ms ≡ true)
        → (if b then d && begins_dead path j ms else begins_dead path (suc j) ms) ≡ true
    by true true h l f g = f h (omega (arith, u)) (omega (arith, l))
    by true false h l f g = absurd (true≢false (sym h))
    by false d h l f g = g h l

-- ---- one is dead, or lives

pub numbers_dead : (path : List ℕ) (i : ℕ) (ms : List ModuleAt) (n : ℕ) (d : Bool) → numbers_of path i (with_dead ms n d) ≡ numbers_of path i ms
numbers_dead path i [] n d = refl
numbers_dead path i (x ∷ ms) zero d = refl
numbers_dead path i (x ∷ ms) (suc n) d = ap (λ l. if bytes_eq x.path path then i ∷ l else l) (numbers_dead path (i + 1) ms n d)

pub begins_bury : (path : List ℕ) (k : ℕ) (ms : List ModuleAt) (n : ℕ) → begins_dead path k ms ≡ true → begins_dead path k (with_dead ms n true) ≡ true
begins_bury path zero ms n h = refl
begins_bury path (suc k) [] n h = h
begins_bury path (suc k) (x ∷ ms) zero h = by (bytes_eq x.path path) x.is_dead h
  where
    by : (b d : Bool) → (if b then d && begins_dead path k ms else begins_dead path (suc k) ms) ≡ true → (if b then true && begins_dead path k ms else begins_dead path (suc k) ms) ≡ true
    by true true h = h
    by true false h = absurd (true≢false (sym h))
    by false d h = h
begins_bury path (suc k) (x ∷ ms) (suc n) h = by (bytes_eq x.path path) x.is_dead h (begins_bury path k ms n) (begins_bury path (suc k) ms n)
  where
    by : (b d : Bool) → (if b then d && begins_dead path k ms else begins_dead path (suc k) ms) ≡ true
        → (begins_dead path k ms ≡ true → begins_dead path k (with_dead ms n true) ≡ true)
        → (begins_dead path (suc k) ms ≡ true → begins_dead path (suc k) (with_dead ms n true) ≡ true)
        → (if b then d && begins_dead path k (with_dead ms n true) else begins_dead path (suc k) (with_dead ms n true)) ≡ true
    by true true h f g = f h
    by true false h f g = h
    by false d h f g = g h

-- whether a module is of that path
abbrev path_is : List ℕ → Option ModuleAt → Bool
path_is path None = false
path_is path (Some m) = bytes_eq m.path path

pub begins_other : (path : List ℕ) (k : ℕ) (ms : List ModuleAt) (n : ℕ) (c : Bool) (m : ModuleAt) → slice_get ms n ≡ Some m → bytes_eq m.path path ≡ false
    → begins_dead path k ms ≡ true → begins_dead path k (with_dead ms n c) ≡ true
begins_other path zero ms n c m e o h = refl
begins_other path (suc k) [] n c m e o h = h
begins_other path (suc k) (x ∷ ms) zero c m e o h = by (bytes_eq x.path path) x.is_dead (ap (path_is path) e ∙ o) h
  where
    by : (b d : Bool) → b ≡ false → (if b then d && begins_dead path k ms else begins_dead path (suc k) ms) ≡ true → (if b then c && begins_dead path k ms else begins_dead path (suc k) ms) ≡ true
    by true d o h = absurd (true≢false o)
    by false d o h = h
begins_other path (suc k) (x ∷ ms) (suc n) c m e o h = by (bytes_eq x.path path) x.is_dead h (begins_other path k ms n c m e o) (begins_other path (suc k) ms n c m e o)
  where
    by : (b d : Bool) → (if b then d && begins_dead path k ms else begins_dead path (suc k) ms) ≡ true
        → (begins_dead path k ms ≡ true → begins_dead path k (with_dead ms n c) ≡ true)
        → (begins_dead path (suc k) ms ≡ true → begins_dead path (suc k) (with_dead ms n c) ≡ true)
        → (if b then d && begins_dead path k (with_dead ms n c) else begins_dead path (suc k) (with_dead ms n c)) ≡ true
    by true true h f g = f h
    by true false h f g = h
    by false d h f g = g h

pub flagged : (ms : List ModuleAt) (n : ℕ) (d : Bool) (m : ModuleAt) → slice_get ms n ≡ Some m → slice_set ms n (record { path = m.path; is_dead = d }) ≡ with_dead ms n d
flagged [] n d m e = refl
flagged (x ∷ ms) zero d m e = ap (λ (p : List ℕ). (record { path = p; is_dead = d }) ∷ ms) (sym (ap (path_in m.path) e))
  where
    path_in : List ℕ → Option ModuleAt → List ℕ
    path_in p None = p
    path_in p (Some z) = z.path
flagged (x ∷ ms) (suc n) d m e = ap (λ l. x ∷ l) (flagged ms n d m e)

-- ---- a front that goes back

pub begins_lower : (path : List ℕ) (j k : ℕ) (ms : List ModuleAt) → begins_dead path k ms ≡ true → j ≤ k → begins_dead path j ms ≡ true
begins_lower path zero k ms h u = refl
begins_lower path (suc j) zero ms h u = absurd (omega (arith, u))
begins_lower path (suc j) (suc k) [] h u = absurd (true≢false (sym h))
begins_lower path (suc j) (suc k) (x ∷ ms) h u = by (bytes_eq x.path path) x.is_dead h (begins_lower path j k ms) (λ g. begins_lower path (suc j) (suc k) ms g u)
  where
    by : (b d : Bool) → (if b then d && begins_dead path k ms else begins_dead path (suc k) ms) ≡ true
        → (begins_dead path k ms ≡ true → j ≤ k → begins_dead path j ms ≡ true)
        → (begins_dead path (suc k) ms ≡ true → begins_dead path (suc j) ms ≡ true)
        → (if b then d && begins_dead path j ms else begins_dead path (suc j) ms) ≡ true
    by true true h f g = f h (omega (arith, u))
    by true false h f g = absurd (true≢false (sym h))
    by false d h f g = g h

-- all numbers are from the first one on
from_first : (path : List ℕ) (n i k : ℕ) (ms : List ModuleAt) → n ≤ i → begins_dead path (suc k) ms ≡ true → is_from n (slice_get (numbers_of path i ms) k) ≡ true
from_first path n i k [] u h = absurd (true≢false (sym h))
from_first path n i zero (x ∷ ms) u h = by (bytes_eq x.path path) x.is_dead h (from_first path n (i + 1) zero ms (omega (arith, u)))
  where
    by : (b d : Bool) → (if b then d && begins_dead path 0 ms else begins_dead path 1 ms) ≡ true
        → (begins_dead path 1 ms ≡ true → is_from n (slice_get (numbers_of path (i + 1) ms) 0) ≡ true)
        → is_from n (slice_get (if b then i ∷ numbers_of path (i + 1) ms else numbers_of path (i + 1) ms) 0) ≡ true
    by true d h g = le-leb n i u
    by false d h g = g h
from_first path n i (suc k) (x ∷ ms) u h = by (bytes_eq x.path path) x.is_dead h (from_first path n (i + 1) k ms (omega (arith, u))) (from_first path n (i + 1) (suc k) ms (omega (arith, u)))
  where
    by : (b d : Bool) → (if b then d && begins_dead path (suc k) ms else begins_dead path (suc (suc k)) ms) ≡ true
        → (begins_dead path (suc k) ms ≡ true → is_from n (slice_get (numbers_of path (i + 1) ms) k) ≡ true)
        → (begins_dead path (suc (suc k)) ms ≡ true → is_from n (slice_get (numbers_of path (i + 1) ms) (suc k)) ≡ true)
        → is_from n (slice_get (if b then i ∷ numbers_of path (i + 1) ms else numbers_of path (i + 1) ms) (suc k)) ≡ true
    by true true h f g = f h
    by true false h f g = absurd (true≢false (sym h))
    by false d h f g = g h

-- what stands before a front may be dead though one behind it lives
begins_before : (path : List ℕ) (i k n : ℕ) (ms : List ModuleAt) → begins_dead path (suc k) ms ≡ true → is_from (i + n) (slice_get (numbers_of path i ms) k) ≡ false → begins_dead path (suc k) (with_dead ms n false) ≡ true
begins_before path i k n [] h e = h
begins_before path i k zero (x ∷ ms) h e = absurd (true≢false (sym (from_first path (i + 0) i k (x ∷ ms) (omega arith) h) ∙ e))
begins_before path i zero (suc n) (x ∷ ms) h e = by (bytes_eq x.path path) x.is_dead h (shifted e) (begins_before path (i + 1) zero n ms)
  where
    shifted : is_from (i + suc n) (slice_get (numbers_of path i (x ∷ ms)) 0) ≡ false → is_from (i + 1 + n) (slice_get (numbers_of path i (x ∷ ms)) 0) ≡ false
    shifted e = let s : i + 1 + n ≡ i + suc n = omega arith in ap (λ z. is_from z (slice_get (numbers_of path i (x ∷ ms)) 0)) s ∙ e

    by : (b d : Bool) → (if b then d && begins_dead path 0 ms else begins_dead path 1 ms) ≡ true
        → is_from (i + 1 + n) (slice_get (if b then i ∷ numbers_of path (i + 1) ms else numbers_of path (i + 1) ms) 0) ≡ false
        → (begins_dead path 1 ms ≡ true → is_from (i + 1 + n) (slice_get (numbers_of path (i + 1) ms) 0) ≡ false → begins_dead path 1 (with_dead ms n false) ≡ true)
        → (if b then d && begins_dead path 0 (with_dead ms n false) else begins_dead path 1 (with_dead ms n false)) ≡ true
    by true d h e g = h
    by false d h e g = g h e
begins_before path i (suc k) (suc n) (x ∷ ms) h e = by (bytes_eq x.path path) x.is_dead h (shifted e) (begins_before path (i + 1) k n ms) (begins_before path (i + 1) (suc k) n ms)
  where
    shifted : is_from (i + suc n) (slice_get (numbers_of path i (x ∷ ms)) (suc k)) ≡ false → is_from (i + 1 + n) (slice_get (numbers_of path i (x ∷ ms)) (suc k)) ≡ false
    shifted e = let s : i + 1 + n ≡ i + suc n = omega arith in ap (λ z. is_from z (slice_get (numbers_of path i (x ∷ ms)) (suc k))) s ∙ e

    by : (b d : Bool) → (if b then d && begins_dead path (suc k) ms else begins_dead path (suc (suc k)) ms) ≡ true
        → is_from (i + 1 + n) (slice_get (if b then i ∷ numbers_of path (i + 1) ms else numbers_of path (i + 1) ms) (suc k)) ≡ false
        → (begins_dead path (suc k) ms ≡ true → is_from (i + 1 + n) (slice_get (numbers_of path (i + 1) ms) k) ≡ false → begins_dead path (suc k) (with_dead ms n false) ≡ true)
        → (begins_dead path (suc (suc k)) ms ≡ true → is_from (i + 1 + n) (slice_get (numbers_of path (i + 1) ms) (suc k)) ≡ false → begins_dead path (suc (suc k)) (with_dead ms n false) ≡ true)
        → (if b then d && begins_dead path (suc k) (with_dead ms n false) else begins_dead path (suc (suc k)) (with_dead ms n false)) ≡ true
    by true true h e f g = f h e
    by true false h e f g = absurd (true≢false (sym h))
    by false d h e f g = g h e

pub begins_back : (path numbers : List ℕ) (before front n : ℕ) (ms : List ModuleAt) → numbers ≡ numbers_of path 0 ms → begins_dead path before ms ≡ true → IsFrontBefore n numbers before front → begins_dead path front (with_dead ms n false) ≡ true
begins_back path numbers before zero n ms e h is = refl
begins_back path numbers before (suc k) n ms e h is =
    let last : suc k - 1 ≡ k = omega arith in
    let whole : 0 + n ≡ n = omega arith in
    begins_before path 0 k n ms (begins_lower path (suc k) before ms h is.0)
    (ap (λ z. is_from z (slice_get (numbers_of path 0 ms) k)) whole ∙ ap (λ (l : List ℕ). is_from n (slice_get l k)) (sym e) ∙ ap (λ z. is_from n (slice_get numbers z)) (sym last) ∙ is.1 (omega arith))

-- ---- the first one that lives

-- whether the module of that number is dead, as they are numbered
abbrev pub dead_by : (ℕ → Bool) → Option ℕ → Bool
dead_by f None = false
dead_by f (Some n) = f n

-- modules are dead as the numbers say, of which the first one has that number
abbrev pub Says : (ℕ → Bool) → ℕ → List ModuleAt → Type 0
Says f i ms = (j : ℕ) → f (i + j) ≡ dead_in (slice_get ms j)

says_next : (f : ℕ → Bool) (i : ℕ) (x : ModuleAt) (ms : List ModuleAt) → Says f i (x ∷ ms) → Says f (i + 1) ms
says_next f i x ms s j = let e : i + 1 + j ≡ i + suc j = omega arith in ap f e ∙ s (suc j)

says_first : (f : ℕ → Bool) (i : ℕ) (x : ModuleAt) (ms : List ModuleAt) → Says f i (x ∷ ms) → f i ≡ x.is_dead
says_first f i x ms s = let e : i ≡ i + 0 = omega arith in ap f e ∙ s 0

pub further : (f : ℕ → Bool) (path : List ℕ) (i k n : ℕ) (ms : List ModuleAt) → Says f i ms → begins_dead path k ms ≡ true → slice_get (numbers_of path i ms) k ≡ Some n → f n ≡ true → begins_dead path (suc k) ms ≡ true
further f path i zero n [] s h e d = absurd (cc)
further f path i (suc k) n [] s h e d = absurd (cc)
further f path i zero n (x ∷ ms) s h e d = by (bytes_eq x.path path) e (λ g. further f path (i + 1) zero n ms (says_next f i x ms s) refl g d)
  where
    is_dead : Some i ≡ Some n → x.is_dead ≡ true
    is_dead g = sym (says_first f i x ms s) ∙ ap (dead_by f) g ∙ d

    by : (b : Bool) → slice_get (if b then i ∷ numbers_of path (i + 1) ms else numbers_of path (i + 1) ms) 0 ≡ Some n
        → (slice_get (numbers_of path (i + 1) ms) 0 ≡ Some n → begins_dead path 1 ms ≡ true)
        → (if b then x.is_dead && begins_dead path 0 ms else begins_dead path 1 ms) ≡ true
    by true e g = ap (λ z. z && true) (is_dead e)
    by false e g = g e
further f path i (suc k) n (x ∷ ms) s h e d = by (bytes_eq x.path path) x.is_dead h e
    (λ u v. further f path (i + 1) k n ms (says_next f i x ms s) u v d) (λ u v. further f path (i + 1) (suc k) n ms (says_next f i x ms s) u v d)
  where
    by : (b c : Bool) → (if b then c && begins_dead path k ms else begins_dead path (suc k) ms) ≡ true
        → slice_get (if b then i ∷ numbers_of path (i + 1) ms else numbers_of path (i + 1) ms) (suc k) ≡ Some n
        → (begins_dead path k ms ≡ true → slice_get (numbers_of path (i + 1) ms) k ≡ Some n → begins_dead path (suc k) ms ≡ true)
        → (begins_dead path (suc k) ms ≡ true → slice_get (numbers_of path (i + 1) ms) (suc k) ≡ Some n → begins_dead path (suc (suc k)) ms ≡ true)
        → (if b then c && begins_dead path (suc k) ms else begins_dead path (suc (suc k)) ms) ≡ true
    by true true h e u v = u h e
    by true false h e u v = h
    by false c h e u v = v h e

pub first_there : (f : ℕ → Bool) (path : List ℕ) (i k : ℕ) (ms : List ModuleAt) → Says f i ms → begins_dead path k ms ≡ true → dead_by f (slice_get (numbers_of path i ms) k) ≡ false
    → slice_get (numbers_of path i ms) k ≡ position_from (lives_at path) i ms
first_there f path i zero [] s h d = refl
first_there f path i (suc k) [] s h d = refl
first_there f path i zero (x ∷ ms) s h d = by (bytes_eq x.path path) x.is_dead (says_first f i x ms s) d (first_there f path (i + 1) zero ms (says_next f i x ms s) refl)
  where
    by : (b c : Bool) → f i ≡ c → dead_by f (slice_get (if b then i ∷ numbers_of path (i + 1) ms else numbers_of path (i + 1) ms) 0) ≡ false
        → (dead_by f (slice_get (numbers_of path (i + 1) ms) 0) ≡ false → slice_get (numbers_of path (i + 1) ms) 0 ≡ position_from (lives_at path) (i + 1) ms)
        → slice_get (if b then i ∷ numbers_of path (i + 1) ms else numbers_of path (i + 1) ms) 0 ≡ cond (b && not c) (Some i) (position_from (lives_at path) (i + 1) ms)
    by true true e d g = absurd (true≢false (sym e ∙ d))
    by true false e d g = refl
    by false c e d g = g d
first_there f path i (suc k) (x ∷ ms) s h d = by (bytes_eq x.path path) x.is_dead h d
    (first_there f path (i + 1) k ms (says_next f i x ms s)) (first_there f path (i + 1) (suc k) ms (says_next f i x ms s))
  where
    by : (b c : Bool) → (if b then c && begins_dead path k ms else begins_dead path (suc k) ms) ≡ true
        → dead_by f (slice_get (if b then i ∷ numbers_of path (i + 1) ms else numbers_of path (i + 1) ms) (suc k)) ≡ false
        → (begins_dead path k ms ≡ true → dead_by f (slice_get (numbers_of path (i + 1) ms) k) ≡ false → slice_get (numbers_of path (i + 1) ms) k ≡ position_from (lives_at path) (i + 1) ms)
        → (begins_dead path (suc k) ms ≡ true → dead_by f (slice_get (numbers_of path (i + 1) ms) (suc k)) ≡ false → slice_get (numbers_of path (i + 1) ms) (suc k) ≡ position_from (lives_at path) (i + 1) ms)
        → slice_get (if b then i ∷ numbers_of path (i + 1) ms else numbers_of path (i + 1) ms) (suc k) ≡ cond (b && not c) (Some i) (position_from (lives_at path) (i + 1) ms)
    by true true h d u v = u h d
    by true false h d u v = absurd (true≢false (sym h))
    by false c h d u v = v h d

-- ---- as the modules say

module _ (ms : List ModuleAt) where
  abbrev is_dead_now : ℕ → Bool
  is_dead_now n = dead_in (slice_get ms n)

  says_now : Says is_dead_now 0 ms
  says_now j = let e : 0 + j ≡ j = omega arith in ap is_dead_now e

  same_dead : (o : Option ℕ) → dead_by is_dead_now o ≡ dead_number ms o
  same_dead None = refl
  same_dead (Some n) = refl

  pub dead_place : (path numbers : List ℕ) (k : ℕ) → numbers ≡ numbers_of path 0 ms → begins_dead path k ms ≡ true → dead_number ms (slice_get numbers k) ≡ true → begins_dead path (k + 1) ms ≡ true
  dead_place path numbers k e h = by (slice_get numbers k) refl
    where
      next : suc k ≡ k + 1
      next = omega arith

      by : (o : Option ℕ) → slice_get numbers k ≡ o → dead_number ms o ≡ true → begins_dead path (k + 1) ms ≡ true
      by None is d = absurd (true≢false (sym d))
      by (Some n) is d = ap (λ z. begins_dead path z ms) (sym next) ∙ further is_dead_now path 0 k n ms says_now h (ap (λ (l : List ℕ). slice_get l k) (sym e) ∙ is) d

  pub first_place : (path numbers : List ℕ) (k : ℕ) → numbers ≡ numbers_of path 0 ms → begins_dead path k ms ≡ true → dead_number ms (slice_get numbers k) ≡ false → slice_get numbers k ≡ first_living path ms
  first_place path numbers k e h d =
      ap (λ (l : List ℕ). slice_get l k) e
      ∙ first_there is_dead_now path 0 k ms says_now h (same_dead (slice_get (numbers_of path 0 ms) k) ∙ ap (λ (l : List ℕ). dead_number ms (slice_get l k)) (sym e) ∙ d)
      ∙ sym (position_from-zero (lives_at path) ms)

  pub none_there : (path : List ℕ) → numbers_of path 0 ms ≡ [] → None ≡ first_living path ms
  none_there path e = first_place path [] 0 (sym e) refl refl
