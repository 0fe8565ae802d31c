-- A configuration stands in a chain before those that it extends.
use Rattle.std.proofs.Common.{◌≡◌, ◌≢◌, ◌⊎◌, inl, inr, ℕ, zero, suc, ◌+◌, ◌<◌, List, [], ◌∷◌, ◌++◌, length, get_or, refl, sym, ap, subst, ◌∙◌, arith}
use Rattle.std.specs.List.{AllZip, Contains}
use Rattle.std.proofs.lemmas.Bool.{cases_lt}
use Rattle.std.proofs.lemmas.List.{get_or_append_left, get_or_push, length_push}
use Rattle.std.proofs.lemmas.List.Elements.{Contains-push}
use Rattle.ini_trees.specs.declared.lines.IniLine.{IniLine}
use Rattle.ini_trees.specs.Kept.{IsKept}
use Rattle.ini_trees.specs.Numbers.{name_at}
use Rattle.ini_trees.specs.Once.{StandsBefore}
use Rattle.ini_trees.specs.Sections.{general, bases_named, bases_of, IsLineWithin}
use Rattle.ini_trees.specs.Words.{Bytes}
use Rattle.ini_trees.proofs.KeptLaws.{kept_more, merge_keeps}
use Rattle.ini_trees.proofs.LineLaws.{IsBaseLine}
use Rattle.ini_trees.proofs.OnceLaws.{Has, OneHas, AreOnce, merge_has, one_of, line_once, others_not, had_at}

-- ---- what is kept

kept_whole : (xs : List Bytes) → IsKept xs xs
kept_whole [] = tt
kept_whole (x ∷ xs) = inl (refl, kept_whole xs)

kept_in_kept : (xs ys zs : List Bytes) → IsKept xs ys → IsKept ys zs → IsKept xs zs
kept_in_kept [] ys zs k m = tt
kept_in_kept (x ∷ xs) [] zs k m = absurd k
kept_in_kept (x ∷ xs) (y ∷ ys) [] k m = absurd m
kept_in_kept (x ∷ xs) (y ∷ ys) (z ∷ zs) (inl k) (inl m) = inl (k.0 ∙ m.0, kept_in_kept xs ys zs k.1 m.1)
kept_in_kept (x ∷ xs) (y ∷ ys) (z ∷ zs) (inr k) (inl m) = inr (kept_in_kept (x ∷ xs) ys zs k m.1)
kept_in_kept (x ∷ xs) (y ∷ ys) (z ∷ zs) k (inr m) = inr (kept_in_kept (x ∷ xs) (y ∷ ys) zs k m)

kept_has : (xs ys : List Bytes) (b : Bytes) → IsKept xs ys → Has b xs → Has b ys
kept_has [] ys b k h = absurd h
kept_has (x ∷ xs) [] b k h = absurd k
kept_has (x ∷ xs) (y ∷ ys) b (inl k) (inl e) = inl (sym k.0 ∙ e)
kept_has (x ∷ xs) (y ∷ ys) b (inl k) (inr h) = inr (kept_has xs ys b k.1 h)
kept_has (x ∷ xs) (y ∷ ys) b (inr k) h = inr (kept_has (x ∷ xs) ys b k h)

-- one of the lists is that one
abbrev AmongLists : List Bytes → List (List Bytes) → Type 0
AmongLists l [] = ⊥
AmongLists l (m ∷ ms) = (m ≡ l) ⊎ AmongLists l ms

among_contains : (l : List Bytes) (ls more : List (List Bytes)) → AmongLists l ls → Contains (ls ++ more) l
among_contains l [] more h = absurd h
among_contains l (m ∷ ms) more (inl e) = (zero, omega arith, e)
among_contains l (m ∷ ms) more (inr h) = let rest = among_contains l ms more h in (suc rest.0, omega (arith, rest.1), rest.2)

-- ---- the line of each of a line

-- the name has a line, which is kept in that one
abbrev HasKept : List IniLine → Bytes → List Bytes → Type 0
HasKept text y line = (e : ℕ) × (l : List Bytes) × IsLineWithin e text y l × IsKept l line

base_kept : (d : ℕ) (text : List IniLine) (y : Bytes) (xs : List Bytes) (bs : List Bytes) (ls : List (List Bytes)) → ((l : List Bytes) → AmongLists l ls → IsKept l xs) → AllZip (IsBaseLine d text) bs ls → Has y bs → HasKept text y xs
base_kept d text y xs [] ls keep z h = absurd h
base_kept d text y xs (b ∷ bs) [] keep z h = absurd z
base_kept d text y xs (b ∷ bs) (l ∷ ls) keep z (inl e) = (d, l, subst (λ (n : Bytes). IsLineWithin d text n l) e z.0.1, keep l (inl refl))
base_kept d text y xs (b ∷ bs) (l ∷ ls) keep z (inr h) = base_kept d text y xs bs ls (λ m k. keep m (inr k)) z.1 h

one_kept : (text : List IniLine) (y : Bytes) (l xs : List Bytes) → IsKept l xs → HasKept text y l → HasKept text y xs
one_kept text y l xs k h = (h.0, h.1, h.2, kept_in_kept h.1 l xs h.3 k)

lines_kept : (d : ℕ) (text : List IniLine) (y : Bytes) (xs : List Bytes) → ((b : Bytes) (l : List Bytes) → IsLineWithin d text b l → Has y l → HasKept text y l) → (bs : List Bytes) (ls : List (List Bytes)) → ((l : List Bytes) → AmongLists l ls → IsKept l xs) → AllZip (IsBaseLine d text) bs ls → OneHas y ls → HasKept text y xs
lines_kept d text y xs later [] [] keep z h = absurd h
lines_kept d text y xs later [] (l ∷ ls) keep z h = absurd z
lines_kept d text y xs later (b ∷ bs) [] keep z h = absurd z
lines_kept d text y xs later (b ∷ bs) (l ∷ ls) keep z (inl h) = one_kept text y l xs (keep l (inl refl)) (later b l z.0.1 h)
lines_kept d text y xs later (b ∷ bs) (l ∷ ls) keep z (inr h) = lines_kept d text y xs later bs ls (λ m k. keep m (inr k)) z.1 h

all_kept : (d : ℕ) (text : List IniLine) (y : Bytes) (xs bs : List Bytes) (ls : List (List Bytes)) → ((b : Bytes) (l : List Bytes) → IsLineWithin d text b l → Has y l → HasKept text y l) → ((l : List Bytes) → AmongLists l ls → IsKept l xs) → AllZip (IsBaseLine d text) bs ls → OneHas y ls ⊎ Has y bs → HasKept text y xs
all_kept d text y xs bs ls later keep z (inl h) = lines_kept d text y xs later bs ls keep z h
all_kept d text y xs bs ls later keep z (inr h) = base_kept d text y xs bs ls keep z h

own_kept : (d : ℕ) (text : List IniLine) (name y : Bytes) (line : List Bytes) → IsLineWithin d text name line → Has y line → HasKept text y line
own_kept zero text name y line w h = absurd w
own_kept (suc d) text name y [] w h = absurd h
own_kept (suc d) text name y (x ∷ xs) w (inl e) = (suc d, x ∷ xs, subst (λ (n : Bytes). IsLineWithin (suc d) text n (x ∷ xs)) (sym w.0 ∙ e) w, kept_whole (x ∷ xs))
own_kept (suc d) text name y (x ∷ xs) w (inr h) =
    let bases = bases_named name text in
    let keep : (l : List Bytes) → AmongLists l w.1 → IsKept l xs = λ l k. merge_keeps (w.1 ++ bases ∷ []) xs l w.3 (among_contains l w.1 (bases ∷ []) k) in
    let found = all_kept d text y xs bases w.1 (λ b l u k. own_kept d text b y l u k) keep w.2 (one_of y w.1 bases (merge_has (w.1 ++ bases ∷ []) xs y w.3 h)) in
    (found.0, found.1, found.2, kept_more found.1 xs x found.3)

-- ---- places

order_of : (y b : Bytes) (rest line : List Bytes) → AreOnce line → IsKept (y ∷ rest) line → Has b rest → (i j : ℕ) → i < length line → j < length line → get_or line i [] ≡ y → get_or line j [] ≡ b → i < j
order_of y b rest [] once k h i j m n is at = absurd k
order_of y b rest (z ∷ zs) once (inl k) h zero zero m n is at = absurd (once.0 (subst (λ (x : Bytes). Has x zs) (sym at) (kept_has rest zs b k.1 h)))
order_of y b rest (z ∷ zs) once (inl k) h zero (suc j) m n is at = omega arith
order_of y b rest (z ∷ zs) once (inl k) h (suc i) j m n is at = absurd (once.0 (subst (λ (x : Bytes). Has x zs) (is ∙ k.0) (had_at zs i (omega (arith, m)))))
order_of y b rest (z ∷ zs) once (inr k) h zero j m n is at = absurd (once.0 (subst (λ (x : Bytes). Has x zs) (sym is) (kept_has (y ∷ rest) zs y k (inl refl))))
order_of y b rest (z ∷ zs) once (inr k) h (suc i) zero m n is at = absurd (once.0 (subst (λ (x : Bytes). Has x zs) (sym at) (kept_has (y ∷ rest) zs b k (inr h))))
order_of y b rest (z ∷ zs) once (inr k) h (suc i) (suc j) m n is at =
    let later = order_of y b rest zs once.1 k h i j (omega (arith, m)) (omega (arith, n)) is at in
    omega (arith, later)

contains_has : (xs : List Bytes) (x : Bytes) → Contains xs x → Has x xs
contains_has [] x c = absurd (omega (arith, c.1))
contains_has (y ∷ ys) x (zero, h, e) = inl e
contains_has (y ∷ ys) x (suc k, h, e) = inr (contains_has ys x (k, omega (arith, h), e))

-- in a line a configuration stands before those that it extends
before_in_line : (d : ℕ) (text : List IniLine) (name : Bytes) (line : List Bytes) → IsLineWithin d text name line → (i j : ℕ) → i < length line → j < length line → Has (get_or line j []) (bases_named (get_or line i []) text) → i < j
before_in_line d text name line w i j m n h = go (own_kept d text name (get_or line i []) line w (had_at line i m))
  where
    by : (e : ℕ) (l : List Bytes) → IsLineWithin e text (get_or line i []) l → IsKept l line → i < j
    by zero l u k = absurd u
    by (suc e) [] u k = absurd u
    by (suc e) (x ∷ xs) u k =
        let bases = bases_named (get_or line i []) text in
        let rest = kept_has bases xs (get_or line j []) (merge_keeps (u.1 ++ bases ∷ []) xs bases u.3 (Contains-push u.1 bases)) h in
        order_of x (get_or line j []) xs line (line_once d text name line w) k rest i j m n (sym u.0) refl

    go : HasKept text (get_or line i []) line → i < j
    go found = by found.0 found.1 found.2 found.3

within_line : (line : List Bytes) (k : ℕ) → k < length (line ++ general ∷ []) → name_at (line ++ general ∷ []) k ≢ general → k < length line
within_line line k h other =
    elim (cases_lt k (length line)) [
      | inl within ↦ within
      | inr past ↦
          let size : length (line ++ general ∷ []) ≡ length line + 1 = length_push line general in
          let last : length line ≡ k = omega arith in
          absurd (other (get_or_push line general [] k last))
    ]

pub stands_before : (text : List IniLine) (config : Bytes) → StandsBefore text config
stands_before text config chain (inl h) i j m n other extends =
    absurd (other (alone i (subst (λ (l : List Bytes). i < length l) h.1 m) ∙ refl))
  where
    alone : (k : ℕ) → k < 1 → name_at chain k ≡ general
    alone zero l = ap (λ (c : List Bytes). name_at c zero) h.1
    alone (suc k) l = absurd (omega (arith, l))
stands_before text config chain (inr h) i j m n other extends =
    let is = h.3 in
    let whole : chain ≡ h.1 ++ general ∷ [] = h.2 in
    let at_i : name_at chain i ≡ name_at (h.1 ++ general ∷ []) i = ap (λ (c : List Bytes). name_at c i) whole in
    let at_j : name_at chain j ≡ name_at (h.1 ++ general ∷ []) j = ap (λ (c : List Bytes). name_at c j) whole in
    let base = contains_has (bases_named (name_at chain i) text) (name_at chain j) extends in
    let base_other : name_at chain j ≢ general = λ e. others_not (bases_of (name_at chain i) text) (subst (λ (b : Bytes). Has b (bases_named (name_at chain i) text)) e base) in
    let first = within_line h.1 i (subst (λ (c : List Bytes). i < length c) whole m) (λ e. other (at_i ∙ e)) in
    let second = within_line h.1 j (subst (λ (c : List Bytes). j < length c) whole n) (λ e. base_other (at_j ∙ e)) in
    let here : name_at chain i ≡ get_or h.1 i [] = at_i ∙ get_or_append_left h.1 (general ∷ []) [] i first in
    let there : name_at chain j ≡ get_or h.1 j [] = at_j ∙ get_or_append_left h.1 (general ∷ []) [] j second in
    before_in_line is.0 text config h.1 is.1 i j first second (subst (λ (b : Bytes). Has b (bases_named (get_or h.1 i []) text)) there (subst (λ (a : Bytes). Has (name_at chain j) (bases_named a text)) here base))
