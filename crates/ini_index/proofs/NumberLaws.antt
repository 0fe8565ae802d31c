-- Laws of entries by the numbers of their lines.
use Rattle.std.proofs.Common.{◌≡◌, ℕ, zero, suc, ◌<◌, List, [], ◌∷◌, length, map, drop, slice_get, Option, Some, None, refl, sym, ap, ◌∙◌, subst, arith}
use Rattle.std.specs.List.{cons_option}
use Rattle.std.proofs.lemmas.List.{length-map}
use Rattle.ini_trees.specs.declared.lines.IniEntry.{IniEntry}
use Rattle.ini_trees.specs.declared.lines.IniLine.{IniLine}
use Rattle.ini_index.specs.Entries.{entries_on, entry_on, AreNumbersOf}

same : {X : Type 0} (x y : X) → Some x ≡ Some y → x ≡ y
same x y h = cc

none_is_some : {X : Type 0} (x : X) → None ≡ Some x → ⊥
none_is_some x h = cc

first_same : {X : Type 0} (x y : X) (xs ys : List X) → x ∷ xs ≡ y ∷ ys → x ≡ y
first_same x y xs ys h = same x y (ap (λ l. slice_get l 0) h)

no_first : {X : Type 0} (x : X) (xs : List X) → [] ≡ x ∷ xs → ⊥
no_first x xs h = none_is_some x (ap (λ l. slice_get l 0) h)

-- the entries among lines of which each is an entry
all_entries : (lines : List IniLine) (es : List IniEntry) (numbers : List ℕ) → AreNumbersOf lines es numbers → entries_on lines numbers ≡ es
all_entries lines [] [] h = refl
all_entries lines (e ∷ es) [] h = absurd (no_first (Some e) (map Some es) h)
all_entries lines [] (n ∷ ns) h = absurd (no_first (entry_on lines n) (map (entry_on lines) ns) (sym h))
all_entries lines (e ∷ es) (n ∷ ns) h =
    ap (λ (o : Option IniEntry). cons_option o (entries_on lines ns)) (first_same (entry_on lines n) (Some e) (map (entry_on lines) ns) (map Some es) h)
    ∙ ap (λ (l : List IniEntry). e ∷ l) (all_entries lines es ns (ap (drop 1) h))

-- so these are the numbers of their entries
are_their_own : (lines : List IniLine) (es : List IniEntry) (numbers : List ℕ) → AreNumbersOf lines es numbers → AreNumbersOf lines (entries_on lines numbers) numbers
are_their_own lines es numbers h = subst (λ (l : List IniEntry). AreNumbersOf lines l numbers) (sym (all_entries lines es numbers h)) h

-- also where they are lent
pub lent_own : (lines : List IniLine) (es : List IniEntry) (numbers lent : List ℕ) → lent ≡ numbers → AreNumbersOf lines es numbers → AreNumbersOf lines (entries_on lines lent) lent
lent_own lines es numbers lent is h = subst (λ (ns : List ℕ). AreNumbersOf lines (entries_on lines ns) ns) (sym is) (are_their_own lines es numbers h)

pub lent_entries : (lines : List IniLine) (es shown : List IniEntry) (numbers lent : List ℕ) → lent ≡ numbers → AreNumbersOf lines es numbers → shown ≡ entries_on lines lent → shown ≡ es
lent_entries lines es shown numbers lent is h seen = seen ∙ ap (entries_on lines) is ∙ all_entries lines es numbers h

-- there are as many
pub as_many : (lines : List IniLine) (es : List IniEntry) (numbers : List ℕ) → AreNumbersOf lines es numbers → length es ≡ length numbers
as_many lines es numbers h = sym (length-map es Some) ∙ sym (ap length h) ∙ length-map numbers (entry_on lines)

-- ---- the entry of a number

pub told_at : (lines : List IniLine) (es : List IniEntry) (numbers : List ℕ) (k n : ℕ) → AreNumbersOf lines es numbers → slice_get numbers k ≡ Some n → entry_on lines n ≡ slice_get es k
told_at lines es [] k n h there = absurd (none_is_some n there)
told_at lines [] (m ∷ ns) k n h there = absurd (no_first (entry_on lines m) (map (entry_on lines) ns) (sym h))
told_at lines (e ∷ es) (m ∷ ns) zero n h there =
    ap (entry_on lines) (sym (same m n there)) ∙ first_same (entry_on lines m) (Some e) (map (entry_on lines) ns) (map Some es) h
told_at lines (e ∷ es) (m ∷ ns) (suc k) n h there = told_at lines es ns k n (ap (drop 1) h) there

-- ---- entries of a list

-- a number that is below their number is one of a line
pub number_within : (lines : List IniLine) (es : List IniEntry) (numbers : List ℕ) (k : ℕ) → entries_on lines numbers ≡ es → AreNumbersOf lines (entries_on lines numbers) numbers → k < length es → k < length numbers
number_within lines es numbers k is are low = subst (λ (n : ℕ). k < n) (ap length (sym is) ∙ as_many lines (entries_on lines numbers) numbers are) low

-- what that line is, is the entry of that number
pub entry_is : (lines : List IniLine) (es : List IniEntry) (numbers : List ℕ) (k n : ℕ) → entries_on lines numbers ≡ es → AreNumbersOf lines (entries_on lines numbers) numbers → slice_get numbers k ≡ Some n → slice_get es k ≡ entry_on lines n
entry_is lines es numbers k n is are there = ap (λ (l : List IniEntry). slice_get l k) (sym is) ∙ sym (told_at lines (entries_on lines numbers) numbers k n are there)

-- so it is there
pub entry_there : (lines : List IniLine) (es : List IniEntry) (numbers : List ℕ) (k n : ℕ) → entries_on lines numbers ≡ es → AreNumbersOf lines (entries_on lines numbers) numbers → slice_get numbers k ≡ Some n → k < length es → None ≡ entry_on lines n → ⊥
entry_there lines es numbers k n is are there low none = gone es k low (entry_is lines es numbers k n is are there ∙ sym none)
  where
    gone : (l : List IniEntry) (i : ℕ) → i < length l → slice_get l i ≡ None → ⊥
    gone [] i h none = absurd (omega (arith, h))
    gone (e ∷ l) zero h none = none_is_some e (sym none)
    gone (e ∷ l) (suc i) h none = gone l i (omega (arith, h)) none
