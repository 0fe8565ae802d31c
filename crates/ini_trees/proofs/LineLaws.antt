-- Laws of the lines of configurations.
use Rattle.std.proofs.Common.{◌≡◌, inl, inr, ℕ, zero, suc, ◌+◌, ◌<◌, Bool, true, false, List, [], ◌∷◌, ◌++◌, length, get_or, Some, refl, sym, ap, subst, ◌∙◌, arith}
use Rattle.std.specs.List.{AllZip, Contains}
use Rattle.std.specs.Str.{bytes_eq}
use Rattle.ini_trees.specs.declared.lines.IniLine.{IniLine}
use Rattle.ini_trees.specs.Merge.{without, IsMerge}
use Rattle.ini_trees.specs.Sections.{general, is_section, bases_named, IsLineWithin, IsLine, HasOneChain}
use Rattle.ini_trees.specs.Numbered.{HasNoLine}
use Rattle.ini_trees.specs.Words.{Bytes}
use Rattle.ini_trees.proofs.MergeLaws.{free_none}

-- a base is there, and this is its line
abbrev pub IsBaseLine : ℕ → List IniLine → Bytes → List Bytes → Type 0
IsBaseLine depth lines base line = (is_section base lines ≡ true) × IsLineWithin depth lines base line

-- ---- one merge

pub one_merge : {X : Type 0} (same : X → X → Bool) (ls : List (List X)) (xs ys : List X) → IsMerge same ls xs → IsMerge same ls ys → xs ≡ ys
one_merge same ls [] [] v w = refl
one_merge same ls [] (y ∷ ys) v w = absurd (let none = free_none same ls ls v in cc)
one_merge same ls (x ∷ xs) [] v w = absurd (let none = free_none same ls ls w in cc)
one_merge {X} same ls (x ∷ xs) (y ∷ ys) v w =
    let is : Some x ≡ Some y = sym v.0 ∙ w.0 in
    let first : x ≡ y = cc in
    let rest = subst (λ (n : X). IsMerge same (without same n ls) xs) first v.1 in
    ap (λ (n : X). n ∷ xs) first ∙ ap (λ (l : List X). y ∷ l) (one_merge same (without same y ls) xs ys rest w.1)

-- ---- deeper

zip_weaker : {X Y : Type 0} (P Q : X → Y → Type 0) → ((x : X) (y : Y) → P x y → Q x y) → (xs : List X) (ys : List Y) → AllZip P xs ys → AllZip Q xs ys
zip_weaker P Q w [] [] z = z
zip_weaker P Q w [] (y ∷ ys) z = absurd z
zip_weaker P Q w (x ∷ xs) [] z = absurd z
zip_weaker P Q w (x ∷ xs) (y ∷ ys) z = (w x y z.0, zip_weaker P Q w xs ys z.1)

pub deeper : (d more : ℕ) (lines : List IniLine) (name : Bytes) (line : List Bytes) → IsLineWithin d lines name line → IsLineWithin (d + more) lines name line
deeper zero more lines name line w = absurd w
deeper (suc d) more lines name [] w = absurd w
deeper (suc d) more lines name (x ∷ xs) w =
    let sum : suc (d + more) ≡ suc d + more = omega arith in
    subst (λ (k : ℕ). IsLineWithin k lines name (x ∷ xs)) sum (w.0, w.1, zip_weaker (IsBaseLine d lines) (IsBaseLine (d + more) lines) (λ b l v. (v.0, deeper d more lines b l v.1)) (bases_named name lines) w.1 w.2, w.3)

-- ---- one line

-- lines of that depth are the only ones
abbrev pub AreOnly : ℕ → List IniLine → Type 0
AreOnly d lines = (e : ℕ) (name : Bytes) (xs ys : List Bytes) → IsLineWithin d lines name xs → IsLineWithin e lines name ys → xs ≡ ys

same_lines : (d e : ℕ) (lines : List IniLine) (bs : List Bytes) (ls ms : List (List Bytes)) → AreOnly d lines → AllZip (IsBaseLine d lines) bs ls → AllZip (IsBaseLine e lines) bs ms → ls ≡ ms
same_lines d e lines [] [] [] only v w = refl
same_lines d e lines [] [] (m ∷ ms) only v w = absurd w
same_lines d e lines [] (l ∷ ls) ms only v w = absurd v
same_lines d e lines (b ∷ bs) [] ms only v w = absurd v
same_lines d e lines (b ∷ bs) (l ∷ ls) [] only v w = absurd w
same_lines d e lines (b ∷ bs) (l ∷ ls) (m ∷ ms) only v w =
    let here : l ≡ m = only e b l m v.0.1 w.0.1 in
    let rest : ls ≡ ms = same_lines d e lines bs ls ms only v.1 w.1 in
    cc

pub only_line : (d : ℕ) (lines : List IniLine) → AreOnly d lines
only_line zero lines e name xs ys v w = absurd v
only_line (suc d) lines zero name xs ys v w = absurd w
only_line (suc d) lines (suc e) name [] ys v w = absurd v
only_line (suc d) lines (suc e) name (x ∷ xs) [] v w = absurd w
only_line (suc d) lines (suc e) name (x ∷ xs) (y ∷ ys) v w =
    let first : x ≡ y = v.0 ∙ sym w.0 in
    let same : v.1 ≡ w.1 = same_lines d e lines (bases_named name lines) v.1 w.1 (only_line d lines) v.2 w.2 in
    let merge = subst (λ (ls : List (List Bytes)). IsMerge bytes_eq (ls ++ bases_named name lines ∷ []) xs) same v.3 in
    let rest : xs ≡ ys = one_merge bytes_eq (w.1 ++ bases_named name lines ∷ []) xs ys merge w.3 in
    cc

pub one_line : (lines : List IniLine) (name : Bytes) (xs ys : List Bytes) → IsLine lines name xs → IsLine lines name ys → xs ≡ ys
one_line lines name xs ys v w = only_line v.0 lines w.0 name xs ys v.1 w.1

pub one_chain_law : (lines : List IniLine) (config : Bytes) → HasOneChain lines config
one_chain_law lines config first second (inl v) (inl w) = v.1 ∙ sym w.1
one_chain_law lines config first second (inl v) (inr w) = absurd (w.0 v.0)
one_chain_law lines config first second (inr v) (inl w) = absurd (v.0 w.0)
one_chain_law lines config first second (inr v) (inr w) =
    v.2 ∙ ap (λ (l : List Bytes). l ++ general ∷ []) (one_line lines config v.1 w.1 v.3 w.3) ∙ sym w.2

-- ---- no line

-- what stands at a place of the first list has its part in the second
zip_at : {X Y : Type 0} (P : X → Y → Type 0) (xs : List X) (ys : List Y) (k : ℕ) (d : X) → AllZip P xs ys → k < length xs → (y : Y) × P (get_or xs k d) y
zip_at P [] ys k d z h = absurd (omega arith)
zip_at P (x ∷ xs) [] k d z h = absurd z
zip_at P (x ∷ xs) (y ∷ ys) zero d z h = (y, z.0)
zip_at P (x ∷ xs) (y ∷ ys) (suc k) d z h = zip_at P xs ys k d z.1 (omega arith)

-- each base of a configuration with a line is there, and has a line of less depth
pub base_line : (d : ℕ) (lines : List IniLine) (name base : Bytes) (line : List Bytes) → IsLineWithin (suc d) lines name line → Contains (bases_named name lines) base → (l : List Bytes) × IsBaseLine d lines base l
base_line d lines name base [] w c = absurd w
base_line d lines name base (x ∷ xs) w c =
    let at = zip_at (IsBaseLine d lines) (bases_named name lines) w.1 c.0 base w.2 c.1 in
    (at.0, subst (λ (b : Bytes). IsBaseLine d lines b at.0) c.2 at.1)

pub no_line_by_base : (lines : List IniLine) (name base : Bytes) → Contains (bases_named name lines) base → HasNoLine lines base → HasNoLine lines name
no_line_by_base lines name base c none zero line w = w
no_line_by_base lines name base c none (suc d) line w = let at = base_line d lines name base line w c in none d at.0 at.1.1

pub no_line_by_absence : (lines : List IniLine) (name base : Bytes) → Contains (bases_named name lines) base → is_section base lines ≡ false → HasNoLine lines name
no_line_by_absence lines name base c none zero line w = w
no_line_by_absence lines name base c none (suc d) line w =
    let at = base_line d lines name base line w c in
    let wrong : true ≡ false = sym at.1.0 ∙ none in
    absurd cc

-- where each of these names extends another of them, none has a line
pub no_line_in_circle : (lines : List IniLine) (names : List Bytes) → ((name : Bytes) → Contains names name → (base : Bytes) × Contains (bases_named name lines) base × Contains names base) → (d : ℕ) (name : Bytes) (line : List Bytes) → Contains names name → IsLineWithin d lines name line → ⊥
no_line_in_circle lines names round zero name line c w = w
no_line_in_circle lines names round (suc d) name line c w =
    let next = round name c in
    let at = base_line d lines name next.0 line w next.1 in
    no_line_in_circle lines names round d next.0 at.0 next.2 at.1.1

-- ---- a line from those of the bases

-- these are lines
abbrev pub HasLines : List IniLine → List Bytes → List (List Bytes) → Type 0
HasLines lines bs ls = AllZip (λ base line. (is_section base lines ≡ true) × IsLine lines base line) bs ls

-- a depth for all of them
pub one_depth : (lines : List IniLine) (bs : List Bytes) (ls : List (List Bytes)) → HasLines lines bs ls → (d : ℕ) × AllZip (IsBaseLine d lines) bs ls
one_depth lines [] [] z = (0, z)
one_depth lines [] (l ∷ ls) z = absurd z
one_depth lines (b ∷ bs) [] z = absurd z
one_depth lines (b ∷ bs) (l ∷ ls) z =
    let rest = one_depth lines bs ls z.1 in
    let here = deeper z.0.1.0 rest.0 lines b l z.0.1.1 in
    let swap : rest.0 + z.0.1.0 ≡ z.0.1.0 + rest.0 = omega arith in (
      z.0.1.0 + rest.0,
      ((z.0.0, here), zip_weaker (IsBaseLine rest.0 lines) (IsBaseLine (z.0.1.0 + rest.0) lines) (λ c m v. (v.0, subst (λ (k : ℕ). IsLineWithin k lines c m) swap (deeper rest.0 z.0.1.0 lines c m v.1))) bs ls rest.1),
    )

pub line_from : (lines : List IniLine) (name : Bytes) (ls : List (List Bytes)) (behind : List Bytes) → HasLines lines (bases_named name lines) ls → IsMerge bytes_eq (ls ++ bases_named name lines ∷ []) behind → IsLine lines name (name ∷ behind)
line_from lines name ls behind z m = let deep = one_depth lines (bases_named name lines) ls z in (suc deep.0, (refl, ls, deep.1, m))

pub no_line_from : (lines : List IniLine) (name : Bytes) (ls : List (List Bytes)) → HasLines lines (bases_named name lines) ls → ((behind : List Bytes) → IsMerge bytes_eq (ls ++ bases_named name lines ∷ []) behind → ⊥) → HasNoLine lines name
no_line_from lines name ls z none zero line w = w
no_line_from lines name ls z none (suc d) [] w = w
no_line_from lines name ls z none (suc d) (x ∷ xs) w =
    let deep = one_depth lines (bases_named name lines) ls z in
    let same : w.1 ≡ ls = same_lines d deep.0 lines (bases_named name lines) w.1 ls (only_line d lines) w.2 deep.1 in
    none xs (subst (λ (m : List (List Bytes)). IsMerge bytes_eq (m ++ bases_named name lines ∷ []) xs) same w.3)
