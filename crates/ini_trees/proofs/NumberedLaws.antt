-- Laws of the lines of sections by their numbers.
use Rattle.std.proofs.Common.{◌≡◌, ◌≢◌, inl, inr, ◌⊎◌, ℕ, zero, suc, ◌+◌, ◌<◌, ◌≤◌, Bool, true, false, not, ◌||◌, List, [], ◌∷◌, ◌++◌, length, get_or, set, map, take, Option, Some, None, Result, Ok, Err, IfOk, IfErr, refl, sym, ap, subst, ◌∙◌, arith, if◌then◌else◌, slice_get}
use Rattle.std.specs.List.{Contains, list_any}
use Rattle.std.specs.Str.{bytes_eq}
use Rattle.std.proofs.lemmas.Bool.{cases_Bool, cases_lt, cases_eq, false≢true}
use Rattle.std.proofs.lemmas.List.{get_or_append_left, get_or_push, length_push, get_or-set_same, get_or-set_other, get_or_past, map-append, take_more, get_or-map, length-map}
use Rattle.std.proofs.lemmas.List.Elements.{All-cons, All-contains, All-nil, All-push, Contains-push_cases, Contains-append_left, Contains-append_right, Contains-push, filter_passes}
use Rattle.std.proofs.lemmas.Slice.Eq.{bytes_eq-Decides}
use Rattle.ini_trees.specs.declared.error.ChainError.{ChainError}
use Rattle.ini_trees.specs.declared.error.ChainError.TheVariants as errors
use Rattle.ini_trees.specs.declared.lines.IniLine.{IniLine}
use Rattle.ini_trees.specs.declared.lines.LineMeaning.{LineMeaning}
use Rattle.ini_trees.specs.declared.lines.LineMeaning.TheVariants as line
use Rattle.ini_trees.specs.Counts.{same_number, AreBelow, AreAllBelow}
use Rattle.ini_trees.specs.Merge.{without, IsMerge}
use Rattle.ini_trees.specs.Numbers.{AreApart, AreLast, holds, with_section, names_behind, name_at, AreNumbers, FitRows, row_list, bases_at, AreRows, ReachedIn, IsOrdered, IsWithin}
use Rattle.ini_trees.specs.Numbered.{line_at, SettlesRow, HasNoLine, IsNumberLine, SettlesChain}
use Rattle.ini_trees.specs.Sections.{general, bases_of, bases_named, is_section_line, is_section, IsLineWithin, IsLine, IsChain, RefusesChain, AnswersChain}
use Rattle.ini_trees.specs.Words.{Bytes}
use Rattle.ini_trees.proofs.LineLaws.{HasLines, base_line, line_from, no_line_from, no_line_by_base, no_line_by_absence, one_chain_law}
use Rattle.ini_trees.proofs.NumberLaws.{free_below, names_merge, numbers_merge}
use Rattle.ini_trees.proofs.MergeLaws.{all_without_below}

same_name : (a b : Bytes) → bytes_eq a b ≡ true → a ≡ b
same_name a b h = (bytes_eq-Decides a b).0 h

name_same : (a : Bytes) → bytes_eq a a ≡ true
name_same a = (bytes_eq-Decides a a).1 refl

-- ---- the numbers of names

any_append : (names more : List Bytes) (name : Bytes) → holds (names ++ more) name ≡ (holds names name || holds more name)
any_append [] more name = refl
any_append (x ∷ xs) more name = let rest = any_append xs more name in go (bytes_eq x name) refl rest
  where
    go : (b : Bool) → bytes_eq x name ≡ b → holds (xs ++ more) name ≡ (holds xs name || holds more name) → holds ((x ∷ xs) ++ more) name ≡ (holds (x ∷ xs) name || holds more name)
    go true e rest = rw e refl
    go false e rest = rw e rest

pub held_at : (names : List Bytes) (k : ℕ) → k < length names → holds names (name_at names k) ≡ true
held_at [] k h = absurd (omega arith)
held_at (x ∷ xs) zero h = rw (name_same x) refl
held_at (x ∷ xs) (suc k) h = let rest = held_at xs k (omega arith) in go (bytes_eq x (name_at xs k)) refl rest
  where
    go : (b : Bool) → bytes_eq x (name_at xs k) ≡ b → holds xs (name_at xs k) ≡ true → holds (x ∷ xs) (name_at xs k) ≡ true
    go true e rest = rw e refl
    go false e rest = rw e rest

-- a name is held, or is that of the section which the line begins
with_held : (names : List Bytes) (m : LineMeaning) (name : Bytes) → holds (with_section names m) name ≡ (holds names name || is_section_line name m)
with_held names line.Blank name = or_false (holds names name)
  where
    or_false : (b : Bool) → b ≡ (b || false)
    or_false true = refl
    or_false false = refl
with_held names line.Comment name = or_false (holds names name)
  where
    or_false : (b : Bool) → b ≡ (b || false)
    or_false true = refl
    or_false false = refl
with_held names (line.Entry e) name = or_false (holds names name)
  where
    or_false : (b : Bool) → b ≡ (b || false)
    or_false true = refl
    or_false false = refl
with_held names (line.Section other) name = go (holds names other) refl
  where
    absorbed : (b c : Bool) → (c ≡ true → b ≡ true) → b ≡ (b || c)
    absorbed true c h = refl
    absorbed false true h = h refl
    absorbed false false h = refl

    last : (b c : Bool) → (b || (c || false)) ≡ (b || c)
    last true c = refl
    last false true = refl
    last false false = refl

    go : (b : Bool) → holds names other ≡ b → holds (if b then names else names ++ other ∷ []) name ≡ (holds names name || bytes_eq other name)
    go true e = absorbed (holds names name) (bytes_eq other name) (λ t. ap (holds names) (sym (same_name other name t)) ∙ e)
    go false e = any_append names (other ∷ []) name ∙ last (holds names name) (bytes_eq other name)

pub names_held : (names : List Bytes) (ls : List IniLine) (name : Bytes) → holds (names_behind names ls) name ≡ (holds names name || list_any (λ (l : IniLine). is_section_line name l.meaning) ls)
names_held names [] name = or_false (holds names name)
  where
    or_false : (b : Bool) → b ≡ (b || false)
    or_false true = refl
    or_false false = refl
names_held names (l ∷ ls) name =
    names_held (with_section names l.meaning) ls name
    ∙ ap (λ (b : Bool). b || list_any (λ (k : IniLine). is_section_line name k.meaning) ls) (with_held names l.meaning name)
    ∙ grouped (holds names name) (is_section_line name l.meaning) (list_any (λ (k : IniLine). is_section_line name k.meaning) ls)
  where
    grouped : (a b c : Bool) → ((a || b) || c) ≡ (a || (b || c))
    grouped true b c = refl
    grouped false b c = refl

not_held : (names : List Bytes) (name : Bytes) (k : ℕ) → holds names name ≡ false → k < length names → name_at names k ≡ name → ⊥
not_held names name k none h e = false≢true (sym none ∙ ap (holds names) (sym e) ∙ held_at names k h)

push_apart : (names : List Bytes) (name : Bytes) → holds names name ≡ false → AreApart (name_at names) (length names) → AreApart (name_at (names ++ name ∷ [])) (length (names ++ name ∷ []))
push_apart names name none apart i j h k e =
    let size : length (names ++ name ∷ []) ≡ length names + 1 = length_push names name in
    elim (cases_lt i (length names)) [
      | inl first ↦
          elim (cases_lt j (length names)) [
            | inl second ↦ apart i j first second (sym (get_or_append_left names (name ∷ []) [] i first) ∙ e ∙ get_or_append_left names (name ∷ []) [] j second)
            | inr past ↦
                let last : length names ≡ j = omega arith in
                absurd (not_held names name i none first (sym (get_or_append_left names (name ∷ []) [] i first) ∙ e ∙ get_or_push names name [] j last))
          ]
      | inr past ↦
          let last : length names ≡ i = omega arith in
          elim (cases_lt j (length names)) [
            | inl second ↦ absurd (not_held names name j none second (sym (get_or_append_left names (name ∷ []) [] j second) ∙ sym e ∙ get_or_push names name [] i last))
            | inr other ↦ omega arith
          ]
    ]

with_apart : (names : List Bytes) (m : LineMeaning) → AreApart (name_at names) (length names) → AreApart (name_at (with_section names m)) (length (with_section names m))
with_apart names line.Blank apart = apart
with_apart names line.Comment apart = apart
with_apart names (line.Entry e) apart = apart
with_apart names (line.Section other) apart = go (holds names other) refl
  where
    go : (b : Bool) → holds names other ≡ b → AreApart (name_at (if b then names else names ++ other ∷ [])) (length (if b then names else names ++ other ∷ []))
    go true e = apart
    go false e = push_apart names other e apart

pub names_apart : (names : List Bytes) (ls : List IniLine) → AreApart (name_at names) (length names) → AreApart (name_at (names_behind names ls)) (length (names_behind names ls))
names_apart names [] apart = apart
names_apart names (l ∷ ls) apart = names_apart (with_section names l.meaning) ls (with_apart names l.meaning apart)

-- what is known of the names of the sections
pub record AreSections (text : List IniLine) (names : List Bytes) : Type 0 where
  pub apart : AreApart (name_at names) (length names)
  pub there : (k : ℕ) → k < length names → is_section (name_at names k) text ≡ true
  pub absent : (name : Bytes) → name ≢ general → holds names name ≡ false → is_section name text ≡ false

pub sections_of : (text : List IniLine) (names : List Bytes) → names ≡ names_behind [] text → AreSections text names
sections_of text names e = record {
  apart = subst (λ (ns : List Bytes). AreApart (name_at ns) (length ns)) (sym e) (names_apart [] text (λ i j h k same. absurd (omega arith)));
  there = λ k h.
      let held = held_at names k h in
      let any = sym (names_held [] text (name_at names k)) ∙ ap (λ (ns : List Bytes). holds ns (name_at names k)) (sym e) ∙ held in
      or_true (bytes_eq (name_at names k) general) _ any;
  absent = λ name other none.
      let any = sym (names_held [] text name) ∙ ap (λ (ns : List Bytes). holds ns name) (sym e) ∙ none in
      or_none (bytes_eq name general) _ (not_general name other) any;
}
  where
    or_true : (a b : Bool) → b ≡ true → (a || b) ≡ true
    or_true true b h = refl
    or_true false b h = h

    or_none : (a b : Bool) → a ≡ false → b ≡ false → (a || b) ≡ false
    or_none a b e f = rw e f

    not_general : (name : Bytes) → name ≢ general → bytes_eq name general ≡ false
    not_general name other =
        elim (cases_Bool (bytes_eq name general)) [
          | inl t ↦ absurd (other (same_name name general t))
          | inr f ↦ f
        ]

-- ---- no line

other_base : (text : List IniLine) (name base : Bytes) → Contains (bases_named name text) base → base ≢ general
other_base text name base c e =
    let passes = All-contains (λ b. not (bytes_eq b general) ≡ true) (bases_named name text) base (filter_passes (λ b. not (bytes_eq b general)) (bases_of name text)) c in
    let is : bytes_eq base general ≡ true = (bytes_eq-Decides base general).1 e in
    let wrong : false ≡ true = rw is at passes in
    false≢true wrong

pub no_row_no_line : (text : List IniLine) (names : List Bytes) (name : Bytes) → AreSections text names → AreNumbers names (bases_named name text) None → HasNoLine text name
no_row_no_line text names name s w = no_line_by_absence text name w.0 w.1 (s.absent w.0 (other_base text name w.0 w.1) w.2)

named_base : (text : List IniLine) (names : List Bytes) (rows : List (Option (List ℕ))) (k b : ℕ) → FitRows text names rows → k < length names → Contains (bases_at rows k) b → Contains (bases_named (name_at names k) text) (name_at names b)
named_base text names rows k b fit h c = go (get_or rows k None) refl (fit.1 k h) c
  where
    go : (o : Option (List ℕ)) → get_or rows k None ≡ o → AreNumbers names (bases_named (name_at names k) text) o → Contains (row_list o) b → Contains (bases_named (name_at names k) text) (name_at names b)
    go None e w c = absurd (omega (arith, c.1))
    go (Some row) e w c =
        let within : c.0 < length (map (name_at names) row) = omega (arith, c.1, length-map row (name_at names)) in
        let at : get_or (map (name_at names) row) c.0 (name_at names b) ≡ name_at names b = get_or-map (name_at names) row c.0 b (name_at names b) c.1 ∙ ap (name_at names) c.2 in
        subst (λ (bs : List Bytes). Contains bs (name_at names b)) w.0 (c.0, within, at)

in_rows : (rows : List (Option (List ℕ))) (k b : ℕ) → Contains (bases_at rows k) b → k < length rows
in_rows rows k b c =
    elim (cases_lt k (length rows)) [
      | inl below ↦ below
      | inr past ↦
          let none : bases_at rows k ≡ [] = ap row_list (get_or_past rows k None past) in
          let size : length (bases_at rows k) ≡ 0 = ap length none in
          absurd (omega (arith, c.1))
    ]

pub no_line_above : (text : List IniLine) (names : List Bytes) (rows : List (Option (List ℕ))) (root k steps : ℕ) → FitRows text names rows → ReachedIn steps rows root k → HasNoLine text (name_at names k) → HasNoLine text (name_at names root)
no_line_above text names rows root k zero fit r none = subst (λ (n : ℕ). HasNoLine text (name_at names n)) r none
no_line_above text names rows root k (suc steps) fit r none =
    let within : r.0 < length names = omega (arith, in_rows rows r.0 k r.2, fit.0) in
    no_line_above text names rows root r.0 steps fit r.1 (no_line_by_base text (name_at names r.0) (name_at names k) (named_base text names rows r.0 k fit within r.2) none)

pub rows_below : (text : List IniLine) (names : List Bytes) (rows : List (Option (List ℕ))) → FitRows text names rows → AreRows rows
rows_below text names rows fit k =
    elim (cases_lt k (length rows)) [
      | inl below ↦ go (get_or rows k None) (fit.1 k (omega (arith, fit.0)))
      | inr past ↦ subst (λ (o : Option (List ℕ)). AreBelow (length rows) (row_list o)) (sym (get_or_past rows k None past)) (All-nil (λ x. x < length rows))
    ]
  where
    go : (o : Option (List ℕ)) → AreNumbers names (bases_named (name_at names k) text) o → AreBelow (length rows) (row_list o)
    go None w = All-nil (λ x. x < length rows)
    go (Some row) w = subst (λ (n : ℕ). AreBelow n row) (sym fit.0) w.1

pub within_of_line : (d : ℕ) (text : List IniLine) (names : List Bytes) (rows : List (Option (List ℕ))) (k : ℕ) (line : List Bytes) → AreSections text names → FitRows text names rows → k < length names → IsLineWithin d text (name_at names k) line → IsWithin d rows k
within_of_line zero text names rows k line s fit h w = w
within_of_line (suc d) text names rows k line s fit h w = go (get_or rows k None) refl (fit.1 k h) (λ b l m v. within_of_line d text names rows b l s fit m v)
  where
    go : (o : Option (List ℕ)) → get_or rows k None ≡ o → AreNumbers names (bases_named (name_at names k) text) o → ((b : ℕ) (l : List Bytes) → b < length names → IsLineWithin d text (name_at names b) l → IsWithin d rows b) → IsWithin (suc d) rows k
    go None e n later = absurd (no_row_no_line text names (name_at names k) s n (suc d) line w)
    go (Some row) e n later = (
      row,
      e,
      λ b c.
          let at = base_line d text (name_at names k) (name_at names b) line w (named_base text names rows k b fit h c) in
          let below : b < length rows = All-contains (λ x. x < length rows) (bases_at rows k) b (rows_below text names rows fit k) c in
          let short : b < length names = omega (arith, fit.0) in
          later b at.0 short at.1.1,
    )

pub no_line_by_depth : (text : List IniLine) (names : List Bytes) (rows : List (Option (List ℕ))) (root : ℕ) → AreSections text names → FitRows text names rows → root < length names → ((d : ℕ) → IsWithin d rows root → ⊥) → HasNoLine text (name_at names root)
no_line_by_depth text names rows root s fit h none d line w = none d (within_of_line d text names rows root line s fit h w)

-- ---- a line

-- each of these has its line
abbrev pub HaveLines : List IniLine → List Bytes → List (List ℕ) → List ℕ → Type 0
HaveLines text names lines row = (b : ℕ) → Contains row b → (b < length names) × IsNumberLine text names b (line_at lines b)

have_rest : (text : List IniLine) (names : List Bytes) (lines : List (List ℕ)) (x : ℕ) (xs : List ℕ) → HaveLines text names lines (x ∷ xs) → HaveLines text names lines xs
have_rest text names lines x xs have b c = have b (Contains-append_right (x ∷ []) xs b c)

pub have_first : (text : List IniLine) (names : List Bytes) (lines : List (List ℕ)) (x : ℕ) (xs : List ℕ) → HaveLines text names lines (x ∷ xs) → (x < length names) × IsNumberLine text names x (line_at lines x)
have_first text names lines x xs have = have x (Contains-append_left (x ∷ []) xs x (Contains-push [] x))

have_below : (text : List IniLine) (names : List Bytes) (lines : List (List ℕ)) (row : List ℕ) → HaveLines text names lines row → AreAllBelow (length names) (map (line_at lines) row)
have_below text names lines [] have = All-nil (AreBelow (length names))
have_below text names lines (x ∷ xs) have =
    All-cons (AreBelow (length names)) (line_at lines x) (map (line_at lines) xs) (have_first text names lines x xs have).1.1 (have_below text names lines xs (have_rest text names lines x xs have))

row_below : (text : List IniLine) (names : List Bytes) (lines : List (List ℕ)) (row : List ℕ) → HaveLines text names lines row → AreBelow (length names) row
row_below text names lines [] have = All-nil (λ x. x < length names)
row_below text names lines (x ∷ xs) have =
    All-cons (λ y. y < length names) x xs (have_first text names lines x xs have).0 (row_below text names lines xs (have_rest text names lines x xs have))

pub merged_below : (text : List IniLine) (names : List Bytes) (lines : List (List ℕ)) (row : List ℕ) → HaveLines text names lines row → AreAllBelow (length names) (map (line_at lines) row ++ row ∷ [])
merged_below text names lines row have = All-push (AreBelow (length names)) (map (line_at lines) row) row (have_below text names lines row have) (row_below text names lines row have)

have_named : (text : List IniLine) (names : List Bytes) (lines : List (List ℕ)) (row : List ℕ) → AreSections text names → HaveLines text names lines row → HasLines text (map (name_at names) row) (map (map (name_at names)) (map (line_at lines) row))
have_named text names lines [] s have = tt
have_named text names lines (x ∷ xs) s have =
    let first = have_first text names lines x xs have in
    ((s.there x first.0, first.1.0), have_named text names lines xs s (have_rest text names lines x xs have))

names_of_lists : (names : List Bytes) (ls : List (List ℕ)) (row : List ℕ) → map (map (name_at names)) (ls ++ row ∷ []) ≡ map (map (name_at names)) ls ++ map (name_at names) row ∷ []
names_of_lists names ls row = map-append (map (name_at names)) ls (row ∷ [])

-- the numbers of a merge are numbers of the lists
merge_below : (n : ℕ) (ls : List (List ℕ)) (m : List ℕ) → AreAllBelow n ls → IsMerge same_number ls m → AreBelow n m
merge_below n ls [] below m = All-nil (λ x. x < n)
merge_below n ls (x ∷ xs) below m = All-cons (λ y. y < n) x xs (free_below n x ls ls below m.0) (merge_below n (without same_number x ls) xs (all_without_below n x ls below) m.1)

pub line_there : (text : List IniLine) (names : List Bytes) (lines : List (List ℕ)) (row : List ℕ) (number : ℕ) (behind : List ℕ) → AreSections text names → number < length names → AreNumbers names (bases_named (name_at names number) text) (Some row) → HaveLines text names lines row → IsMerge same_number (map (line_at lines) row ++ row ∷ []) behind → IsNumberLine text names number (number ∷ behind)
line_there text names lines row number behind s h n have m =
    let below = merged_below text names lines row have in
    let named = names_merge (name_at names) (length names) (map (line_at lines) row ++ row ∷ []) behind s.apart below m in
    let lists : map (map (name_at names)) (map (line_at lines) row ++ row ∷ []) ≡ map (map (name_at names)) (map (line_at lines) row) ++ bases_named (name_at names number) text ∷ [] =
    names_of_lists names (map (line_at lines) row) row ∙ ap (λ (b : List Bytes). map (map (name_at names)) (map (line_at lines) row) ++ b ∷ []) n.0 in
    let merge = subst (λ (l : List (List Bytes)). IsMerge bytes_eq l (map (name_at names) behind)) lists named in
    let bases = subst (λ (b : List Bytes). HasLines text b (map (map (name_at names)) (map (line_at lines) row))) n.0 (have_named text names lines row s have) in (
      line_from text (name_at names number) (map (map (name_at names)) (map (line_at lines) row)) (map (name_at names) behind) bases merge,
      All-cons (λ y. y < length names) number behind h (merge_below (length names) (map (line_at lines) row ++ row ∷ []) behind below m),
    )

pub line_missing : (text : List IniLine) (names : List Bytes) (lines : List (List ℕ)) (row : List ℕ) (number : ℕ) → AreSections text names → AreNumbers names (bases_named (name_at names number) text) (Some row) → HaveLines text names lines row → ((behind : List ℕ) → IsMerge same_number (map (line_at lines) row ++ row ∷ []) behind → ⊥) → HasNoLine text (name_at names number)
line_missing text names lines row number s n have none =
    let below = merged_below text names lines row have in
    let lists : map (map (name_at names)) (map (line_at lines) row ++ row ∷ []) ≡ map (map (name_at names)) (map (line_at lines) row) ++ bases_named (name_at names number) text ∷ [] =
    names_of_lists names (map (line_at lines) row) row ∙ ap (λ (b : List Bytes). map (map (name_at names)) (map (line_at lines) row) ++ b ∷ []) n.0 in
    let bases = subst (λ (b : List Bytes). HasLines text b (map (map (name_at names)) (map (line_at lines) row))) n.0 (have_named text names lines row s have) in
    no_line_from text (name_at names number) (map (map (name_at names)) (map (line_at lines) row)) bases
    (λ behind m. let found = numbers_merge (name_at names) (length names) (map (line_at lines) row ++ row ∷ []) behind s.apart below (subst (λ (l : List (List Bytes)). IsMerge bytes_eq l behind) (sym lists) m) in none found.0 found.1)

-- ---- along an order

-- each section of the order so far has its line that is extended from that place on, and so has the
-- root
abbrev pub AreFound : List IniLine → List Bytes → List ℕ → ℕ → ℕ → List (List ℕ) → List ℕ → Type 0
AreFound text names last root i lines front = (k : ℕ) → Contains front k → (k ≡ root) ⊎ (i ≤ get_or last k 0) → IsNumberLine text names k (line_at lines k)

pub have_lines : (text : List IniLine) (names : List Bytes) (rows : List (Option (List ℕ))) (lines : List (List ℕ)) (order last : List ℕ) (root i number : ℕ) → FitRows text names rows → IsOrdered rows order → AreLast rows order last → i < length order → get_or order i 0 ≡ number → AreFound text names last root i lines (take i order) → HaveLines text names lines (bases_at rows number)
have_lines text names rows lines order last root i number fit ordered uses h at found b c =
    let below : b < length rows = All-contains (λ x. x < length rows) (bases_at rows number) b (rows_below text names rows fit number) c in
    let extended = subst (λ (n : ℕ). Contains (bases_at rows n) b) (sym at) c in
    let before = ordered i h b extended in (
      omega (arith, fit.0),
      found b before (inr (uses i h b extended)),
    )

pub found_more : (text : List IniLine) (names : List Bytes) (lines : List (List ℕ)) (order last line : List ℕ) (root i number : ℕ) → i < length order → get_or order i 0 ≡ number → number < length lines → IsNumberLine text names number line → AreFound text names last root i lines (take i order) → AreFound text names last root i (set lines number line) (take (i + 1) order)
found_more text names lines order last line root i number h at within is found k c extended =
    let same : line_at (set lines number line) number ≡ line = get_or-set_same lines number line [] within in
    elim (cases_eq k number) [
      | inl e ↦ subst (λ (n : ℕ). IsNumberLine text names n (line_at (set lines number line) n)) (sym e) (subst (IsNumberLine text names number) (sym same) is)
      | inr apart ↦
          let other : line_at (set lines number line) k ≡ line_at lines k = get_or-set_other lines number k line [] apart in
          elim (Contains-push_cases (take i order) number k (subst (λ (l : List ℕ). Contains l k) (take_more order i 0 h ∙ ap (λ (n : ℕ). take i order ++ n ∷ []) at) c)) [
            | inl old ↦ subst (IsNumberLine text names k) (sym other) (found k old extended)
            | inr e ↦ absurd (apart (sym e))
          ]
    ]

-- the lines that are given up in a place are not needed after it
pub found_kept : (text : List IniLine) (names : List Bytes) (lines kept : List (List ℕ)) (front last : List ℕ) (root i : ℕ) → ((k : ℕ) → (k ≡ root) ⊎ (get_or last k 0 ≢ i) → line_at kept k ≡ line_at lines k) → AreFound text names last root i lines front → AreFound text names last root (i + 1) kept front
found_kept text names lines kept front last root i same found k c (inl e) = subst (IsNumberLine text names k) (sym (same k (inl e))) (found k c (inl e))
found_kept text names lines kept front last root i same found k c (inr h) =
    let other : get_or last k 0 ≢ i = λ e. omega (arith, e, h) in
    subst (IsNumberLine text names k) (sym (same k (inr other))) (found k c (inr (omega (arith, h))))

-- and where none is given up
pub found_still : (text : List IniLine) (names : List Bytes) (lines : List (List ℕ)) (front last : List ℕ) (root i : ℕ) → AreFound text names last root i lines front → AreFound text names last root (i + 1) lines front
found_still text names lines front last root i found = found_kept text names lines lines front last root i (λ k h. refl) found

pub row_settled : (E : Type 0) (text : List IniLine) (names : List Bytes) (rows : List (Option (List ℕ))) (lines : List (List ℕ)) (number : ℕ) (line : List ℕ) → AreSections text names → FitRows text names rows → number < length names → HaveLines text names lines (bases_at rows number) → SettlesRow {E = E} (get_or rows number None) number lines (Ok (Some line)) → IsNumberLine text names number line
row_settled E text names rows lines number line s fit h have w = go (get_or rows number None) (fit.1 number h) have w
  where
    go : (o : Option (List ℕ)) → AreNumbers names (bases_named (name_at names number) text) o → HaveLines text names lines (row_list o) → SettlesRow {E = E} o number lines (Ok (Some line)) → IsNumberLine text names number line
    go None n v m = absurd m
    go (Some row) n v m = subst (IsNumberLine text names number) (sym m.1) (line_there text names lines row number m.0 s h n v m.2)

pub row_faults : (E : Type 0) (text : List IniLine) (names : List Bytes) (rows : List (Option (List ℕ))) (lines : List (List ℕ)) (number : ℕ) → AreSections text names → FitRows text names rows → number < length names → HaveLines text names lines (bases_at rows number) → SettlesRow {E = E} (get_or rows number None) number lines (Ok None) → HasNoLine text (name_at names number)
row_faults E text names rows lines number s fit h have w = go (get_or rows number None) (fit.1 number h) have w
  where
    go : (o : Option (List ℕ)) → AreNumbers names (bases_named (name_at names number) text) o → HaveLines text names lines (row_list o) → SettlesRow {E = E} o number lines (Ok None) → HasNoLine text (name_at names number)
    go None n v m = no_row_no_line text names (name_at names number) s n
    go (Some row) n v m = line_missing text names lines row number s n v m

pub read_at : (lines : List (List ℕ)) (k : ℕ) (line : List ℕ) → slice_get lines k ≡ Some line → line_at lines k ≡ line
read_at [] k line e = absurd cc
read_at (x ∷ xs) zero line e = cc
read_at (x ∷ xs) (suc k) line e = read_at xs k line e

-- ---- answers

pub chain_from_line : (text : List IniLine) (name : Bytes) (line chain : List Bytes) → name ≢ general → IsLine text name line → chain ≡ line ++ general ∷ [] → IsChain text name chain
chain_from_line text name line chain other w e = inr (other, line, e, w)

pub no_chain_from_line : (text : List IniLine) (name : Bytes) → name ≢ general → HasNoLine text name → (chain : List Bytes) → IsChain text name chain → ⊥
no_chain_from_line text name other none chain (inl v) = other v.0
no_chain_from_line text name other none chain (inr v) = none v.3.0 v.1 v.3.1

pub held_there : (text : List IniLine) (names : List Bytes) (name : Bytes) → AreSections text names → name ≢ general → is_section name text ≡ true → holds names name ≡ false → ⊥
held_there text names name s other is none = false≢true (sym (s.absent name other none) ∙ is)

pub accepted_by : (lines : List IniLine) (config : Bytes) (r : Result (List Bytes) ChainError) → is_section config lines ≡ true → SettlesChain lines config r → IfOk r (λ chain. IsChain lines config chain × (is_section config lines ≡ true))
accepted_by lines config (Ok chain) is w = (w, is)
accepted_by lines config (Err e) is w = tt

pub complete_by : (lines : List IniLine) (config : Bytes) (r : Result (List Bytes) ChainError) → SettlesChain lines config r → (chain : List Bytes) → IsChain lines config chain → AnswersChain chain r
complete_by lines config (Ok found) w chain v = one_chain_law lines config found chain w v
complete_by lines config (Err errors.ChainFault) w chain v = w chain v
complete_by lines config (Err errors.NoSuchConfig) w chain v = w
complete_by lines config (Err (errors.NoMemory _)) w chain v = tt

pub refused_by : (lines : List IniLine) (config : Bytes) (r : Result (List Bytes) ChainError) → is_section config lines ≡ true → SettlesChain lines config r → IfErr r (λ e. RefusesChain lines config e)
refused_by lines config (Ok found) is w = tt
refused_by lines config (Err errors.ChainFault) is w = (is, w)
refused_by lines config (Err errors.NoSuchConfig) is w = absurd w
refused_by lines config (Err (errors.NoMemory _)) is w = tt
