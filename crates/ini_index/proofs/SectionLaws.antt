-- Laws of the numbers of entries by the sections in which they stand.
use Rattle.std.proofs.Common.{◌≡◌, inl, inr, ℕ, ◌<◌, Bool, true, false, ◌||◌, List, [], ◌∷◌, ◌++◌, length, map, slice_get, Option, Some, None, refl, sym, subst, ap, ◌∙◌, arith, append_assoc, append-nil, get_or, set}
use Rattle.std.specs.List.{cons_option, list_any}
use Rattle.std.specs.Option.{option_and_then}
use Rattle.std.specs.Str.{bytes_eq}
use Rattle.std.proofs.lemmas.Bool.{cases_eq, false≢true}
use Rattle.std.proofs.lemmas.List.{get_or-set_same, get_or-set_other, length-set, map-append}
use Rattle.std.proofs.lemmas.Option.{slice_get-get_or}
use Rattle.std.proofs.lemmas.Slice.Eq.{bytes_eq-Decides}
use Rattle.ini_trees.specs.declared.lines.IniEntry.{IniEntry}
use Rattle.ini_trees.specs.declared.lines.IniLine.{IniLine}
use Rattle.ini_trees.specs.declared.lines.LineMeaning.{LineMeaning}
use Rattle.ini_trees.specs.declared.lines.LineMeaning.TheVariants as line
use Rattle.ini_trees.specs.Numbers.{holds, name_at, names_behind, AreApart}
use Rattle.ini_trees.specs.Sections.{entries_from, entries_under, entry_here, is_in, is_section_line, section_behind}
use Rattle.ini_trees.specs.Words.{Bytes}
use Rattle.ini_trees.proofs.NumberedLaws.{held_at, names_held}
use Rattle.ini_index.specs.Entries.{entry_of, entry_on, number_where, numbers_at, or_none, told, AddsTo, HaveNumbers}

-- ---- one line more

unlike : (a b : Bytes) → ((a ≡ b) → ⊥) → bytes_eq a b ≡ false
unlike a b h = go (bytes_eq a b) refl
  where
    go : (c : Bool) → bytes_eq a b ≡ c → bytes_eq a b ≡ false
    go true e = absurd (h ((bytes_eq-Decides a b).0 e))
    go false e = e

-- where a line has no entry for a section, nothing has to be added
nothing : (ns : List ℕ) (n : ℕ) (b : Bool) (m : LineMeaning) → b ≡ false → ns ≡ ns ++ number_where n (entry_here b m)
nothing ns n b m h = sym (ap (λ (c : Bool). ns ++ number_where n (entry_here c m)) h ∙ append-nil ns)

pub added_nowhere : (ns : List ℕ) (n : ℕ) (name : Bytes) (m : LineMeaning) → ns ≡ ns ++ number_where n (entry_here (is_in name None) m)
added_nowhere ns n name m = nothing ns n (is_in name None) m refl

pub added_blank : (ns : List ℕ) (n : ℕ) (b : Bool) → ns ≡ ns ++ number_where n (entry_here b line.Blank)
added_blank ns n true = sym (append-nil ns)
added_blank ns n false = sym (append-nil ns)

pub added_comment : (ns : List ℕ) (n : ℕ) (b : Bool) → ns ≡ ns ++ number_where n (entry_here b line.Comment)
added_comment ns n true = sym (append-nil ns)
added_comment ns n false = sym (append-nil ns)

pub added_section : (ns : List ℕ) (n : ℕ) (b : Bool) (name : Bytes) → ns ≡ ns ++ number_where n (entry_here b (line.Section name))
added_section ns n true name = sym (append-nil ns)
added_section ns n false name = sym (append-nil ns)

-- nor where no name is that of the section
pub added_to_none : (names : List Bytes) (name : Bytes) (m : LineMeaning) (n k : ℕ) (ns : List ℕ) → holds names name ≡ false → k < length names → ns ≡ ns ++ number_where n (entry_here (is_in (name_at names k) (Some name)) m)
added_to_none names name m n k ns none h =
    nothing ns n (is_in (name_at names k) (Some name)) m (unlike name (name_at names k) (λ e. false≢true (sym none ∙ ap (holds names) e ∙ held_at names k h)))

-- a number is added to the list of the section that has the name, and to no other
pub added_to : (names : List Bytes) (name : Bytes) (e : IniEntry) (n i k : ℕ) (old new : List (List ℕ)) → AreApart (name_at names) (length names) → length old ≡ length names → i < length names → name_at names i ≡ name → AddsTo i n old new → k < length names
    → numbers_at new k ≡ numbers_at old k ++ number_where n (entry_here (is_in (name_at names k) (Some name)) (line.Entry e))
added_to names name e n i k old new apart size within is adds h =
    elim (cases_eq k i) [
      | inl same ↦
          let here : is_in (name_at names k) (Some name) ≡ true = (bytes_eq-Decides name (name_at names k)).1 (sym is ∙ ap (name_at names) (sym same)) in
          ap (numbers_at new) same
          ∙ adds.0
          ∙ ap (λ (j : ℕ). numbers_at old j ++ n ∷ []) (sym same)
          ∙ sym (ap (λ (c : Bool). numbers_at old k ++ number_where n (entry_here c (line.Entry e))) here)
      | inr other ↦
          let there : is_in (name_at names k) (Some name) ≡ false = unlike name (name_at names k) (λ m. other (apart k i h within (sym m ∙ sym is))) in
          adds.1 k (omega (arith, h, size)) other ∙ nothing (numbers_at old k) n (is_in (name_at names k) (Some name)) (line.Entry e) there
    ]

-- a list that got a number more
pub list_set : (lists : List (List ℕ)) (i : ℕ) (v w : List ℕ) (n : ℕ) → i < length lists → w ≡ get_or lists i v ++ n ∷ [] → AddsTo i n lists (set lists i w)
list_set lists i v w n within more = (
  ap or_none (slice_get-get_or (set lists i w) i w (omega (arith, within, length-set lists i w)))
      ∙ get_or-set_same lists i w w within
      ∙ more
      ∙ sym (ap (λ (o : Option (List ℕ)). or_none o ++ n ∷ []) (slice_get-get_or lists i v within)),
  λ k h other.
      ap or_none (slice_get-get_or (set lists i w) k w (omega (arith, h, length-set lists i w)))
      ∙ get_or-set_other lists i k w w other
      ∙ sym (ap or_none (slice_get-get_or lists k w h)),
)

-- ---- all lines

-- the entry of a line comes first
cons_here : (lines : List IniLine) (n : ℕ) (l : IniLine) (b : Bool) (es : List IniEntry) → slice_get lines n ≡ Some l → map Some (cons_option (entry_here b l.meaning) es) ≡ told lines (number_where n (entry_here b l.meaning)) ++ map Some es
cons_here lines n l false es there = refl
cons_here lines n l true es there = by (entry_of l) (ap (option_and_then entry_of) there)
  where
    by : (o : Option IniEntry) → entry_on lines n ≡ o → map Some (cons_option o es) ≡ told lines (number_where n o) ++ map Some es
    by None h = refl
    by (Some e) h = ap (λ (x : Option IniEntry). x ∷ map Some es) (sym h)

pub line_done : (lines : List IniLine) (name : Bytes) (section : Option Bytes) (n : ℕ) (l : IniLine) (ls : List IniLine) (old new : List ℕ) (all : List (Option IniEntry)) → slice_get lines n ≡ Some l → new ≡ old ++ number_where n (entry_here (is_in name section) l.meaning)
    → told lines old ++ map Some (entries_from name section (l ∷ ls)) ≡ all → told lines new ++ map Some (entries_from name (section_behind section l.meaning) ls) ≡ all
line_done lines name section n l ls old new all there adds so_far =
    let here = number_where n (entry_here (is_in name section) l.meaning) in
    let rest = entries_from name (section_behind section l.meaning) ls in
    ap (λ (ns : List ℕ). told lines ns ++ map Some rest) adds
    ∙ ap (λ (os : List (Option IniEntry)). os ++ map Some rest) (map-append (entry_on lines) old here)
    ∙ append_assoc (told lines old) (told lines here) (map Some rest)
    ∙ sym (ap (λ (os : List (Option IniEntry)). told lines old ++ os) (cons_here lines n l (is_in name section) rest there))
    ∙ so_far

-- ---- one section more

-- where the numbers of the entries of a section are added, these entries are told
pub told_under : (lines self : List IniLine) (names : List Bytes) (lists : List (List ℕ)) (name : Bytes) (section : ℕ) (old new more : List ℕ) → lines ≡ self → HaveNumbers lines names lists → section < length names → name_at names section ≡ name → slice_get lists section ≡ Some more → new ≡ old ++ more
    → told self new ≡ told self old ++ map Some (entries_under name self)
told_under lines self names lists name section old new more seen have within is there adds =
    ap (told self) adds
    ∙ map-append (entry_on self) old more
    ∙ ap (λ (os : List (Option IniEntry)). told self old ++ os) (subst (λ (ls : List IniLine). told ls more ≡ map Some (entries_under name ls)) seen (sym (ap (told lines) (ap or_none there)) ∙ have.entries section within ∙ ap (λ (n : Bytes). map Some (entries_under n lines)) is))

pub section_done : (lines : List IniLine) (old new : List ℕ) (es rest : List IniEntry) (all : List (Option IniEntry)) → told lines new ≡ told lines old ++ map Some es → told lines old ++ map Some (es ++ rest) ≡ all → told lines new ++ map Some rest ≡ all
section_done lines old new es rest all adds so_far =
    ap (λ (os : List (Option IniEntry)). os ++ map Some rest) adds
    ∙ append_assoc (told lines old) (map Some es) (map Some rest)
    ∙ sym (ap (λ (os : List (Option IniEntry)). told lines old ++ os) (map-append Some es rest))
    ∙ so_far

-- ---- sections that are not there

none_from : (name : Bytes) (section : Option Bytes) (ls : List IniLine) → is_in name section ≡ false → list_any (λ (l : IniLine). is_section_line name l.meaning) ls ≡ false → entries_from name section ls ≡ []
none_from name section [] out none = refl
none_from name section (l ∷ ls) out none =
    ap (λ b. cons_option (entry_here b l.meaning) (entries_from name (section_behind section l.meaning) ls)) out
    ∙ none_from name (section_behind section l.meaning) ls (behind l.meaning (first none)) (second none)
  where
    first : (is_section_line name l.meaning || list_any (λ (k : IniLine). is_section_line name k.meaning) ls) ≡ false → is_section_line name l.meaning ≡ false
    first h = go (is_section_line name l.meaning) refl h
      where
        go : (b : Bool) → is_section_line name l.meaning ≡ b → (b || list_any (λ (k : IniLine). is_section_line name k.meaning) ls) ≡ false → is_section_line name l.meaning ≡ false
        go true e f = absurd (false≢true (sym f))
        go false e f = e

    second : (is_section_line name l.meaning || list_any (λ (k : IniLine). is_section_line name k.meaning) ls) ≡ false → list_any (λ (k : IniLine). is_section_line name k.meaning) ls ≡ false
    second h = go (is_section_line name l.meaning) h
      where
        go : (b : Bool) → (b || list_any (λ (k : IniLine). is_section_line name k.meaning) ls) ≡ false → list_any (λ (k : IniLine). is_section_line name k.meaning) ls ≡ false
        go true f = absurd (false≢true (sym f))
        go false f = f

    behind : (m : LineMeaning) → is_section_line name m ≡ false → is_in name (section_behind section m) ≡ false
    behind line.Blank h = out
    behind line.Comment h = out
    behind (line.Entry e) h = out
    behind (line.Section other) h = h

pub none_under : (name : Bytes) (lines : List IniLine) (names : List Bytes) → names ≡ names_behind [] lines → holds names name ≡ false → entries_under name lines ≡ []
none_under name lines names is none = none_from name None lines refl (sym (names_held [] lines name) ∙ ap (λ (ns : List Bytes). holds ns name) (sym is) ∙ none)
