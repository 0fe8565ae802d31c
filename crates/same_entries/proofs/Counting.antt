-- Values rest on the entries that count, and entries that are written alike say the same.
use Rattle.std.proofs.Common.{◌≡◌, ◌≤◌, ◌<◌, length, arith, ◌==◌, ℕ, Bool, true, false, cond, not, ◌&&◌, ◌++◌, List, [], ◌∷◌, Option, Some, None, refl, sym, ap, subst, ◌∙◌, bytes_eq, codes}
use Rattle.std.proofs.lemmas.Bool.{true≢false}
use Rattle.std.proofs.lemmas.List.Elements.{filter-append}
use Rattle.std.proofs.lemmas.Slice.Eq.{bytes_eq-Decides}
use Rattle.std.specs.List.{cons_option, find, flat_map, list_any}
use Rattle.std.specs.Option.{option_and_then}
use Rattle.std.specs.Str.{chars, is_utf8}
use Rattle.ini_entries.proofs.EntryLaws.{meaning_same}
use Rattle.ini_entries.specs.Meaning.{IsEntryMeaning}
use Rattle.ini_pattern.specs.Matched.{is_matched}
use Rattle.ini_trees.specs.declared.entry.EntryMeaning.{EntryMeaning}
use Rattle.ini_trees.specs.declared.entry.EntryMeaning.TheVariants as meaning
use Rattle.ini_trees.specs.declared.entry.EntryValue.{EntryValue}
use Rattle.ini_trees.specs.declared.lines.IniEntry.{IniEntry}
use Rattle.ini_trees.specs.declared.lines.IniLine.{IniLine}
use Rattle.ini_trees.specs.Entries.{is_parameter_name, last_name, speaks, speaks_of, value_for, value_said}
use Rattle.ini_trees.specs.declared.lines.LineMeaning.{LineMeaning}
use Rattle.ini_trees.specs.declared.lines.LineMeaning.TheVariants as line
use Rattle.ini_trees.specs.Sections.{entries_along, entries_from, entries_under, entry_here, is_in, section_behind}
use Rattle.ini_trees.specs.Words.{word_typename}
use Rattle.same_entries.specs.Counted.{counted, counts, AreSaid, IsSaid}

abbrev hyphenated : List ℕ → Bool
hyphenated name = list_any (λ b. b == 45) name

-- what the first match says of a value
abbrev found_in : List ℕ → List IniEntry → Option EntryValue
found_in path es = option_and_then (λ (e : IniEntry). value_said e.meaning) (find (speaks_of path) es)

abbrev entry : List ℕ → List ℕ → EntryMeaning → IniEntry
entry k v m = record { key = k; value = v; meaning = m }

-- ---- names with a hyphen

and_false : (a : Bool) → (a && false) ≡ false
and_false true = refl
and_false false = refl

-- no parameter has one,
no_parameter : (name : List ℕ) → hyphenated name ≡ true → is_parameter_name name ≡ false
no_parameter name h = ap (λ t. not (bytes_eq name word_typename) && not t) h ∙ and_false (not (bytes_eq name word_typename))

-- and it isn't `typename`
no_typename : (name : List ℕ) → hyphenated name ≡ true → (t : Bool) → bytes_eq name word_typename ≡ t → t ≡ false
no_typename name h true e = absurd (true≢false (sym h ∙ ap hyphenated ((bytes_eq-Decides name word_typename).0 e)))
no_typename name h false e = refl

-- no first match gives a path with such a last name a value
pick_none : (t : Bool) (e : IniEntry) (rest : Option IniEntry) → value_said e.meaning ≡ None → option_and_then (λ (x : IniEntry). value_said x.meaning) rest ≡ None
    → option_and_then (λ (x : IniEntry). value_said x.meaning) (cond t (Some e) rest) ≡ None
pick_none true e rest h g = h
pick_none false e rest h g = g

pick_rest : (t : Bool) (e : IniEntry) (rest : Option IniEntry) → t ≡ false → option_and_then (λ (x : IniEntry). value_said x.meaning) (cond t (Some e) rest) ≡ option_and_then (λ (x : IniEntry). value_said x.meaning) rest
pick_rest true e rest h = absurd (true≢false h)
pick_rest false e rest h = refl

silent_at : (path : List ℕ) → hyphenated (last_name path) ≡ true → (k v : List ℕ) (m : EntryMeaning) (es : List IniEntry) → found_in path es ≡ None → found_in path (entry k v m ∷ es) ≡ None
silent_at path h k v (meaning.Parameter p) es rest =
    pick_rest (speaks path (meaning.Parameter p)) (entry k v (meaning.Parameter p)) (find (speaks_of path) es)
    (ap (λ t. t && is_matched p.pattern (chars path)) (no_parameter (last_name path) h)) ∙ rest
silent_at path h k v (meaning.Type p) es rest =
    pick_rest (speaks path (meaning.Type p)) (entry k v (meaning.Type p)) (find (speaks_of path) es)
    (ap (λ t. t && is_matched p.pattern (chars path)) (no_typename (last_name path) h (bytes_eq (last_name path) word_typename) refl)) ∙ rest
silent_at path h k v (meaning.Object o) es rest =
    pick_none (speaks path (meaning.Object o)) (entry k v (meaning.Object o)) (find (speaks_of path) es) refl rest
silent_at path h k v (meaning.Network name) es rest = rest
silent_at path h k v (meaning.Extends names) es rest = rest
silent_at path h k v (meaning.TimeLimit ps) es rest = rest
silent_at path h k v meaning.Other es rest = rest

silent : (path : List ℕ) → hyphenated (last_name path) ≡ true → (es : List IniEntry) → found_in path es ≡ None
silent path h [] = refl
silent path h (e ∷ es) = silent_at path h e.key e.value e.meaning es (silent path h es)

-- ---- an entry that doesn't count decides no value

pick_both : (t : Bool) (e : IniEntry) (rest less : Option IniEntry) → option_and_then (λ (x : IniEntry). value_said x.meaning) rest ≡ option_and_then (λ (x : IniEntry). value_said x.meaning) less
    → option_and_then (λ (x : IniEntry). value_said x.meaning) (cond t (Some e) rest) ≡ option_and_then (λ (x : IniEntry). value_said x.meaning) (cond t (Some e) less)
pick_both true e rest less h = refl
pick_both false e rest less h = h

first_of_both : (a b : Bool) → (a && b) ≡ true → a ≡ true
first_of_both true b e = refl
first_of_both false b e = e

-- an object's option that is passed over
passed : (path : List ℕ) (k v : List ℕ) (o : EntryMeaning) (es : List IniEntry) (t : Bool) → (t ≡ true → hyphenated (last_name path) ≡ true) → value_said o ≡ None
    → found_in path es ≡ found_in path (counted es)
    → option_and_then (λ (x : IniEntry). value_said x.meaning) (cond t (Some (entry k v o)) (find (speaks_of path) es)) ≡ found_in path (counted es)
passed path k v o es true h none rest = none ∙ sym (silent path (h refl) (counted es))
passed path k v o es false h none rest = rest

counted_at : (path : List ℕ) (k v : List ℕ) (m : EntryMeaning) (es : List IniEntry) → found_in path es ≡ found_in path (counted es)
    → (t : Bool) → counts m ≡ t → found_in path (entry k v m ∷ es) ≡ found_in path (cond t (entry k v m ∷ counted es) (counted es))
counted_at path k v m es rest true e = pick_both (speaks path m) (entry k v m) (find (speaks_of path) es) (find (speaks_of path) (counted es)) rest
counted_at path k v (meaning.Parameter p) es rest false e = absurd (true≢false e)
counted_at path k v (meaning.Type p) es rest false e = absurd (true≢false e)
counted_at path k v (meaning.Object o) es rest false e =
    passed path k v (meaning.Object o) es (speaks path (meaning.Object o))
    (λ h. ap hyphenated (sym ((bytes_eq-Decides o.option (last_name path)).0 (first_of_both _ _ h))) ∙ not_false (hyphenated o.option) e)
    refl rest
  where
    not_false : (t : Bool) → not t ≡ false → t ≡ true
    not_false true h = refl
    not_false false h = absurd (true≢false h)
counted_at path k v (meaning.Network name) es rest false e = rest
counted_at path k v (meaning.Extends names) es rest false e = rest
counted_at path k v (meaning.TimeLimit ps) es rest false e = rest
counted_at path k v meaning.Other es rest false e = rest

among_counted : (path : List ℕ) (es : List IniEntry) → found_in path es ≡ found_in path (counted es)
among_counted path [] = refl
among_counted path (e ∷ es) = counted_at path e.key e.value e.meaning es (among_counted path es) (counts e.meaning) refl

-- the value of each path is that of the entries that count
pub value_by_counted : (path : List ℕ) (es : List IniEntry) → value_for path es ≡ value_for path (counted es)
value_by_counted path es = ap (λ (found : Option EntryValue). cond (is_utf8 path) found None) (among_counted path es)

-- ---- entries that are written alike

pub written_alike : (e f : IniEntry) → IsEntryMeaning e.key e.value e.meaning → IsEntryMeaning f.key f.value f.meaning → e.key ≡ f.key → e.value ≡ f.value → e ≡ f
written_alike e f p q k v = alike e.key f.key e.value f.value e.meaning f.meaning p q k v
  where
    alike : (k l v w : List ℕ) (m n : EntryMeaning) → IsEntryMeaning k v m → IsEntryMeaning l w n → k ≡ l → v ≡ w → entry k v m ≡ entry l w n
    alike k l v w m n p q a b =
        let r : IsEntryMeaning l w m = subst (λ (x : List ℕ). IsEntryMeaning x w m) a (subst (λ (y : List ℕ). IsEntryMeaning k y m) b p) in
        let same : m ≡ n = meaning_same l w m n r q in
        ap (λ (x : List ℕ). entry x v m) a ∙ (ap (λ (y : List ℕ). entry l y m) b ∙ ap (λ (z : EntryMeaning). entry l w z) same)

-- ---- along a chain

pub counted_more : (name : List ℕ) (chain : List (List ℕ)) (lines : List IniLine)
    → counted (entries_along (name ∷ chain) lines) ≡ counted (entries_under name lines) ++ counted (entries_along chain lines)
counted_more name chain lines = filter-append _ (entries_under name lines) (entries_along chain lines)

-- ---- step by step

-- the entry that counts of a line says what its key and its value say
said_here : (b : Bool) (m : LineMeaning) (e : IniEntry) → counted (cons_option (entry_here b m) []) ≡ e ∷ [] → IsSaid m → IsEntryMeaning e.key e.value e.meaning
said_here true (line.Entry x) e h s = go (counts x.meaning) h
  where
    go : (t : Bool) → cond t (x ∷ []) [] ≡ e ∷ [] → IsEntryMeaning e.key e.value e.meaning
    go true h = let same : x ≡ e = cc in subst (λ (y : IniEntry). IsEntryMeaning y.key y.value y.meaning) same s
    go false h = absurd cc
said_here true line.Blank e h s = absurd cc
said_here true line.Comment e h s = absurd cc
said_here true (line.Section name) e h s = absurd cc
said_here false m e h s = absurd cc

-- a line whose entry counts is the next
pub is_next : (name : List ℕ) (section within : Option (List ℕ)) (lines left rest : List IniLine) (l : IniLine) (e : IniEntry)
    → counted (entries_from name section lines) ≡ counted (entries_from name within left) → (AreSaid lines → AreSaid left) → length left ≤ length lines → left ≡ l ∷ rest
    → ((es : List IniEntry) → counted (cons_option (entry_here (is_in name within) l.meaning) es) ≡ e ∷ counted es)
    → (counted (entries_from name section lines) ≡ e ∷ counted (entries_from name (section_behind within l.meaning) rest))
    × (AreSaid lines → IsEntryMeaning e.key e.value e.meaning × AreSaid rest)
    × (length rest < length lines)
is_next name section within lines left rest l e same said short is here = (
  same ∙ (ap (λ (ls : List IniLine). counted (entries_from name within ls)) is ∙ here (entries_from name (section_behind within l.meaning) rest)),
  (λ s. let both : AreSaid (l ∷ rest) = subst AreSaid is (said s) in (said_here (is_in name within) l.meaning e (here []) both.0, both.1)),
  omega (arith, short, ap length is),
)

-- the entries that follow are the same, where two are that count
pub both_next : (name : List ℕ) (sx sy sa sb : Option (List ℕ)) (xs ys ps qs one other : List IniLine) (e f : IniEntry) (Goal : Type 0)
    → counted (entries_from name sx xs) ≡ e ∷ counted (entries_from name sa ps)
    → counted (entries_from name sy ys) ≡ f ∷ counted (entries_from name sb qs)
    → (AreSaid xs → IsEntryMeaning e.key e.value e.meaning × AreSaid ps) → (AreSaid ys → IsEntryMeaning f.key f.value f.meaning × AreSaid qs)
    → e.key ≡ f.key → e.value ≡ f.value
    → (AreSaid one → AreSaid xs) → (AreSaid other → AreSaid ys)
    → (AreSaid one → AreSaid other → counted (entries_from name sx xs) ≡ counted (entries_from name sy ys) → Goal)
    → (AreSaid one → AreSaid ps) × (AreSaid other → AreSaid qs) × (AreSaid one → AreSaid other → counted (entries_from name sa ps) ≡ counted (entries_from name sb qs) → Goal)
both_next name sx sy sa sb xs ys ps qs one other e f Goal p q r s k v t u goal = (
  (λ o. (r (t o)).1),
  (λ o. (s (u o)).1),
  (λ o n same. goal o n (p ∙ (ap (λ (es : List IniEntry). e ∷ es) same ∙ (ap (λ (x : IniEntry). x ∷ counted (entries_from name sb qs)) (written_alike e f (r (t o)).0 (s (u n)).0 k v) ∙ sym q)))),
)
