-- Laws of the first of entries.
use Rattle.std.proofs.Common.{◌≡◌, ◌≢◌, ℕ, zero, suc, ◌+◌, ◌≤◌, ◌<◌, ◌-◌, ◌==◌, Bool, true, false, not, List, [], ◌∷◌, ◌++◌, length, drop, take, get_or, Option, Some, None, refl, sym, ap, ◌∙◌, arith, if◌then◌else◌}
use Rattle.std.specs.List.{cons_option, flat_map, suffix_len}
use Rattle.std.specs.Option.{option_and_then, option_or}
use Rattle.std.proofs.lemmas.Bool.{ne_eqb, eq-eqb}
use Rattle.std.proofs.lemmas.List.{drop_more}
use Rattle.std.proofs.lemmas.List.Folds.{find-append}
use Rattle.std.proofs.lemmas.List.Sums.{suffix_len_is}
use Rattle.std.proofs.lemmas.Slice.Eq.{bytes_eq-Decides}
use Rattle.std.specs.Str.{bytes_eq}
use Rattle.ini_trees.specs.declared.lines.IniEntry.{IniEntry}
use Rattle.ini_trees.specs.declared.lines.IniLine.{IniLine}
use Rattle.ini_trees.specs.declared.lines.LineMeaning.{LineMeaning}
use Rattle.ini_trees.specs.declared.lines.LineMeaning.TheVariants as line
use Rattle.ini_trees.specs.declared.scan.Wanted.{Wanted}
use Rattle.ini_trees.specs.Entries.{last_name}
use Rattle.ini_trees.specs.Scans.{first_among, is_wanted, wanted_of, first_wanted, IsPlace}
use Rattle.ini_trees.specs.Sections.{entries_along, entries_from, entries_under, entry_here, is_in, section_behind}
use Rattle.ini_trees.specs.Words.{Bytes}

-- what is first said here, or after, is first said in the whole
pub said_first : {X : Type 0} (x : X) (here rest front whole : Option X) → Some x ≡ here → front ≡ option_or here rest → front ≡ whole → Some x ≡ whole
said_first x here rest front whole is parts all = ap (λ (o : Option _). option_or o rest) is ∙ sym parts ∙ all

pub said_behind : {X : Type 0} (here rest front whole : Option X) → None ≡ here → front ≡ option_or here rest → front ≡ whole → rest ≡ whole
said_behind here rest front whole is parts all = ap (λ (o : Option _). option_or o rest) is ∙ sym parts ∙ all

-- ---- the first that is looked for

pub wanted_more : (w : Wanted) (here : Option IniEntry) (rest : List IniEntry) → first_wanted w (cons_option here rest) ≡ option_or (option_and_then (wanted_of w) here) (first_wanted w rest)
wanted_more w None rest = refl
wanted_more w (Some e) rest = go (is_wanted w e.meaning) refl
  where
    go : (b : Bool) → is_wanted w e.meaning ≡ b → first_wanted w (e ∷ rest) ≡ option_or (wanted_of w e) (first_wanted w rest)
    go true h = rw h refl
    go false h = rw h refl

pub wanted_along : (w : Wanted) (lines : List IniLine) (names : List Bytes) (i : ℕ) (d : Bytes) → i < length names → first_wanted w (entries_along (drop i names) lines) ≡ option_or (first_wanted w (entries_under (get_or names i d) lines)) (first_wanted w (entries_along (drop (i + 1) names) lines))
wanted_along w lines names i d within =
    ap (λ (ns : List Bytes). first_wanted w (entries_along ns lines)) (drop_more names i d within)
    ∙ find-append (λ (e : IniEntry). is_wanted w e.meaning) (entries_under (get_or names i d) lines) (entries_along (drop (i + 1) names) lines)

-- ---- the last name of a path

-- what stands after the last dot
pub last_name_is : (name : List ℕ) (start : ℕ) → start ≤ length name → ((k : ℕ) → start ≤ k → k < length name → get_or name k 0 ≡ 46 → ⊥) → (0 < start → get_or name (start - 1) 0 ≡ 46) → drop start name ≡ last_name name
last_name_is name start le past at =
    let len : suffix_len (λ (c : ℕ). not (c == 46)) name ≡ length name - start = suffix_len_is (λ (c : ℕ). not (c == 46)) name start 0 le (λ k low high. ap not (ne_eqb (get_or name k 0) 46 (past k low high))) (λ pos. ap not (eq-eqb (get_or name (start - 1) 0) 46 (at pos))) in
    let back : start ≡ length name - (length name - start) = omega arith in
    ap (λ (k : ℕ). drop k name) (back ∙ ap (λ (k : ℕ). length name - k) (sym len))

-- ---- along many sections

wanted_join : (w : Wanted) (xs ys : List IniEntry) → first_wanted w (xs ++ ys) ≡ option_or (first_wanted w xs) (first_wanted w ys)
wanted_join w xs ys = find-append (λ (e : IniEntry). is_wanted w e.meaning) xs ys

or_none : (o : Option IniEntry) → option_or o None ≡ o
or_none None = refl
or_none (Some e) = refl

or_behind : (a b c : Option IniEntry) → option_or (option_or a b) c ≡ option_or a (option_or b c)
or_behind None b c = refl
or_behind (Some e) b c = refl

-- before the first line nothing is found
pub among_all : (w : Wanted) (chain : List Bytes) (lines : List IniLine) → option_or (first_among w chain None lines) None ≡ first_wanted w (entries_along chain lines)
among_all w chain lines = or_none (first_among w chain None lines)

-- after the last one nothing is looked for
pub among_none : (w : Wanted) (chain : List Bytes) (section : Option Bytes) (found : Option IniEntry) → option_or (first_among w chain section []) found ≡ found
among_none w chain section found = ap (λ (es : List IniEntry). option_or (first_wanted w es) found) (nothing chain)
  where
    nothing : (names : List Bytes) → flat_map (λ (name : Bytes). entries_from name section []) names ≡ []
    nothing [] = refl
    nothing (n ∷ ns) = nothing ns

-- the first of a section and of others, of a line and those after it
among_first : (w : Wanted) (name : Bytes) (names : List Bytes) (section : Option Bytes) (l : IniLine) (ls : List IniLine)
    → first_among w (name ∷ names) section (l ∷ ls) ≡ option_or (option_and_then (wanted_of w) (entry_here (is_in name section) l.meaning)) (option_or (first_wanted w (entries_from name (section_behind section l.meaning) ls)) (first_among w names section (l ∷ ls)))
among_first w name names section l ls =
    wanted_join w (entries_from name section (l ∷ ls)) (flat_map (λ (n : Bytes). entries_from n section (l ∷ ls)) names)
    ∙ ap (λ (o : Option IniEntry). option_or o (first_among w names section (l ∷ ls))) (wanted_more w (entry_here (is_in name section) l.meaning) (entries_from name (section_behind section l.meaning) ls))
    ∙ or_behind (option_and_then (wanted_of w) (entry_here (is_in name section) l.meaning)) (first_wanted w (entries_from name (section_behind section l.meaning) ls)) (first_among w names section (l ∷ ls))

among_head : (w : Wanted) (name : Bytes) (names : List Bytes) (section : Option Bytes) (ls : List IniLine)
    → first_among w (name ∷ names) section ls ≡ option_or (first_wanted w (entries_from name section ls)) (first_among w names section ls)
among_head w name names section ls = wanted_join w (entries_from name section ls) (flat_map (λ (n : Bytes). entries_from n section ls) names)

-- a line is passed over that has nothing for these sections
pub among_past : (w : Wanted) (names : List Bytes) (section : Option Bytes) (l : IniLine) (ls : List IniLine) → ((k : ℕ) → k < length names → option_and_then (wanted_of w) (entry_here (is_in (get_or names k []) section) l.meaning) ≡ None)
    → first_among w names section (l ∷ ls) ≡ first_among w names (section_behind section l.meaning) ls
among_past w [] section l ls none = refl
among_past w (n ∷ ns) section l ls none =
    let rest = among_past w ns section l ls (λ k h. none (suc k) (omega (arith, h))) in
    among_first w n ns section l ls
    ∙ ap (λ (o : Option IniEntry). option_or o (option_or (first_wanted w (entries_from n (section_behind section l.meaning) ls)) (first_among w ns section (l ∷ ls)))) (none zero (omega arith))
    ∙ ap (option_or (first_wanted w (entries_from n (section_behind section l.meaning) ls))) rest
    ∙ sym (among_head w n ns (section_behind section l.meaning) ls)

in_it : (name : Bytes) (other : Bytes) → other ≡ name → is_in other (Some name) ≡ true
in_it name other e = (bytes_eq-Decides name other).1 (sym e)

not_in : (name : Bytes) (other : Bytes) → other ≢ name → is_in other (Some name) ≡ false
not_in name other h = go (bytes_eq name other) refl
  where
    go : (b : Bool) → bytes_eq name other ≡ b → bytes_eq name other ≡ false
    go true e = absurd (h (sym ((bytes_eq-Decides name other).0 e)))
    go false e = e

-- after a line that has what is looked for, only the sections before its own count
pub among_found : (w : Wanted) (names : List Bytes) (name : Bytes) (l : IniLine) (ls : List IniLine) (e : IniEntry) (at : ℕ) (found : Option IniEntry) → l.meaning ≡ line.Entry e → is_wanted w e.meaning ≡ true → IsPlace names name (Some at)
    → option_or (first_among w names (Some name) (l ∷ ls)) found ≡ option_or (first_among w (take at names) (section_behind (Some name) l.meaning) ls) (Some e)
among_found w [] name l ls e at found is wanted place = absurd (omega (arith, place.0))
among_found w (n ∷ ns) name l ls e zero found is wanted place =
    let here : option_and_then (wanted_of w) (entry_here (is_in n (Some name)) l.meaning) ≡ Some e =
    ap (λ (b : Bool). option_and_then (wanted_of w) (entry_here b l.meaning)) (in_it name n place.1)
    ∙ ap (λ (m : LineMeaning). option_and_then (wanted_of w) (entry_here true m)) is
    ∙ ap (λ (b : Bool). if b then Some e else None) wanted in
    ap (λ (o : Option IniEntry). option_or o found) (among_first w n ns (Some name) l ls)
    ∙ ap (λ (o : Option IniEntry). option_or (option_or o (option_or (first_wanted w (entries_from n (section_behind (Some name) l.meaning) ls)) (first_among w ns (Some name) (l ∷ ls)))) found) here
among_found w (n ∷ ns) name l ls e (suc at) found is wanted place =
    let here : option_and_then (wanted_of w) (entry_here (is_in n (Some name)) l.meaning) ≡ None =
    ap (λ (b : Bool). option_and_then (wanted_of w) (entry_here b l.meaning)) (not_in name n (place.2 zero (omega arith))) in
    let rest = among_found w ns name l ls e at found is wanted (omega (arith, place.0), place.1, (λ k h. place.2 (suc k) (omega (arith, h)))) in
    let first = first_wanted w (entries_from n (section_behind (Some name) l.meaning) ls) in
    ap (λ (o : Option IniEntry). option_or o found) (among_first w n ns (Some name) l ls)
    ∙ ap (λ (o : Option IniEntry). option_or (option_or o (option_or first (first_among w ns (Some name) (l ∷ ls)))) found) here
    ∙ or_behind first (first_among w ns (Some name) (l ∷ ls)) found
    ∙ ap (option_or first) rest
    ∙ sym (or_behind first (first_among w (take at ns) (section_behind (Some name) l.meaning) ls) (Some e))
    ∙ ap (λ (o : Option IniEntry). option_or o (Some e)) (sym (among_head w n (take at ns) (section_behind (Some name) l.meaning) ls))
