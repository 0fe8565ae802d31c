-- Laws of what sections say that they extend.
use Rattle.std.proofs.Common.{◌≡◌, ℕ, ◌<◌, Bool, true, false, List, [], ◌∷◌, length, get_or, set, ◌⊎◌, inl, inr, Option, Some, None, refl, sym, ap, ◌∙◌, arith, Bor}
use Rattle.std.specs.List.{cons_option}
use Rattle.std.specs.Option.{option_and_then, option_copied, option_or}
use Rattle.std.specs.Prelude.{is_some}
use Rattle.std.specs.Str.{bytes_eq}
use Rattle.std.proofs.lemmas.Bool.{cases_eq, false≢true}
use Rattle.std.proofs.lemmas.List.{get_or-set_same, get_or-set_other, length-set}
use Rattle.std.proofs.lemmas.Slice.Eq.{bytes_eq-Decides}
use Rattle.ini_trees.specs.declared.lines.IniEntry.{IniEntry}
use Rattle.ini_trees.specs.declared.lines.IniLine.{IniLine}
use Rattle.ini_trees.specs.declared.lines.LineMeaning.{LineMeaning}
use Rattle.ini_trees.specs.declared.lines.LineMeaning.TheVariants as line
use Rattle.ini_trees.specs.Numbers.{holds, name_at, AreApart}
use Rattle.ini_trees.specs.Said.{bases_in, line_says, said_at, said_in, Notes}
use Rattle.ini_trees.specs.Sections.{bases_said, entries_from, entry_here, first_bases, is_in, or_bases, section_behind}
use Rattle.ini_trees.specs.Words.{Bytes}
use Rattle.ini_trees.proofs.NumberedLaws.{held_at}

-- the bases of a section are those that its first entry says
pub first_said : (es : List IniEntry) → or_bases (said_in es) [] ≡ first_bases es
first_said [] = refl
first_said (e ∷ es) = go (bases_said e.meaning) refl (first_said es)
  where
    go : (o : Option (List Bytes)) → bases_said e.meaning ≡ o → or_bases (said_in es) [] ≡ first_bases es → or_bases (said_in (e ∷ es)) [] ≡ first_bases (e ∷ es)
    go None h rest = rw h rest
    go (Some bases) h rest = rw h (rw h refl)

said_cons : (o : Option IniEntry) (es : List IniEntry) → said_in (cons_option o es) ≡ option_or (option_and_then (λ (e : IniEntry). bases_said e.meaning) o) (said_in es)
said_cons None es = refl
said_cons (Some e) es = refl

-- a line, and what the lines after it say
pub said_line : (name : Bytes) (section : Option Bytes) (l : IniLine) (ls : List IniLine) → said_in (entries_from name section (l ∷ ls)) ≡ option_or (line_says name section l.meaning) (said_in (entries_from name (section_behind section l.meaning) ls))
said_line name section l ls = said_cons (entry_here (is_in name section) l.meaning) (entries_from name (section_behind section l.meaning) ls)

pub or_more : (a b c d e : Option (List Bytes)) → d ≡ option_or a b → e ≡ option_or b c → option_or d c ≡ option_or a e
or_more None b c d e h k = ap (λ (o : Option (List Bytes)). option_or o c) h ∙ sym k
or_more (Some x) b c d e h k = ap (λ (o : Option (List Bytes)). option_or o c) h

-- ---- what a line says

says_elsewhere : (name : Bytes) (section : Option Bytes) (m : LineMeaning) → is_in name section ≡ false → line_says name section m ≡ None
says_elsewhere name section m h = rw h refl

here_says : (m : LineMeaning) → option_and_then (λ (e : IniEntry). bases_said e.meaning) (entry_here true m) ≡ bases_in m
here_says line.Blank = refl
here_says line.Comment = refl
here_says (line.Section name) = refl
here_says (line.Entry e) = refl

says_here : (name : Bytes) (section : Option Bytes) (m : LineMeaning) → is_in name section ≡ true → line_says name section m ≡ bases_in m
says_here name section m h = ap (λ (b : Bool). option_and_then (λ (e : IniEntry). bases_said e.meaning) (entry_here b m)) h ∙ here_says m

-- a line that says nothing says nothing anywhere
pub says_nothing : (name : Bytes) (section : Option Bytes) (m : LineMeaning) → bases_in m ≡ None → line_says name section m ≡ None
says_nothing name section m h = go (is_in name section) refl
  where
    go : (b : Bool) → is_in name section ≡ b → line_says name section m ≡ None
    go true e = says_here name section m e ∙ h
    go false e = says_elsewhere name section m e

or_none : (a : Option (List Bytes)) → option_or a None ≡ a
or_none None = refl
or_none (Some x) = refl

-- where a line says nothing of any section, nothing has to be noted
pub notes_nothing : (names : List Bytes) (section : Option Bytes) (m : LineMeaning) (said : List (Option (Bor (List Bytes)))) → ((k : ℕ) → k < length names → line_says (name_at names k) section m ≡ None) → Notes names section m said said
notes_nothing names section m said none = (refl, λ k h. sym (ap (option_or (said_at said k)) (none k h) ∙ or_none (said_at said k)))

unlike : (a b : Bytes) → ((a ≡ b) → ⊥) → bytes_eq a b ≡ false
unlike a b h = go (bytes_eq a b) refl
  where
    go : (c : Bool) → bytes_eq a b ≡ c → bytes_eq a b ≡ false
    go true e = absurd (h ((bytes_eq-Decides a b).0 e))
    go false e = e

-- nor where no name is that of the section
pub says_of_none : (names : List Bytes) (name : Bytes) (m : LineMeaning) → holds names name ≡ false → (k : ℕ) → k < length names → line_says (name_at names k) (Some name) m ≡ None
says_of_none names name m none k h =
    says_elsewhere (name_at names k) (Some name) m (unlike name (name_at names k) (λ e. false≢true (sym none ∙ ap (holds names) e ∙ held_at names k h)))

-- of the section that has the name the line says what it says, and of no other
says_of : (names : List Bytes) (name : Bytes) (m : LineMeaning) (i : ℕ) → AreApart (name_at names) (length names) → i < length names → name_at names i ≡ name → (k : ℕ) → k < length names → ((k ≡ i) × (line_says (name_at names k) (Some name) m ≡ bases_in m)) ⊎ (((k ≡ i) → ⊥) × (line_says (name_at names k) (Some name) m ≡ None))
says_of names name m i apart within is k h =
    elim (cases_eq k i) [
      | inl same ↦ inl (same, says_here (name_at names k) (Some name) m ((bytes_eq-Decides name (name_at names k)).1 (sym is ∙ ap (name_at names) (sym same))))
      | inr other ↦ inr (other, says_elsewhere (name_at names k) (Some name) m (unlike name (name_at names k) (λ e. other (apart k i h within (sym e ∙ sym is)))))
    ]

-- where it was said before, nothing has to be noted
pub notes_known : (names : List Bytes) (name : Bytes) (m : LineMeaning) (i : ℕ) (said : List (Option (Bor (List Bytes)))) → AreApart (name_at names) (length names) → i < length names → name_at names i ≡ name → is_some (get_or said i None) ≡ true → Notes names (Some name) m said said
notes_known names name m i said apart within is known = (
  refl,
  λ k h. elim (says_of names name m i apart within is k h) [
    | inl here ↦ known_at k (ap (λ (j : ℕ). is_some (get_or said j None)) here.0 ∙ known)
    | inr there ↦ sym (ap (option_or (said_at said k)) there.1 ∙ or_none (said_at said k))
  ],
)
  where
    known_so : (o : Option (Bor (List Bytes))) (b : Option (List Bytes)) → is_some o ≡ true → option_copied o ≡ option_or (option_copied o) b
    known_so None b h = absurd (false≢true h)
    known_so (Some x) b h = refl

    known_at : (k : ℕ) → is_some (get_or said k None) ≡ true → said_at said k ≡ option_or (said_at said k) (line_says (name_at names k) (Some name) m)
    known_at k h = known_so (get_or said k None) (line_says (name_at names k) (Some name) m) h

-- and else it is noted
pub notes_new : (names : List Bytes) (name : Bytes) (m : LineMeaning) (i : ℕ) (bases : Bor (List Bytes)) (said : List (Option (Bor (List Bytes)))) → AreApart (name_at names) (length names) → length said ≡ length names → i < length names → name_at names i ≡ name → Some bases.now ≡ bases_in m → is_some (get_or said i None) ≡ false → Notes names (Some name) m said (set said i (Some bases))
notes_new names name m i bases said apart size within is says new = (
  length-set said i (Some bases),
  λ k h. elim (says_of names name m i apart within is k h) [
    | inl here ↦
        let at : get_or (set said i (Some bases)) k None ≡ Some bases = ap (λ (j : ℕ). get_or (set said i (Some bases)) j None) here.0 ∙ get_or-set_same said i (Some bases) None (omega (arith, within, size)) in
        ap option_copied at ∙ says ∙ sym here.1 ∙ sym (fresh (get_or said k None) (line_says (name_at names k) (Some name) m) (ap (λ (j : ℕ). is_some (get_or said j None)) here.0 ∙ new))
    | inr there ↦
        ap option_copied (get_or-set_other said i k (Some bases) None there.0) ∙ sym (ap (option_or (said_at said k)) there.1 ∙ or_none (said_at said k))
  ],
)
  where
    fresh : (o : Option (Bor (List Bytes))) (b : Option (List Bytes)) → is_some o ≡ false → option_or (option_copied o) b ≡ b
    fresh None b h = refl
    fresh (Some x) b h = absurd (false≢true (sym h))
