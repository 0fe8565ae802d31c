-- Laws of section lines.
use Rattle.std.proofs.Common.{◌≡◌, ℕ, suc, Bool, true, false, cond, not, eqb, arith, ◌+◌, ◌&&◌, [], ◌∷◌, ◌++◌, length, drop, Option, Some, None, MatchOption, Bor, refl, sym, ap, ◌∙◌, inl, inr}
use Rattle.std.specs.Prelude.{position, nat_lt}
use Rattle.std.specs.List.{list_all, position_or_len}
use Rattle.std.proofs.lemmas.Bool.{eqb-true}
use Rattle.std.proofs.lemmas.Bool.Decides.{nat_tests}
use Rattle.std.proofs.lemmas.List.{append_cancel_right}
use Rattle.ini_config.specs.Meaning.{IsParted, IsSection, IsNamed, IsSectionLine, begins_entry, in_brackets, word_config}
use Rattle.ini_entries.specs.Names.{begins_name, goes_on_name, is_config_byte, is_config_name}
use Rattle.ini_entries.specs.Texts.{Bytes}

pub not_parted : (bytes key text : Bytes) → position (λ b. eqb b 61) bytes ≡ None → IsParted bytes key text → ⊥
not_parted bytes key text none p = let first = p.first in absurd cc

-- ---- no `=`

abbrev has_no_equals : Bytes → Bool
has_no_equals [] = true
has_no_equals (b ∷ bs) = cond (eqb b 61) false (has_no_equals bs)

counted : (bs : Bytes) → has_no_equals bs ≡ true → position_or_len (λ b. eqb b 61) bs ≡ length bs
counted [] h = refl
counted (b ∷ bs) h = go (eqb b 61) (λ e. counted bs e) h
  where
    go : (t : Bool) → (has_no_equals bs ≡ true → position_or_len (λ b. eqb b 61) bs ≡ length bs) → cond t false (has_no_equals bs) ≡ true → cond (not t) (1 + position_or_len (λ b. eqb b 61) bs) 0 ≡ suc (length bs)
    go true more h = absurd cc
    go false more h = let all = more h in omega (arith, all)

not_less : (n : ℕ) → nat_lt n n ≡ false
not_less n = grind (arith, nat_tests)

none_from_no_equals : (bytes : Bytes) → has_no_equals bytes ≡ true → position (λ b. eqb b 61) bytes ≡ None
none_from_no_equals bytes h = let all : position_or_len (λ b. eqb b 61) bytes ≡ length bytes = counted bytes h in rw all (rw (not_less (length bytes)) refl)

rest : (x y : Bool) → (x && y) ≡ true → y ≡ true
rest true y h = h
rest false y h = absurd cc

no_byte : (x y : Bool) → x ≡ false → (x && y) ≡ true → ⊥
no_byte true y e h = absurd cc
no_byte false y e h = absurd cc

-- the bytes of a name, and a bracket
closed_no_equals : (name : Bytes) → list_all is_config_byte name ≡ true → has_no_equals (name ++ 93 ∷ []) ≡ true
unfolding is_config_byte goes_on_name begins_name
closed_no_equals [] h = refl
closed_no_equals (b ∷ bs) h = go (eqb b 61) refl (λ e. closed_no_equals bs e) h
  where
    go : (t : Bool) → eqb b 61 ≡ t → (list_all is_config_byte bs ≡ true → has_no_equals (bs ++ 93 ∷ []) ≡ true) → (is_config_byte b && list_all is_config_byte bs) ≡ true → cond t false (has_no_equals (bs ++ 93 ∷ [])) ≡ true
    go true e more h = let is : is_config_byte 61 ≡ is_config_byte b = ap is_config_byte (sym (eqb-true b 61 e)) in absurd (no_byte (is_config_byte b) (list_all is_config_byte bs) (sym is) h)
    go false e more h = more (rest (is_config_byte b) (list_all is_config_byte bs) h)

all_bytes : (name : Bytes) → is_config_name name ≡ true → list_all is_config_byte name ≡ true
all_bytes [] h = absurd cc
all_bytes (b ∷ bs) h = h

section_no_equals : (bytes name : Bytes) → IsSection bytes name → has_no_equals bytes ≡ true
section_no_equals bytes name is = by is.1
  where
    by : IsSectionLine name bytes → has_no_equals bytes ≡ true
    by (inl e) = ap has_no_equals e ∙ closed_no_equals name (all_bytes name is.0)
    by (inr e) = ap has_no_equals e ∙ closed_no_equals name (all_bytes name is.0)

-- ---- section lines

pub section_begins : (bytes name : Bytes) → IsSection bytes name → begins_entry bytes ≡ true
section_begins bytes name is = by is.1
  where
    by : IsSectionLine name bytes → begins_entry bytes ≡ true
    by (inl e) = ap begins_entry e
    by (inr e) = ap begins_entry e

pub section_no_entry : (bytes name key text : Bytes) → IsSection bytes name → IsParted bytes key text → ⊥
section_no_entry bytes name key text is p = not_parted bytes key text (none_from_no_equals bytes (section_no_equals bytes name is)) p

-- no name begins with a word and a blank
no_config_name : (name other : Bytes) → is_config_name name ≡ true → name ≡ word_config ++ other → ⊥
unfolding is_config_byte goes_on_name begins_name
no_config_name name other h e = let bad : is_config_name (word_config ++ other) ≡ true = ap is_config_name (sym e) ∙ h in absurd cc

plain_same : (bytes a b : Bytes) → bytes ≡ in_brackets a → bytes ≡ in_brackets b → a ≡ b
plain_same bytes a b p q = append_cancel_right a b (93 ∷ []) (ap (drop 1) (sym p ∙ q))

-- a line is a section of one name at most
pub section_same : (bytes a b : Bytes) → IsSection bytes a → IsSection bytes b → a ≡ b
section_same bytes a b p q = by p.1 q.1
  where
    by : IsSectionLine a bytes → IsSectionLine b bytes → a ≡ b
    by (inl e) (inl f) = plain_same bytes a b e f
    by (inl e) (inr f) = absurd (no_config_name a b p.0 (plain_same bytes a (word_config ++ b) e f))
    by (inr e) (inl f) = absurd (no_config_name b a q.0 (plain_same bytes b (word_config ++ a) f e))
    by (inr e) (inr f) = ap (drop 7) (plain_same bytes (word_config ++ a) (word_config ++ b) e f)

-- ---- which line is a section

-- a line that is in no brackets is no section
pub no_brackets : (line : Bytes) → ((inner : Bytes) → line ≡ in_brackets inner → ⊥) → (name : Bytes) → IsSection line name → ⊥
no_brackets line none name is = by is.1
  where
    by : IsSectionLine name line → ⊥
    by (inl e) = none name e
    by (inr e) = none (word_config ++ name) e

pub section_found : (line inner name : Bytes) → line ≡ in_brackets inner → IsNamed inner name → is_config_name name ≡ true → IsSection line name
section_found line inner name e (inl front) good = (good, inr (e ∙ ap in_brackets front))
section_found line inner name e (inr same) good = (good, inl (e ∙ ap in_brackets (sym same.0)))

not_both : (name other : Bytes) → is_config_name name ≡ false → is_config_name other ≡ true → name ≡ other → ⊥
not_both name other bad good e = let same : is_config_name name ≡ is_config_name other = ap is_config_name e in absurd cc

-- a line in brackets without a name is no section
pub no_name : (line inner name : Bytes) → line ≡ in_brackets inner → IsNamed inner name → is_config_name name ≡ false → (other : Bytes) → IsSection line other → ⊥
no_name line inner name e named bad other is = by named is.1
  where
    by : IsNamed inner name → IsSectionLine other line → ⊥
    by (inl front) (inl f) = no_config_name other name is.0 (plain_same line other inner f e ∙ front)
    by (inl front) (inr f) = not_both name other bad is.0 (ap (drop 7) (sym front ∙ plain_same line inner (word_config ++ other) e f))
    by (inr same) (inl f) = not_both name other bad is.0 (same.0 ∙ plain_same line inner other e f)
    by (inr same) (inr f) = same.1 other (plain_same line inner (word_config ++ other) e f)

-- ---- prefixes and suffixes

pub bracketed : (line rest first last : Bytes) (r : Option (Bor Bytes)) → line ≡ first ++ rest → first ≡ 91 ∷ [] → last ≡ 93 ∷ [] → MatchOption r ((front : Bytes) → rest ≡ front ++ last → ⊥) (λ x. rest ≡ x.now ++ last) → MatchOption r ((inner : Bytes) → line ≡ in_brackets inner → ⊥) (λ x. line ≡ in_brackets x.now)
bracketed line rest first last None e f l h = λ inner is. h inner (ap (drop 1) (sym (e ∙ ap (λ (x : Bytes). x ++ rest) f) ∙ is) ∙ ap (λ (x : Bytes). inner ++ x) (sym l))
bracketed line rest first last (Some x) e f l h = e ∙ ap (λ (x : Bytes). x ++ rest) f ∙ ap (λ (y : Bytes). 91 ∷ y) (h ∙ ap (λ (y : Bytes). x.now ++ y) l)
