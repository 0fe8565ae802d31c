-- Which lines a changed text has.
use Rattle.std.proofs.Common.{◌≡◌, ℕ, zero, suc, Bool, true, false, cond, eqb, ◌&&◌, List, [], ◌∷◌, ◌++◌, take, drop, Option, None, Result, Ok, Err, refl, sym, ap, subst, ◌∙◌}
use Rattle.std.specs.Prelude.{IfOk, map}
use Rattle.std.proofs.lemmas.Bool.{or_parts}
use Rattle.ini_config.specs.declared.error.EditError.{EditError}
use Rattle.ini_trees.specs.declared.lines.IniLine.{IniLine}
use Rattle.ini_entries.specs.Texts.{Bytes}
use Rattle.ini_config.specs.Texts.{add_front, begins_with, lines_of_ini}
use Rattle.ini_config.specs.Meaning.{AreLines, IsIniText}
use Rattle.ini_trees.specs.Sections.{section_behind}
use Rattle.ini_config.specs.Edits.{HasLines, IsEdited, bytes_of, edit_with, edit_without, holds_feed, texts_of, with_between, without_return}

-- ---- texts without LF

-- LF is in none of the texts
abbrev AreWhole : List Bytes → Type 0
AreWhole [] = Unit {0}
AreWhole (line ∷ lines) = (holds_feed line ≡ false) × AreWhole lines

-- the lines of a text have no LF
lines_whole : (bs : Bytes) → AreWhole (lines_of_ini bs)
unfolding lines_of_ini
lines_whole [] = tt
lines_whole (b ∷ bs) = go (eqb b 10) (eqb b 13 && begins_with 10 bs) refl (lines_of_ini bs) (lines_whole bs)
  where
    go : (x y : Bool) → eqb b 10 ≡ x → (ls : List Bytes) → AreWhole ls → AreWhole (cond x ([] ∷ ls) (cond y ls (add_front b ls)))
    go true y e ls h = (refl, h)
    go false true e ls h = h
    go false false e [] h = (rw e refl, tt)
    go false false e (l ∷ ls) h = (rw e h.0, h.1)

whole_take : (n : ℕ) (lines : List IniLine) → AreWhole (texts_of lines) → AreWhole (texts_of (take n lines))
whole_take zero lines h = tt
whole_take (suc n) [] h = tt
whole_take (suc n) (l ∷ ls) h = (h.0, whole_take n ls h.1)

whole_drop : (n : ℕ) (lines : List IniLine) → AreWhole (texts_of lines) → AreWhole (texts_of (drop n lines))
whole_drop zero lines h = h
whole_drop (suc n) [] h = tt
whole_drop (suc n) (l ∷ ls) h = whole_drop n ls h.1

whole_joined : (xs ys : List Bytes) → AreWhole xs → AreWhole ys → AreWhole (xs ++ ys)
whole_joined [] ys h k = k
whole_joined (x ∷ xs) ys h k = (h.0, whole_joined xs ys h.1 k)

-- ---- reading lines again

-- the texts that are read are the lines
texts_read : (section : Option Bytes) (lines : List Bytes) (reads : List IniLine) → AreLines section lines reads → texts_of reads ≡ lines
texts_read section [] [] h = refl
texts_read section [] (r ∷ rs) h = absurd h
texts_read section (b ∷ bs) [] h = absurd h
texts_read section (b ∷ bs) (r ∷ rs) h =
    ap (λ (l : Bytes). l ∷ texts_of rs) h.0.text ∙ ap (λ (ls : List Bytes). b ∷ ls) (texts_read (section_behind section r.meaning) bs rs h.1)

-- a line and its LF are read as that line, without a CR at its end
line_read : (line rest : Bytes) → holds_feed line ≡ false → lines_of_ini (line ++ 10 ∷ rest) ≡ without_return line ∷ lines_of_ini rest
unfolding lines_of_ini
line_read [] rest h = refl
line_read (b ∷ []) rest h = go (eqb b 10) (eqb b 13) (or_parts (eqb b 10) false h).0
  where
    go : (x y : Bool) → x ≡ false → cond x ([] ∷ [] ∷ lines_of_ini rest) (cond (y && true) ([] ∷ lines_of_ini rest) ((b ∷ []) ∷ lines_of_ini rest)) ≡ cond y [] (b ∷ []) ∷ lines_of_ini rest
    go true y e = absurd cc
    go false true e = refl
    go false false e = refl
line_read (b ∷ c ∷ cs) rest h =
    let both = or_parts (eqb b 10) (holds_feed (c ∷ cs)) h in
    let more = or_parts (eqb c 10) (holds_feed cs) both.1 in
    go (eqb b 10) (eqb b 13) (eqb c 10) both.0 more.0 (lines_of_ini (c ∷ cs ++ 10 ∷ rest)) (line_read (c ∷ cs) rest both.1)
  where
    go : (x y z : Bool) → x ≡ false → z ≡ false → (ls : List Bytes) → ls ≡ without_return (c ∷ cs) ∷ lines_of_ini rest → cond x ([] ∷ ls) (cond (y && z) ls (add_front b ls)) ≡ (b ∷ without_return (c ∷ cs)) ∷ lines_of_ini rest
    go true y z e f ls h = absurd cc
    go false y true e f ls h = absurd cc
    go false true false e f ls h = ap (add_front b) h
    go false false false e f ls h = ap (add_front b) h

bytes_read : (lines : List Bytes) → AreWhole lines → lines_of_ini (bytes_of lines) ≡ map without_return lines
unfolding lines_of_ini
bytes_read [] h = refl
bytes_read (l ∷ ls) h = line_read l (bytes_of ls) h.0 ∙ ap (λ (x : List Bytes). without_return l ∷ x) (bytes_read ls h.1)

-- ---- edited texts

text_whole : (bytes : Bytes) (reads : List IniLine) → IsIniText bytes reads → AreWhole (texts_of reads)
text_whole bytes reads t = subst AreWhole (sym (texts_read None (lines_of_ini bytes) reads t.lines)) (lines_whole bytes)

changed_lines : (lines : List Bytes) (edited : List IniLine) → AreWhole lines → IsIniText (bytes_of lines) edited → texts_of edited ≡ map without_return lines
changed_lines lines edited h t = texts_read None (lines_of_ini (bytes_of lines)) edited t.lines ∙ bytes_read lines h

-- the lines of a text with another line between them
pub lines_between : (text : Bytes) (k m n : ℕ) (found : Bool) (old : List IniLine) (r : Result (List IniLine) EditError) → IfOk r (IsEdited (edit_with (take k old) text (drop m old) n found)) → IfOk r (HasLines old (edit_with (take k old) text (drop m old) n found))
lines_between text k m n found old (Ok edited) made = λ bytes t.
    let whole = text_whole bytes old t in
    changed_lines (with_between (take k old) text (drop m old)) edited (whole_joined (texts_of (take k old)) (text ∷ texts_of (drop m old)) (whole_take k old whole) (made.whole, whole_drop m old whole)) made.means
lines_between text k m n found old (Err e) made = tt

-- the lines of a text without some
pub lines_joined : (k m n : ℕ) (found : Bool) (old : List IniLine) (r : Result (List IniLine) EditError) → IfOk r (IsEdited (edit_without (take k old) (drop m old) n found)) → IfOk r (HasLines old (edit_without (take k old) (drop m old) n found))
lines_joined k m n found old (Ok edited) made = λ bytes t.
    let whole = text_whole bytes old t in
    changed_lines (texts_of (take k old) ++ texts_of (drop m old)) edited (whole_joined (texts_of (take k old)) (texts_of (drop m old)) (whole_take k old whole) (whole_drop m old whole)) made.means
lines_joined k m n found old (Err e) made = tt
