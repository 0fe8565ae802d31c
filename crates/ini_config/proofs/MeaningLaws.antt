-- Laws of what lines mean.
use Rattle.std.proofs.Common.{◌≡◌, ℕ, suc, ◌+◌, ◌≤◌, Bool, true, false, cond, not, eqb, arith, ◌&&◌, List, [], ◌∷◌, ◌++◌, length, take, drop, Option, Some, None, Result, Ok, Err, MatchResult, refl, sym, ap, subst, ◌∙◌, inl, inr, append_assoc}
use Rattle.std.specs.Prelude.{position, is_ok, if◌then◌else◌}
use Rattle.std.specs.Str.{IsUtf8, is_utf8}
use Rattle.std.proofs.lemmas.Str.{IsUtf8-from_is_utf8, is_utf8-from_IsUtf8}
use Rattle.std.proofs.lemmas.List.{append-nil}
use Rattle.ini_trees.specs.declared.lines.IniEntry.{IniEntry}
use Rattle.ini_trees.specs.declared.entry.EntryMeaning.{EntryMeaning}
use Rattle.ini_trees.specs.declared.lines.IniLine.{IniLine}
use Rattle.ini_trees.specs.declared.lines.LineMeaning.{LineMeaning}
use Rattle.ini_trees.specs.declared.lines.LineMeaning.TheVariants as line
use Rattle.ini_config.specs.declared.error.IniError.TheVariants as errors
use Rattle.ini_entries.specs.declared.reason.Reason.{Reason}
use Rattle.ini_entries.specs.declared.reason.Reason.TheVariants as reason
use Rattle.ini_entries.specs.declared.reason.Unread.{Unread}
use Rattle.ini_entries.specs.declared.reason.Unread.TheVariants as unread
use Rattle.ini_entries.specs.Reasons.{entry_reason}
use Rattle.ini_entries.specs.Texts.{Bytes, before_blanks, is_blank, after_blanks}
use Rattle.ini_config.specs.Texts.{begins_with, lines_of_ini, value_text}
use Rattle.ini_entries.specs.Meaning.{is_key, Finds, FindsMeaning, IsEntryMeaning, Tells}
use Rattle.ini_config.specs.Meaning.{IsIniText, is_value, begins_entry, IsParted, IsEntry, IsLine, IsSection, IsIniLine, AreLines, FirstBad, FirstBadOf, Settles, may_stand}
use Rattle.ini_config.specs.Meaning.{IsRefused, asks_for_file, key_reason, line_reason, parts_reason, place_reason, reason_no_entry, reason_parted_at, value_reason}
use Rattle.ini_trees.specs.Sections.{section_behind}
use Rattle.ini_entries.proofs.EntryLaws.{meaning_same}
use Rattle.ini_config.proofs.SectionLaws.{section_begins, section_no_entry, section_same}

pub text_tested : {S E : Type 0} (P : S → Type 0) (Q : E → Type 0) (bytes : Bytes) (r : Result S E) → MatchResult r (λ s. P s × IsUtf8 bytes) (λ e. ¬ (IsUtf8 bytes) × Q e) → is_ok r ≡ is_utf8 bytes
text_tested P Q bytes (Ok s) h = sym (is_utf8-from_IsUtf8 bytes h.1)
text_tested P Q bytes (Err e) h = go (is_utf8 bytes) refl
  where
    go : (t : Bool) → is_utf8 bytes ≡ t → false ≡ t
    go true e = absurd (h.0 (IsUtf8-from_is_utf8 bytes e))
    go false e = refl

-- ---- keys and values

place_same : (bytes : Bytes) (m n : ℕ) → position (λ b. eqb b 61) bytes ≡ Some m → position (λ b. eqb b 61) bytes ≡ Some n → m ≡ n
place_same bytes m n p q = cc

pub no_key : (bytes key text : Bytes) (at : ℕ) → position (λ b. eqb b 61) bytes ≡ Some at → is_key (before_blanks (take at bytes)) ≡ false → IsParted bytes key text → ⊥
no_key bytes key text at first bad p =
    let same : p.at ≡ at = place_same bytes p.at at p.first first in
    let is : key ≡ before_blanks (take at bytes) = p.before ∙ ap (λ (n : ℕ). before_blanks (take n bytes)) same in
    let good : is_key (before_blanks (take at bytes)) ≡ true = ap is_key (sym is) ∙ p.proper_key in
    absurd cc

pub no_value : (bytes key text : Bytes) (at : ℕ) → position (λ b. eqb b 61) bytes ≡ Some at → is_value (value_text (drop (at + 1) bytes)) ≡ false → IsParted bytes key text → ⊥
no_value bytes key text at first bad p =
    let same : p.at ≡ at = place_same bytes p.at at p.first first in
    let is : text ≡ value_text (drop (at + 1) bytes) = p.behind ∙ ap (λ (n : ℕ). value_text (drop (n + 1) bytes)) same in
    let good : is_value (value_text (drop (at + 1) bytes)) ≡ true = ap is_value (sym is) ∙ p.proper_value in
    absurd cc

pub parted_key : (bytes key text more other : Bytes) → IsParted bytes key text → IsParted bytes more other → more ≡ key
parted_key bytes key text more other p q = q.before ∙ ap (λ (n : ℕ). before_blanks (take n bytes)) (place_same bytes q.at p.at q.first p.first) ∙ sym p.before

pub parted_value : (bytes key text more other : Bytes) → IsParted bytes key text → IsParted bytes more other → other ≡ text
parted_value bytes key text more other p q = q.behind ∙ ap (λ (n : ℕ). value_text (drop (n + 1) bytes)) (place_same bytes q.at p.at q.first p.first) ∙ sym p.behind

-- ---- entries

pub no_entry : (bytes : Bytes) → ((key text : Bytes) → IsParted bytes key text → ⊥) → (e : IniEntry) → IsEntry bytes e → ⊥
no_entry bytes none e is = none e.key e.value is.parted

pub no_meaning : (bytes key text : Bytes) → IsParted bytes key text → ((m : EntryMeaning) → IsEntryMeaning key text m → ⊥) → (e : IniEntry) → IsEntry bytes e → ⊥
no_meaning bytes key text p none e is =
    let key-is : e.key ≡ key = parted_key bytes key text e.key e.value p is.parted in
    let value-is : e.value ≡ text = parted_value bytes key text e.key e.value p is.parted in
    none e.meaning (subst (λ (k : Bytes). IsEntryMeaning k text e.meaning) key-is (subst (λ (v : Bytes). IsEntryMeaning e.key v e.meaning) value-is is.says))

pub one_entry : (bytes : Bytes) (e other : IniEntry) → IsParted bytes e.key e.value → ((m : EntryMeaning) → IsEntryMeaning e.key e.value m → m ≡ e.meaning) → IsEntry bytes other → other ≡ e
one_entry bytes e other p only is =
    let key-is : other.key ≡ e.key = parted_key bytes e.key e.value other.key other.value p is.parted in
    let value-is : other.value ≡ e.value = parted_value bytes e.key e.value other.key other.value p is.parted in
    let says : IsEntryMeaning e.key e.value other.meaning = subst (λ (k : Bytes). IsEntryMeaning k e.value other.meaning) key-is (subst (λ (v : Bytes). IsEntryMeaning other.key v other.meaning) value-is is.says) in
    let meaning-is : other.meaning ≡ e.meaning = only other.meaning says in
    made other.key e.key other.value e.value other.meaning e.meaning key-is value-is meaning-is
  where
    made : (k l v w : Bytes) (m n : EntryMeaning) → k ≡ l → v ≡ w → m ≡ n → ◌≡◌ {A = IniEntry} (record { key = k; value = v; meaning = m }) (record { key = l; value = w; meaning = n })
    made k l v w m n p q r = cc

-- ---- texts

-- what is read of the first lines, where these are left
pub record Reached (bytes more : List Bytes) (front : List IniLine) (number : ℕ) (section : Option Bytes) : Type 0 where
  pub accepted : (reads : List IniLine) → AreLines section more reads → AreLines None bytes (front ++ reads)
  pub complete : (whole : List IniLine) → AreLines None bytes whole → (reads : List IniLine) × (whole ≡ front ++ reads) × AreLines section more reads
  pub refused : (bad : ℕ) (why : Reason) → FirstBadOf bad why number section more → FirstBadOf bad why 1 None bytes

pub start : (bytes : List Bytes) → Reached bytes bytes [] 1 None
start bytes = record { accepted = λ reads h. h; complete = λ whole h. (whole, refl, h); refused = λ bad why h. h }

pub advance : (bytes more : List Bytes) (b : Bytes) (front : List IniLine) (number : ℕ) (section : Option Bytes) (read : IniLine) → Reached bytes (b ∷ more) front number section → Tells (IsIniLine section b) (Some read) → Reached bytes more (front ++ read ∷ []) (suc number) (section_behind section read.meaning)
advance bytes more b front number section read r t = record {
  accepted = λ reads h. subst (AreLines None bytes) (sym (append_assoc front (read ∷ []) reads)) (r.accepted (read ∷ reads) (t.0, h));
  complete = λ whole h. parts whole (r.complete whole h);
  refused = λ bad why h. r.refused bad why (inr (read, t.0, h));
}
  where
    split : (whole reads : List IniLine) → whole ≡ front ++ reads → AreLines section (b ∷ more) reads → (rest : List IniLine) × (whole ≡ (front ++ read ∷ []) ++ rest) × AreLines (section_behind section read.meaning) more rest
    split whole [] e h = absurd h
    split whole (x ∷ xs) e h =
        let same : x ≡ read = t.1 x h.0 in
        (xs, e ∙ ap (λ (y : IniLine). front ++ y ∷ xs) same ∙ sym (append_assoc front (read ∷ []) xs), subst (λ (y : IniLine). AreLines (section_behind section y.meaning) more xs) same h.1)

    parts : (whole : List IniLine) → ((reads : List IniLine) × (whole ≡ front ++ reads) × AreLines section (b ∷ more) reads) → (rest : List IniLine) × (whole ≡ (front ++ read ∷ []) ++ rest) × AreLines (section_behind section read.meaning) more rest
    parts whole p = split whole p.0 p.1 p.2

pub stuck : (bytes more : List Bytes) (b : Bytes) (front : List IniLine) (number : ℕ) (section : Option Bytes) → Reached bytes (b ∷ more) front number section → Tells (IsIniLine section b) None → (why : Reason) → IsRefused section b why → Settles bytes (Err (errors.IniSyntax number why))
stuck bytes more b front number section r t why told = (r.refused number why (inl (refl, t, told)), λ whole h. let p = r.complete whole h in none p.0 p.2)
  where
    none : (reads : List IniLine) → AreLines section (b ∷ more) reads → ⊥
    none [] h = h
    none (x ∷ xs) h = t x h.0

pub finished : (bytes : List Bytes) (front : List IniLine) (number : ℕ) (section : Option Bytes) → Reached bytes [] front number section → Settles bytes (Ok front)
finished bytes front number section r = (subst (AreLines None bytes) (append-nil front) (r.accepted [] tt), λ whole h. let p = r.complete whole h in nothing whole p.0 p.1 p.2)
  where
    nothing : (whole reads : List IniLine) → whole ≡ front ++ reads → AreLines section [] reads → whole ≡ front
    nothing whole [] e h = e ∙ append-nil front
    nothing whole (x ∷ xs) e h = absurd h

pub read_all : (bytes rest : Bytes) (front : List IniLine) (number : ℕ) (section : Option Bytes) → length rest ≤ 0 → Reached (lines_of_ini bytes) (lines_of_ini rest) front number section → Settles (lines_of_ini bytes) (Ok front)
unfolding lines_of_ini
read_all bytes [] front number section h r = finished (lines_of_ini bytes) front number section r
read_all bytes (b ∷ bs) front number section h r = absurd (omega (arith, h))

-- ---- lines

pub blank_begins : (bytes : Bytes) → after_blanks bytes ≡ [] → begins_entry bytes ≡ true → ⊥
blank_begins [] e h = absurd cc
blank_begins (b ∷ bs) e h = go (is_blank b) h e
  where
    go : (t : Bool) → (not t && not (eqb b 35)) ≡ true → cond t (after_blanks bs) (b ∷ bs) ≡ [] → ⊥
    go true h e = absurd cc
    go false h e = absurd cc

pub comment_begins : (bytes rest : Bytes) → after_blanks bytes ≡ 35 ∷ rest → begins_entry bytes ≡ true → ⊥
comment_begins [] rest e h = absurd cc
comment_begins (b ∷ bs) rest e h = go (is_blank b) (eqb b 35) refl h e
  where
    go : (t u : Bool) → eqb b 35 ≡ u → (not t && not u) ≡ true → cond t (after_blanks bs) (b ∷ bs) ≡ 35 ∷ rest → ⊥
    go true u f h e = absurd cc
    go false true f h e = absurd cc
    go false false f h e = let same : b ≡ 35 = cc in let found : eqb b 35 ≡ true = rw same refl in absurd cc

-- a line that begins as an entry, and is neither a section nor an entry
pub no_line : (bytes : Bytes) → begins_entry bytes ≡ true → ((name : Bytes) → IsSection bytes name → ⊥) → ((e : IniEntry) → IsEntry bytes e → ⊥) → (m : LineMeaning) → IsLine bytes m → ⊥
no_line bytes begins other none line.Blank is = blank_begins bytes is begins
no_line bytes begins other none line.Comment is = comment_begins bytes is.0 is.1 begins
no_line bytes begins other none (line.Section name) is = other name is
no_line bytes begins other none (line.Entry e) is = none e is

-- an entry means nothing else
pub is_entry : (bytes : Bytes) (e : IniEntry) → Tells (IsEntry bytes) (Some e) → Tells (IsLine bytes) (Some (line.Entry e))
is_entry bytes e t = (t.0, only)
  where
    only : (m : LineMeaning) → IsLine bytes m → m ≡ line.Entry e
    only line.Blank is = absurd (blank_begins bytes is t.0.begins)
    only line.Comment is = absurd (comment_begins bytes is.0 is.1 t.0.begins)
    only (line.Section name) is = absurd (section_no_entry bytes name e.key e.value is t.0.parted)
    only (line.Entry f) is = ap line.Entry (t.1 f is)

-- ---- reasons

pub unparted_told : (bytes : Bytes) → position (λ b. eqb b 61) bytes ≡ None → reason_no_entry bytes ≡ (if asks_for_file bytes then reason.Include else reason.NotAnEntry)
unparted_told bytes none = ap (λ (at : Option ℕ). reason_parted_at at bytes) none

pub key_told : (bytes : Bytes) (at : ℕ) → position (λ b. eqb b 61) bytes ≡ Some at → is_key (before_blanks (take at bytes)) ≡ false → reason_no_entry bytes ≡ key_reason (before_blanks (take at bytes))
key_told bytes at first bad = ap (λ (at : Option ℕ). reason_parted_at at bytes) first ∙ by (before_blanks (take at bytes)) (value_text (drop (at + 1) bytes)) bad
  where
    by : (key text : Bytes) → is_key key ≡ false → parts_reason key text ≡ key_reason key
    by key text bad = rw bad refl

pub value_told : (bytes : Bytes) (at : ℕ) → position (λ b. eqb b 61) bytes ≡ Some at → is_key (before_blanks (take at bytes)) ≡ true → is_value (value_text (drop (at + 1) bytes)) ≡ false → reason_no_entry bytes ≡ value_reason (value_text (drop (at + 1) bytes))
value_told bytes at first good bad = ap (λ (at : Option ℕ). reason_parted_at at bytes) first ∙ by (before_blanks (take at bytes)) (value_text (drop (at + 1) bytes)) good bad
  where
    by : (key text : Bytes) → is_key key ≡ true → is_value text ≡ false → parts_reason key text ≡ value_reason text
    by key text good bad = rw good (rw bad refl)

-- a key and a value have the reason of what they say
parted_told : (bytes key text : Bytes) → IsParted bytes key text → reason_no_entry bytes ≡ entry_reason key text
parted_told bytes key text p =
    ap (λ (at : Option ℕ). reason_parted_at at bytes) p.first
    ∙ ap (λ (k : Bytes). parts_reason k (value_text (drop (p.at + 1) bytes))) (sym p.before)
    ∙ ap (λ (v : Bytes). parts_reason key v) (sym p.behind)
    ∙ by p.proper_key p.proper_value
  where
    by : is_key key ≡ true → is_value text ≡ true → parts_reason key text ≡ entry_reason key text
    by good fine = rw good (rw fine refl)

pub refused_meaning : (bytes key text : Bytes) (e : Unread) → IsParted bytes key text → FindsMeaning key text (Err e) → Finds (IsEntry bytes) (λ why. why ≡ reason_no_entry bytes) (Err e)
refused_meaning bytes key text (unread.MeansNothing why) p none = (no_meaning bytes key text p none.0, none.1 ∙ sym (parted_told bytes key text p))
refused_meaning bytes key text (unread.NoMemory error) p none = tt

pub indented_told : (bytes : Bytes) → begins_entry bytes ≡ false → reason.Indented ≡ line_reason bytes
indented_told bytes h = rw h refl

-- a line that begins as an entry
pub line_told : (bytes : Bytes) (why told : Reason) → begins_entry bytes ≡ true → why ≡ reason_no_entry bytes → told ≡ (if begins_with 91 bytes then reason.NotASection else why) → told ≡ line_reason bytes
line_told bytes why told begins is e = e ∙ ap (λ (w : Reason). if begins_with 91 bytes then reason.NotASection else w) is ∙ sym (by begins)
  where
    by : begins_entry bytes ≡ true → line_reason bytes ≡ (if begins_with 91 bytes then reason.NotASection else reason_no_entry bytes)
    by begins = rw begins refl

-- a line that means nothing is refused for its own reason
pub refused_line : (section : Option Bytes) (bytes : Bytes) (e : Unread) → Finds (IsLine bytes) (λ why. why ≡ line_reason bytes) (Err e) → Finds (IsIniLine section bytes) (IsRefused section bytes) (Err e)
refused_line section bytes (unread.MeansNothing why) none = (λ read is. none.0 read.meaning is.means, inl (none.0, none.1))
refused_line section bytes (unread.NoMemory error) none = tt

-- a line that means something is refused where it may not stand
pub misplaced : (section : Option Bytes) (bytes : Bytes) (m : LineMeaning) (why : Reason) → Tells (IsLine bytes) (Some m) → may_stand section m ≡ false → why ≡ place_reason section → Finds (IsIniLine section bytes) (IsRefused section bytes) (Err (unread.MeansNothing why))
misplaced section bytes m why t bad told = (λ read is. none read is, inr (m, t.0, bad, told))
  where
    none : (read : IniLine) → IsIniLine section bytes read → ⊥
    none read is = let good : may_stand section m ≡ true = subst (λ (n : LineMeaning). may_stand section n ≡ true) (t.1 read.meaning is.means) is.stands in absurd cc

-- ---- a text has at most one meaning

line_same : (bytes : Bytes) (m n : LineMeaning) → IsLine bytes m → IsLine bytes n → m ≡ n
line_same bytes line.Blank line.Blank p q = refl
line_same bytes line.Blank line.Comment p q = let r = q.1 in absurd cc
line_same bytes line.Blank (line.Section b) p q = absurd (blank_begins bytes p (section_begins bytes b q))
line_same bytes line.Blank (line.Entry f) p q = absurd (blank_begins bytes p q.begins)
line_same bytes line.Comment line.Blank p q = let r = p.1 in absurd cc
line_same bytes line.Comment line.Comment p q = refl
line_same bytes line.Comment (line.Section b) p q = absurd (comment_begins bytes p.0 p.1 (section_begins bytes b q))
line_same bytes line.Comment (line.Entry f) p q = absurd (comment_begins bytes p.0 p.1 q.begins)
line_same bytes (line.Section a) line.Blank p q = absurd (blank_begins bytes q (section_begins bytes a p))
line_same bytes (line.Section a) line.Comment p q = absurd (comment_begins bytes q.0 q.1 (section_begins bytes a p))
line_same bytes (line.Section a) (line.Section b) p q = ap line.Section (section_same bytes a b p q)
line_same bytes (line.Section a) (line.Entry f) p q = absurd (section_no_entry bytes a f.key f.value p q.parted)
line_same bytes (line.Entry e) line.Blank p q = absurd (blank_begins bytes q p.begins)
line_same bytes (line.Entry e) line.Comment p q = absurd (comment_begins bytes q.0 q.1 p.begins)
line_same bytes (line.Entry e) (line.Section b) p q = absurd (section_no_entry bytes b e.key e.value q p.parted)
line_same bytes (line.Entry e) (line.Entry f) p q = ap line.Entry (one_entry bytes f e q.parted (λ m is. meaning_same f.key f.value m f.meaning is q.says) p)

-- the section after a line, by its name if it is one
pub after_section : (section : Option Bytes) (bytes name text : Bytes) → IsSection bytes name → text ≡ name → (m : LineMeaning) → IsLine bytes m → Some text ≡ section_behind section m
after_section section bytes name text is same m means = ap Some same ∙ ap (section_behind section) (line_same bytes (line.Section name) m is means)

-- a line is refused for one reason at most
pub reason_same : (section : Option Bytes) (bytes : Bytes) (first second : Reason) → IsRefused section bytes first → IsRefused section bytes second → first ≡ second
reason_same section bytes first second (inl p) (inl q) = p.1 ∙ sym q.1
reason_same section bytes first second (inl p) (inr q) = absurd (p.0 q.0 q.1)
reason_same section bytes first second (inr p) (inl q) = absurd (q.0 p.0 p.1)
reason_same section bytes first second (inr p) (inr q) = p.3 ∙ sym q.3

-- a section means nothing else
pub is_section : (bytes name : Bytes) → IsSection bytes name → Tells (IsLine bytes) (Some (line.Section name))
is_section bytes name is = (is, λ m other. line_same bytes m (line.Section name) other is)

lines_same : (section : Option Bytes) (bytes : List Bytes) (xs ys : List IniLine) → AreLines section bytes xs → AreLines section bytes ys → xs ≡ ys
lines_same section [] [] [] p q = refl
lines_same section [] (x ∷ xs) ys p q = absurd p
lines_same section [] [] (y ∷ ys) p q = absurd q
lines_same section (b ∷ bs) [] ys p q = absurd p
lines_same section (b ∷ bs) (x ∷ xs) [] p q = absurd q
lines_same section (b ∷ bs) (x ∷ xs) (y ∷ ys) p q =
    let means : x.meaning ≡ y.meaning = line_same b x.meaning y.meaning p.0.means q.0.means in
    let head : x ≡ y = made x.text y.text x.meaning y.meaning (p.0.text ∙ sym q.0.text) means in
    let more : AreLines (section_behind section y.meaning) bs xs = subst (λ (m : LineMeaning). AreLines (section_behind section m) bs xs) means p.1 in
    let tail : xs ≡ ys = lines_same (section_behind section y.meaning) bs xs ys more q.1 in
    cc
  where
    made : (k l : Bytes) (v w : LineMeaning) → k ≡ l → v ≡ w → ◌≡◌ {A = IniLine} (record { text = k; meaning = v }) (record { text = l; meaning = w })
    made k l v w p q = cc

pub text_same : (bytes : Bytes) (first second : List IniLine) → IsIniText bytes first → IsIniText bytes second → first ≡ second
text_same bytes first second p q = lines_same None (lines_of_ini bytes) first second p.lines q.lines

-- ---- a text with a bad line means nothing

bad_lines : (bad : ℕ) (why : Reason) (n : ℕ) (section : Option Bytes) (bytes : List Bytes) (reads : List IniLine) → FirstBadOf bad why n section bytes → AreLines section bytes reads → ⊥
bad_lines bad why n section [] reads w p = absurd w
bad_lines bad why n section (x ∷ xs) [] w p = absurd p
bad_lines bad why n section (x ∷ xs) (y ∷ ys) (inl w) p = w.1 y p.0
bad_lines bad why n section (x ∷ xs) (y ∷ ys) (inr w) p =
    let same : w.0.meaning ≡ y.meaning = line_same x w.0.meaning y.meaning w.1.means p.0.means in
    let more : FirstBadOf bad why (suc n) (section_behind section y.meaning) xs = subst (λ (m : LineMeaning). FirstBadOf bad why (suc n) (section_behind section m) xs) same w.2 in
    bad_lines bad why (suc n) (section_behind section y.meaning) xs ys more p.1

pub bad_text : (bad : ℕ) (why : Reason) (bytes : Bytes) (reads : List IniLine) → FirstBad bad why bytes → IsIniText bytes reads → ⊥
bad_text bad why bytes reads w p = bad_lines bad why 1 None (lines_of_ini bytes) reads w p.lines
