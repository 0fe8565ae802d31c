-- Laws of edits.
use Rattle.std.proofs.Common.{◌≡◌, ℕ, ◌+◌, ◌<◌, Bool, false, arith, List, [], ◌∷◌, ◌++◌, length, Option, Some, None, MatchOption, refl, sym, ap, ◌∙◌, append_assoc}
use Rattle.std.specs.Prelude.{is_some, nat_le}
use Rattle.std.proofs.lemmas.Bool.Decides.{nat_tests}
use Rattle.std.proofs.lemmas.List.{length-append}
use Rattle.ini_trees.specs.declared.lines.IniLine.{IniLine}
use Rattle.ini_entries.specs.Texts.{Bytes}
use Rattle.ini_config.specs.Edits.{bytes_of, edit_with, edit_without, texts_of, with_between}

-- the bytes of lines and more lines
pub bytes_joined : (xs ys : List Bytes) → bytes_of (xs ++ ys) ≡ bytes_of xs ++ bytes_of ys
bytes_joined [] ys = refl
bytes_joined (x ∷ xs) ys = ap (λ (l : Bytes). x ++ 10 ∷ l) (bytes_joined xs ys) ∙ sym (append_assoc x (10 ∷ bytes_of xs) (bytes_of ys))

-- the bytes of lines with a text between them
pub bytes_between : (before : List IniLine) (text : Bytes) (behind : List IniLine) → bytes_of (with_between before text behind) ≡ (bytes_of (texts_of before) ++ text ++ 10 ∷ []) ++ bytes_of (texts_of behind)
bytes_between before text behind =
    let end : Bytes = bytes_of (texts_of behind) in
    bytes_joined (texts_of before) (text ∷ texts_of behind)
    ∙ sym (append_assoc (bytes_of (texts_of before)) text (10 ∷ end))
    ∙ sym (append_assoc (bytes_of (texts_of before) ++ text) (10 ∷ []) end)

pub size_joined : (before behind : List IniLine) → length (bytes_of (texts_of before ++ texts_of behind)) ≡ length (bytes_of (texts_of before)) + length (bytes_of (texts_of behind))
size_joined before behind = ap length (bytes_joined (texts_of before) (texts_of behind)) ∙ length-append (bytes_of (texts_of before)) (bytes_of (texts_of behind))

pub size_between : (before : List IniLine) (text : Bytes) (behind : List IniLine) → length (bytes_of (with_between before text behind)) ≡ length (bytes_of (texts_of before)) + length text + 1 + length (bytes_of (texts_of behind))
size_between before text behind =
    ap length (bytes_between before text behind)
    ∙ length-append (bytes_of (texts_of before) ++ text ++ 10 ∷ []) (bytes_of (texts_of behind))
    ∙ ap (λ (n : ℕ). n + length (bytes_of (texts_of behind))) (length-append (bytes_of (texts_of before) ++ text) (10 ∷ []) ∙ ap (λ (n : ℕ). n + 1) (length-append (bytes_of (texts_of before)) text))

-- ---- room

-- whether there is room, as a test
pub room_tested : (room size : ℕ) (r : Option ℕ) → MatchOption r (room < size) (λ left. left + size ≡ room) → is_some r ≡ nat_le size room
room_tested room size None h = grind (arith, nat_tests)
room_tested room size (Some n) h = grind (arith, nat_tests)

pub too_long : (n most : ℕ) → most < n → false ≡ nat_le n most
too_long n most h = grind (arith, nat_tests)

-- what is left has room for more, where the whole has
pub room_moved : (front back room most whole : ℕ) → whole ≡ front + back → room + front ≡ most → nat_le back room ≡ nat_le whole most
room_moved front back room most whole e f = grind (arith, nat_tests)

-- ---- equal edits

pub same_with : (before front : List IniLine) (text : Bytes) (behind back : List IniLine) (n : ℕ) (found there : Bool) → before ≡ front → behind ≡ back → found ≡ there → edit_with before text behind n found ≡ edit_with front text back n there
same_with before front text behind back n found there e f g =
    ap (λ (x : List IniLine). edit_with x text behind n found) e
    ∙ ap (λ (x : List IniLine). edit_with front text x n found) f
    ∙ ap (λ (x : Bool). edit_with front text back n x) g

pub same_without : (before front behind back : List IniLine) (n : ℕ) (found there : Bool) → before ≡ front → behind ≡ back → found ≡ there → edit_without before behind n found ≡ edit_without front back n there
same_without before front behind back n found there e f g =
    ap (λ (x : List IniLine). edit_without x behind n found) e
    ∙ ap (λ (x : List IniLine). edit_without front x n found) f
    ∙ ap (λ (x : Bool). edit_without front back n x) g
