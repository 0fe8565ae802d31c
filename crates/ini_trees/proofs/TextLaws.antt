-- Texts among bytes.
use Rattle.std.proofs.Common.{◌≡◌, ℕ, Bool, true, false, List, Option, None, refl, ap, ◌∙◌, option_and_then, if◌then◌else◌}
use Rattle.std.specs.Str.{IsUtf8, is_utf8}
use Rattle.std.proofs.lemmas.Str.{IsUtf8-from_is_utf8, is_utf8-from_IsUtf8}
use Rattle.ini_trees.specs.declared.lines.IniEntry.{IniEntry}
use Rattle.ini_trees.specs.declared.entry.EntryValue.{EntryValue}
use Rattle.ini_trees.specs.declared.entry.ObjectOption.{ObjectOption}
use Rattle.ini_trees.specs.Entries.{first_match, value_said, value_for, object_said, object_for}
use Rattle.ini_trees.specs.Words.{Bytes}

pub no_text : (bytes : List ℕ) → (IsUtf8 bytes → ⊥) → is_utf8 bytes ≡ false
no_text bytes apart = go (is_utf8 bytes) refl
  where
    go : (t : Bool) → is_utf8 bytes ≡ t → is_utf8 bytes ≡ false
    go true e = absurd (apart (IsUtf8-from_is_utf8 bytes e))
    go false e = e

-- what the first match of a path says, where the path is a text
said_of_text : {X : Type 0} (said : IniEntry → Option X) (text path : Bytes) (es : List IniEntry) (o : Option X) → o ≡ option_and_then said (first_match text es) → text ≡ path → IsUtf8 path → o ≡ (if is_utf8 path then option_and_then said (first_match path es) else None)
said_of_text said text path es o is same good =
    let yes = is_utf8-from_IsUtf8 path good in
    let found : option_and_then said (first_match path es) ≡ (if is_utf8 path then option_and_then said (first_match path es) else None) = rw yes refl in
    is ∙ ap (λ (t : Bytes). option_and_then said (first_match t es)) same ∙ found

-- the value of a path that is a text, or is none
pub value_of_text : (text path : Bytes) (es : List IniEntry) (o : Option EntryValue) → o ≡ option_and_then (λ (e : IniEntry). value_said e.meaning) (first_match text es) → text ≡ path → IsUtf8 path → o ≡ value_for path es
value_of_text text path es o is same good = said_of_text (λ (e : IniEntry). value_said e.meaning) text path es o is same good

pub no_value_of : (path : Bytes) (es : List IniEntry) → (IsUtf8 path → ⊥) → None ≡ value_for path es
no_value_of path es apart = let no_utf8 = no_text path apart in rw no_utf8 refl

-- an option of a path that is a text, or is none
pub option_of_text : (text path : Bytes) (es : List IniEntry) (o : Option ObjectOption) → o ≡ option_and_then (λ (e : IniEntry). object_said e.meaning) (first_match text es) → text ≡ path → IsUtf8 path → o ≡ object_for path es
option_of_text text path es o is same good = said_of_text (λ (e : IniEntry). object_said e.meaning) text path es o is same good

pub no_option_of : (path : Bytes) (es : List IniEntry) → (IsUtf8 path → ⊥) → None ≡ object_for path es
no_option_of path es apart = let no_utf8 = no_text path apart in rw no_utf8 refl
