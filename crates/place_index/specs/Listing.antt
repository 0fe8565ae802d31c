-- Numbers that are listed under texts.
use Rattle.std.specs.Prelude.{◌≡◌, ◌<◌, ℕ, true, List, [], Option, Some, None, length, slice_get}
use Rattle.ini_trees.specs.Words.{Bytes}
use Rattle.rest_index.specs.Rests.{is_among}

abbrev pub or_none : Option (List ℕ) → List ℕ
or_none None = []
or_none (Some ns) = ns

-- the list of that number, where there is one
abbrev pub list_at : List (List ℕ) → Option ℕ → List ℕ
list_at lists None = []
list_at lists (Some at) = or_none (slice_get lists at)

-- WHAT IS LISTED UNDER A TEXT, where texts have lists of these numbers
abbrev pub listed : (Bytes → Option ℕ) → List (List ℕ) → Bytes → List ℕ
listed numbers lists text = list_at lists (numbers text)

-- the list of each text is there, and no two texts have one
pub record AreApart (numbers : Bytes → Option ℕ) (lists : List (List ℕ)) : Type 0 where
  pub there : (text : Bytes) (at : ℕ) → numbers text ≡ Some at → at < length lists
  pub apart : (one other : Bytes) (at : ℕ) → numbers one ≡ Some at → numbers other ≡ Some at
      → one ≡ other

-- what was listed under a text is listed there still
abbrev pub ListsMore : (Bytes → List ℕ) → (Bytes → List ℕ) → Type 0
ListsMore before after = (text : Bytes) (n : ℕ) → is_among n (before text) ≡ true
    → is_among n (after text) ≡ true
