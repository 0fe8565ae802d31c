-- Blanks, words and lists.
use Rattle.std.specs.Prelude.{ℕ, Bool, ◌||◌, List, [], ◌∷◌, ◌==◌, if◌then◌else◌, map}
use Rattle.std.specs.List.{list_any, slice_split}
use Rattle.std.specs.Str.{bytes_eq}
pub use Rattle.ini_trees.specs.Words.{Bytes}

-- ---- blanks

-- spaces and tabs
abbrev pub is_blank : ℕ → Bool
is_blank b = b == 32 || b == 9

-- the text without the blanks at its front
abbrev pub after_blanks : Bytes → Bytes
after_blanks [] = []
after_blanks (b ∷ bs) = if is_blank b then after_blanks bs else b ∷ bs

abbrev pub unless_last_blank : ℕ → Bytes → Bytes
unless_last_blank b [] = if is_blank b then [] else b ∷ []
unless_last_blank b (c ∷ cs) = b ∷ c ∷ cs

-- the text without the blanks at its end
unfoldable pub before_blanks : Bytes → Bytes
before_blanks [] = []
before_blanks (b ∷ bs) = unless_last_blank b (before_blanks bs)

-- ---- words

-- a text is one of these
unfoldable pub is_among : Bytes → List Bytes → Bool
is_among word words = list_any (λ w. bytes_eq word w) words

-- ---- lists

-- what stands between the bytes of this kind
unfoldable pub parts_at : ℕ → Bytes → List Bytes
parts_at c bytes = slice_split (λ b. b == c) bytes

-- the text without the blanks at its front and its end
abbrev pub trimmed : Bytes → Bytes
trimmed bytes = before_blanks (after_blanks bytes)

-- the items of a list, which commas part; blanks around them don't count
abbrev pub items_of : Bytes → List Bytes
items_of bytes = map trimmed (parts_at 44 bytes)
