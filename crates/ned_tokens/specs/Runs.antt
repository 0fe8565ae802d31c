-- Classes of bytes, and the longest run of one.
use Rattle.std.specs.Prelude.{ℕ, Bool, false, ◌&&◌, ◌||◌, List, [], ◌∷◌, nat_le, ◌==◌}
use Rattle.std.specs.Prelude.{if◌then◌else◌}
use Rattle.ned_tokens.specs.declared.runs.Class.{Class}
use Rattle.ned_tokens.specs.declared.runs.Class.TheVariants as class

abbrev pub Bytes : Type 0
Bytes = List ℕ

-- 0 to 9
abbrev pub is_digit : ℕ → Bool
is_digit b = nat_le 48 b && nat_le b 57

-- 0 to 9, A to F and a to f
abbrev pub is_hex : ℕ → Bool
is_hex b = is_digit b || (nat_le 65 b && nat_le b 70) || (nat_le 97 b && nat_le b 102)

-- A to Z and a to z
abbrev pub is_letter : ℕ → Bool
is_letter b = (nat_le 65 b && nat_le b 90) || (nat_le 97 b && nat_le b 122)

-- A name has letters, digits and `_`; spaces and tabs part quantities; with CR they part tokens.
abbrev pub is_in : Class → ℕ → Bool
is_in class.Digit b = is_digit b
is_in class.Hex b = is_hex b
is_in class.Letter b = is_letter b
is_in class.Name b = is_letter b || is_digit b || b == 95
is_in class.Space b = b == 32 || b == 9
is_in class.Blank b = b == 32 || b == 9 || b == 13

-- the longest run of this class at the front
abbrev pub run : Class → Bytes → Bytes
run c [] = []
run c (b ∷ bs) = if is_in c b then b ∷ run c bs else []

-- what is after the longest run of this class
abbrev pub behind : Class → Bytes → Bytes
behind c [] = []
behind c (b ∷ bs) = if is_in c b then behind c bs else b ∷ bs

-- the first byte is of this class
abbrev pub begins : Class → Bytes → Bool
begins c [] = false
begins c (b ∷ bs) = is_in c b
