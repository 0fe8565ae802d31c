-- Where the stars of pieces are placed.
use Rattle.std.specs.Prelude.{◌≡◌, ℕ, zero, suc, ◌+◌, ◌<◌, ◌≤◌, Bool, false, not, ◌⊎◌, List, []}
use Rattle.std.specs.Prelude.{◌∷◌, ◌++◌, length, encode_utf8_all, if◌then◌else◌}
use Rattle.std.specs.Str.{chars}
use Rattle.ini_pattern.specs.declared.piece.Piece.{Piece}
use Rattle.ini_pattern.specs.declared.piece.Piece.TheVariants.{AnyPath, AnyName}
use Rattle.ini_pattern.specs.declared.places.Tried.{Tried}
use Rattle.ini_pattern.specs.declared.places.Tried.TheVariants.{Stuck, Last, Next}
use Rattle.ini_pattern.specs.Matches.{Covers}
use Rattle.ini_pattern.specs.Reading.{is_any_path, is_any_name, EndsWith, IsEnd}

-- what stands before pieces that may begin at any end of a name, or else at its beginning
abbrev pub opening : Bool → List Piece
opening anywhere = if anywhere then AnyPath ∷ [] else []

-- a piece is not `**`
abbrev pub is_no_path : Piece → Bool
is_no_path piece = not (is_any_path piece)

-- how many `*` the pieces have
abbrev pub stars : List Piece → ℕ
stars [] = 0
stars (piece ∷ pieces) = (if is_any_name piece then 1 else 0) + stars pieces

-- the pieces up to the `*` of this number, and those after it
abbrev pub to_star : ℕ → List Piece → List Piece
to_star zero pieces = []
to_star (suc number) [] = []
to_star (suc number) (piece ∷ pieces) =
    piece ∷ (if is_any_name piece then to_star number pieces else to_star (suc number) pieces)

abbrev pub after_star : ℕ → List Piece → List Piece
after_star zero pieces = pieces
after_star (suc number) [] = []
after_star (suc number) (piece ∷ pieces) = if is_any_name piece then after_star number pieces
    else after_star (suc number) pieces

-- how many bytes a text has
abbrev pub size : List ℕ → ℕ
size text = length (encode_utf8_all text)

-- a rest may be left: it is nothing if it has to be, and no longer than the floor
abbrev pub MayBeLeft : Bool → List ℕ → List ℕ → Type 0
MayBeLeft to_end floor rest = IsEnd to_end rest × (size rest ≤ size floor)

-- the longest rest that pieces can leave of a name, where it may be left
pub record IsLongestWithin (pieces : List Piece) (to_end : Bool)
    (floor name rest : List ℕ) : Type 0 where
  pub covers : Covers pieces name rest
  pub may : MayBeLeft to_end floor rest
  pub longest : (other : List ℕ) → Covers pieces name other → MayBeLeft to_end floor other
      → EndsWith rest other

-- the pieces leave no such rest
abbrev pub HasNoneWithin : List Piece → Bool → List ℕ → List ℕ → Type 0
HasNoneWithin pieces to_end floor name = (rest : List ℕ) → Covers pieces name rest
    → MayBeLeft to_end floor rest → ⊥

-- a text is the name, or stands right after a dot of it
abbrev pub IsFloor : List ℕ → List ℕ → Type 0
IsFloor name floor = (name ≡ floor) ⊎ ((front : List ℕ) × (name ≡ front ++ (46 ∷ floor)))

-- the pieces leave no rest from here, where the `*` of this number may end nowhere before the next
-- place
abbrev pub IsStuck : ℕ → List Piece → Bool → List ℕ → List ℕ → List ℕ → Type 0
IsStuck number left to_end here next floor =
    (name target rest : List ℕ) → EndsWith name here → IsFloor name next
    → Covers (to_star number left) here target → Covers (after_star number left) target rest
    → MayBeLeft to_end floor rest → EndsWith next target → ⊥

-- pieces with fewer stars leave a rest
pub record IsLastBlock (number : ℕ) (left : List Piece) (to_end : Bool)
    (here floor rest : List ℕ) : Type 0 where
  pub few : stars left < number
  pub found : IsLongestWithin left to_end floor here rest

-- the pieces before the `*` of this number leave a rest
pub record IsNextBlock (number : ℕ) (left : List Piece) (here next rest : List ℕ)
    (back : List Piece) : Type 0 where
  pub front : List Piece
  pub count : stars front + 1 ≡ number
  pub parts : left ≡ front ++ (AnyName ∷ back)
  pub found : IsLongestWithin front false next here rest

-- what comes of pieces that are tried
abbrev pub IsTried : ℕ → List Piece → Bool → List ℕ → List ℕ → List ℕ → Tried → Type 0
IsTried number left to_end here next floor Stuck = IsStuck number left to_end here next floor
IsTried number left to_end here next floor (Last rest) =
    IsLastBlock number left to_end here floor (chars rest.now)
IsTried number left to_end here next floor (Next rest back) =
    IsNextBlock number left here next (chars rest.now) back.now
