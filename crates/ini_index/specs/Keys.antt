-- The key by which an entry is found.
use Rattle.std.specs.Prelude.{◌==◌, Bool, false, List, [], ◌∷◌, encode_utf8, if◌then◌else◌}
use Rattle.std.specs.Char.{is_ascii}
use Rattle.std.specs.List.{flat_map, list_all, list_any}
use Rattle.std.specs.Str.{bytes_eq}
use Rattle.ini_pattern.specs.declared.piece.Piece.{Piece}
use Rattle.ini_pattern.specs.declared.piece.Piece.TheVariants as piece
use Rattle.ini_trees.specs.declared.lines.IniEntry.{IniEntry}
use Rattle.ini_trees.specs.declared.entry.EntryMeaning.{EntryMeaning}
use Rattle.ini_trees.specs.declared.entry.EntryMeaning.TheVariants as meaning
use Rattle.ini_trees.specs.Words.{Bytes}

-- a piece is an ASCII character that stands for itself
abbrev pub is_literal : Piece → Bool
is_literal (piece.Char c) = is_ascii c
is_literal _ = false

-- a piece is a dot
abbrev pub is_dot : Piece → Bool
is_dot (piece.Char c) = c == 46
is_dot _ = false

-- what stands after the last item that passes a test, or all where none does
abbrev pub behind_last : {X : Type 0} → (X → Bool) → List X → List X
behind_last test [] = []
behind_last test (x ∷ xs) =
    if list_any test xs then behind_last test xs else (if test x then xs else x ∷ xs)

-- the bytes of the character that a piece is
abbrev pub written : Piece → Bytes
written (piece.Char c) = encode_utf8 c
written _ = []

-- the bytes of the characters that pieces are
abbrev pub text_of : List Piece → Bytes
text_of pieces = flat_map written pieces

-- the text of pieces that are all characters; nothing for others
abbrev pub literal_text : List Piece → Bytes
literal_text pieces = if list_all is_literal pieces then text_of pieces else []

-- THE KEY of a pattern: its text, where it has no wildcard, or else the name that it ends with after
-- its last dot. Where that has a wildcard too, the key is empty.
abbrev pub key_in : List Piece → Bytes
key_in pieces =
    if list_all is_literal pieces then text_of pieces else literal_text (behind_last is_dot pieces)

-- the pieces of the pattern of an entry, where it has one
abbrev pub pieces_of : EntryMeaning → List Piece
pieces_of (meaning.Parameter p) = p.pattern
pieces_of (meaning.Type p) = p.pattern
pieces_of (meaning.Object o) = o.pattern
pieces_of _ = []

-- the key of an entry that says this
abbrev pub key_of : EntryMeaning → Bytes
key_of m = key_in (pieces_of m)

-- an entry has that key
abbrev pub has_key : Bytes → IniEntry → Bool
has_key key e = bytes_eq (key_of e.meaning) key
