-- Texts are bytes, and a name has a meaning of its own.
use Rattle.std.specs.Prelude.{ℕ, List, codes}

abbrev pub Bytes : Type 0
Bytes = List ℕ

abbrev pub word_typename : Bytes
word_typename = codes "typename"
