-- The bytes of a name.
use Rattle.std.specs.Prelude.{ℕ, List}
use Rattle.module_api.specs.declared.name.Bytes.{Bytes}
use Rattle.module_api.specs.declared.name.Bytes.TheVariants.{Word, Owned}

-- those of a word of the program, or of a text
abbrev pub spelled : Bytes → List ℕ
spelled (Word word) = word.now
spelled (Owned text) = text
