-- Names as they are shown.
use Rattle.std.specs.Prelude.{ℕ, List, codes, if◌then◌else◌}
use Rattle.std.specs.Str.{is_utf8}

-- the bytes themselves, where they are characters
abbrev pub shown : List ℕ → List ℕ
shown bytes = if is_utf8 bytes then bytes else codes "?"
