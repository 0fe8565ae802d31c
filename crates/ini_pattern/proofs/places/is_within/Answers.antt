use Rattle.std.proofs.Common.{length, leb, sym, ap, ap₂}
use Rattle.std.proofs.lemmas.Str.{encodes-chars}
use Rattle.ini_pattern.proofs.places.is_within.Goals as goal

pub returns : goal.returns
returns c =
    ap₂ leb (ap length (sym (encodes-chars _ c.utf8.rest))) (ap length (sym (encodes-chars _ c.utf8.floor)))
