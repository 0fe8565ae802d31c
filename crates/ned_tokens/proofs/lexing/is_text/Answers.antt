use Rattle.std.proofs.Common.{◌≡◌, ℕ, List, Bool, true, false, refl, sym}
use Rattle.std.specs.Str.{IsUtf8, is_utf8}
use Rattle.std.proofs.lemmas.Str.{IsUtf8-from_is_utf8, is_utf8-from_IsUtf8}
use Rattle.ned_tokens.proofs.lexing.is_text.Goals as goal

not_utf8 : (bs : List ℕ) → (IsUtf8 bs → ⊥) → is_utf8 bs ≡ false
not_utf8 bs h = go (is_utf8 bs) refl
  where
    go : (b : Bool) → is_utf8 bs ≡ b → b ≡ false
    go true e = absurd (h (IsUtf8-from_is_utf8 bs e))
    go false e = refl

pub returns-in-Ok : goal.returns-in-Ok
returns-in-Ok c = sym (is_utf8-from_IsUtf8 c.args.line.now c.in-Ok.ensures.cases.1)

pub returns-in-Err : goal.returns-in-Err
returns-in-Err c = sym (not_utf8 c.args.line.now c.in-Err.ensures.cases.0)
