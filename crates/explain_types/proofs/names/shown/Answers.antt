use Rattle.std.proofs.Common.{◌≡◌, ◌∙◌, refl, sym, Bool, true, false, List, ℕ, if◌then◌else◌, codes}
use Rattle.std.specs.Str.{IsUtf8, is_utf8}
use Rattle.std.proofs.lemmas.Str.{IsUtf8-from_is_utf8, is_utf8-from_IsUtf8}
use Rattle.explain_types.specs.Names.{shown}
use Rattle.explain_types.proofs.names.shown.Goals as goal

-- bytes that are UTF-8 are shown as they are
shown_whole : (bytes : List ℕ) → IsUtf8 bytes → bytes ≡ shown bytes
shown_whole bytes h = rw (is_utf8-from_IsUtf8 bytes h) refl

-- and others are not shown
not_shown : (bytes : List ℕ) → ¬ (IsUtf8 bytes) → codes "?" ≡ shown bytes
not_shown bytes h = go (is_utf8 bytes) refl
  where
    go : (t : Bool) → is_utf8 bytes ≡ t → codes "?" ≡ (if t then bytes else codes "?")
    go true e = absurd (h (IsUtf8-from_is_utf8 bytes e))
    go false e = refl

pub returns-in-Ok : goal.returns-in-Ok
returns-in-Ok c = c.in-Ok.ensures.cases.0 ∙ shown_whole c.args.bytes.now c.in-Ok.ensures.cases.1

pub returns-in-Err : goal.returns-in-Err
returns-in-Err c = not_shown c.args.bytes.now c.in-Err.ensures.cases.0
