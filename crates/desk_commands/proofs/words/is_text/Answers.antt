use Rattle.std.proofs.Common.{◌≡◌, ◌∙◌, refl, sym, Bool, true, false, List, ℕ, Result, Ok, Err, is_ok, MatchResult}
use Rattle.std.specs.Str.{IsUtf8, is_utf8}
use Rattle.std.proofs.lemmas.Str.{IsUtf8-from_is_utf8, is_utf8-from_IsUtf8}
use Rattle.desk_commands.proofs.words.is_text.Goals as goal

text_tested : {S E : Type 0} (P : S → Type 0) (Q : E → Type 0) (bytes : List ℕ) (r : Result S E) → MatchResult r (λ s. P s × IsUtf8 bytes) (λ e. ¬ (IsUtf8 bytes) × Q e) → is_ok r ≡ is_utf8 bytes
text_tested P Q bytes (Ok s) h = sym (is_utf8-from_IsUtf8 bytes h.1)
text_tested P Q bytes (Err e) h = go (is_utf8 bytes) refl
  where
    go : (t : Bool) → is_utf8 bytes ≡ t → false ≡ t
    go true e = absurd (h.0 (IsUtf8-from_is_utf8 bytes e))
    go false e = refl

pub returns : goal.returns
returns c = c.is_ok.ensures.value ∙ text_tested _ _ c.args.bytes.now c.from_utf8.result c.from_utf8.ensures.cases
