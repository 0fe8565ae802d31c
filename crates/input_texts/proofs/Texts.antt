-- Texts, one after the other.
use Rattle.std.proofs.Common.{ℕ, List, [], ◌∷◌, ◌++◌}
use Rattle.std.specs.Prelude.{String, string_bytes}
use Rattle.input_texts.specs.Folders.{AreTextsOf}

-- the text of one path more
pub one_more : {A : Type 0} (Gave : List ℕ → List ℕ → Type 0) (paths : List (String A)) (path : String A) (texts : List (List ℕ)) (text : List ℕ)
    → AreTextsOf Gave paths texts → Gave (string_bytes path) text → AreTextsOf Gave (paths ++ path ∷ []) (texts ++ text ∷ [])
one_more Gave [] path [] text are is = (is, tt)
one_more Gave [] path (t ∷ ts) text are is = absurd are
one_more Gave (p ∷ ps) path [] text are is = absurd are
one_more Gave (p ∷ ps) path (t ∷ ts) text are is = (are.0, one_more Gave ps path ts text are.1 is)
