-- Lists that are cut.
use Rattle.std.proofs.Common.{◌≡◌, ℕ, ◌+◌, ◌<◌, List, [], ◌∷◌, ◌++◌, Option, Some, None, MatchOption, length, take, sym, ap, ◌∙◌, arith}
use Rattle.std.proofs.lemmas.List.{take-append-le, length_push}

-- where more were left than are kept, the first ones are the same
pub popped_first : {X : Type 0} (left : ℕ) (found : Option X) (old new : List X) → MatchOption found ((old ≡ []) × (new ≡ [])) (λ last. old ≡ new ++ last ∷ []) → left < length old → take left new ≡ take left old
popped_first left None old new h less = let none : length old ≡ 0 = ap length h.0 in absurd (omega (arith, none, less))
popped_first left (Some last) old new h less =
    let more : length old ≡ length new + 1 = ap length h ∙ length_push new last in
    sym (ap (take left) h ∙ take-append-le left new (last ∷ []) (omega (arith, more, less)))

-- and there is one less
pub popped_less : {X : Type 0} (left : ℕ) (found : Option X) (old new : List X) → MatchOption found ((old ≡ []) × (new ≡ [])) (λ last. old ≡ new ++ last ∷ []) → left < length old → length new < length old
popped_less left None old new h less = let none : length old ≡ 0 = ap length h.0 in absurd (omega (arith, none, less))
popped_less left (Some last) old new h less = let more : length old ≡ length new + 1 = ap length h ∙ length_push new last in omega (arith, more)
