use Rattle.std.proofs.Common.{sym, ◌∙◌, leb-true, le-leb}
use Rattle.std.proofs.lemmas.Bool.{false≢true}
use Rattle.ini_pattern.proofs.PlaceLemmas.{fixed_longest, fixed_short}
use Rattle.ini_pattern.proofs.places.fixed_within.Goals as goal

pub returns-then-is_within : goal.returns-then-is_within
returns-then-is_within c =
    fixed_longest _ _ _ _ _ c.requires c.in-Some.ensures.0 c.in-Some.ensures.1 (leb-true _ _ (sym c.is_within.ensures ∙ c.if-is_within.true))

pub returns-else-is_within : goal.returns-else-is_within
returns-else-is_within c =
    fixed_short _ _ _ _ _ c.requires c.in-Some.ensures.0 (λ short. false≢true (sym c.if-is_within.false ∙ c.is_within.ensures ∙ le-leb _ _ short))
