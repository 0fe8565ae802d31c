use Rattle.std.proofs.Common.{◌≡◌, sym, subst, ◌∙◌}
use Rattle.std.specs.Str.{chars}
use Rattle.std.proofs.lemmas.Bool.{false≢true}
use Rattle.ini_pattern.specs.Reading.{IsEnd}
use Rattle.ini_pattern.proofs.CoverLemmas.{left_all_covers, covers_left_all, some_same, none_some}
use Rattle.ini_pattern.proofs.matching.fixed_rest.Goals as goal

pub returns-in_default : goal.returns-in_default
returns-in_default c = λ other covers stops.
    none_some (c.in_default.ensures ∙ covers_left_all _ _ _ c.requires covers)

pub returns-then-may_stop : goal.returns-then-may_stop
returns-then-may_stop c =
    (left_all_covers _ _ _ (sym c.in-Some.ensures), c.may_stop.ensures.0 c.if-may_stop.true)

pub returns-else-may_stop : goal.returns-else-may_stop
returns-else-may_stop c = λ other covers stops.
    let same : chars c.in-Some.rest.now ≡ other = some_same (c.in-Some.ensures ∙ covers_left_all _ _ _ c.requires covers) in
    false≢true (sym c.if-may_stop.false ∙ c.may_stop.ensures.1 (subst (λ l. IsEnd c.args.to_end l) (sym same) stops))
