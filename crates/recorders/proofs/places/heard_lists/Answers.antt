use Rattle.std.proofs.Common.{◌∙◌}
use Rattle.recorders.proofs.Hearers.{heard_by_lent}
use Rattle.recorders.proofs.places.heard_lists.Goals as goal

pub returns : goal.returns
returns c = (c.in_ok-lists.ensures.0, λ id l. c.in_ok-lists.ensures.1 id l ∙ heard_by_lent c.args.wanted.now c.args.records.now c.in_ok-hearers.hearers.items c.as_slice.ensures.value c.in_ok-hearers.ensures id l c.args.emissions.now)
