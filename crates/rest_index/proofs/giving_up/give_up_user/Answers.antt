use Rattle.std.proofs.Common.{◌≡◌, ◌∙◌, sym, ap, List, Bool}
use Rattle.rest_index.specs.Rests.{asked_of, is_among, is_live}
use Rattle.rest_index.proofs.Going.{not_counted_stays}
use Rattle.rest_index.proofs.giving_up.give_up_user.Goals as goal

pub returns-then-not-is_live-clause-ok : goal.returns-then-not-is_live-clause-ok
returns-then-not-is_live-clause-ok c =
    not_counted_stays (is_among c.args.place (asked_of c.args.rows.now c.args.user)) c.args.flags.now c.args.user
    (ap (λ (l : List Bool). is_live l c.args.user) (sym c.as_slice.ensures) ∙ sym c.is_live.ensures ∙ c.if-not-is_live.true)
