use Rattle.std.proofs.Common.{◌∙◌, sym, ap, List, Bool}
use Rattle.rest_index.specs.Following.{with_all}
use Rattle.rest_index.specs.Rests.{is_live}
use Rattle.rest_index.proofs.Back.{back_one}
use Rattle.rest_index.proofs.giving_up.give_up_one.Goals as goal

pub returns-in_ok-push-clause-back : goal.returns-in_ok-push-clause-back
returns-in_ok-push-clause-back c =
    ap (λ (l : List Bool). with_all l c.push.new.self) c.set.ensures
    ∙ ap (with_all _) c.in_ok-push.ensures.ok
    ∙ back_one c.args.flags.now.live c.args.place c.args.flags.now.given
    (ap (λ (l : List Bool). is_live l c.args.place) (sym c.as_slice.ensures) ∙ sym c.is_live.ensures ∙ c.if-is_live.true)
