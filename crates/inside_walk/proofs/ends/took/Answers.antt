use Rattle.std.proofs.Common.{rules, ◌≡◌, ap, ◌∙◌}
use Rattle.inside_wiring.specs.Wired.{Wired}
use Rattle.inside_walk.specs.Tasks.{continued}
use Rattle.inside_walk.proofs.ends.took.Goals as goal

pub returns-in_ok-push-in-Left-clause-leads : goal.returns-in_ok-push-in-Left-clause-leads
returns-in_ok-push-in-Left-clause-leads c =
    ap (λ (w : Wired). continued c.args.ground.now c.push.new.self (record { parts = c.args.parts; wiring = w; turns = c.args.turns; written = c.args.written })) c.in_ok-wiring.ensures
    ∙ search rules
