use Rattle.std.proofs.Common.{refl, sym, ◌∙◌}
use Rattle.place_index.specs.Places.{reaches}
use Rattle.place_index.proofs.Places.{was_added, was_not_added}
use Rattle.place_index.proofs.reached.add_if.Goals as goal

pub returns-in_ok-push : goal.returns-in_ok-push
returns-in_ok-push g c = λ p.
    was_added (λ q. reaches c.args.entry.now (g.P.PlacePaths.paths c.args.at.now q)) p c.args.place c.args.found.now c.push.new.self (sym c.in_ok-reaches_at.ensures ∙ c.if-branch.true) c.in_ok-push.ensures.ok

pub returns-else-branch : goal.returns-else-branch
returns-else-branch g c = λ p.
    was_not_added (λ q. reaches c.args.entry.now (g.P.PlacePaths.paths c.args.at.now q)) p c.args.place c.args.found.now c.args.found.now (sym c.in_ok-reaches_at.ensures ∙ c.if-branch.false) refl
