use Rattle.std.proofs.Common.{◌≡◌, ◌-◌, ◌<◌, get_or, arith, ◌∙◌}
use Rattle.std.proofs.lemmas.List.{take_rest}
use Rattle.ini_trees.proofs.ScanLaws.{last_name_is}
use Rattle.ini_trees.proofs.speaks.last_name.Goals as goal
use Rattle.ini_trees.proofs.speaks.last_name.Goals.{then-loop-start-test+else-path-start-ne46, else-loop-start-test}

pub returns : goal.returns
returns c =
    let at : 0 < c.loop-start.start → get_or c.args.path.now (c.loop-start.start - 1) 0 ≡ 46 =
    elim c.loop-start-test.branch [
      | then-loop-start-test+else-path-start-ne46 w ↦ λ pos. w.if-path-start-ne46.false
      | else-loop-start-test w ↦ λ pos. absurd (omega arith)
    ] in
    take_rest c.args.path.now c.loop-start.start ∙ last_name_is c.args.path.now c.loop-start.start c.loop-start.invariant.within c.loop-start.invariant.past at
