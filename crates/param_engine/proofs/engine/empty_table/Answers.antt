use Rattle.param_following.specs.Laws.{IsExact}
use Rattle.param_engine.specs.Working.{ruled}
use Rattle.param_engine.proofs.Going.{empty_kept}
use Rattle.param_engine.proofs.engine.empty_table.Goals as goal

pub returns-clause-kept : goal.returns-clause-kept
returns-clause-kept g c =
    let asker = c.args._asker.now in
    let rules = ruled g.A.Key.PartialEq.eq (g.A.Asker.asking asker) (g.A.Asker.circle asker) in
    let exact : IsExact rules = record { same = g.met.A.Asker.exact; self = g.met.A.Key.Eq.laws.refl } in
    empty_kept rules
    exact _ c.new.ensures.entries
