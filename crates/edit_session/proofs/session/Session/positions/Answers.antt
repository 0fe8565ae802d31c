use Rattle.std.proofs.Common.{◌≤◌, List, ℕ, length, sym, subst}
use Rattle.checkpoints.specs.Stored.{counts_in, most_stored}
use Rattle.checkpoint_runs.proofs.Most.{few_stored}
use Rattle.edit_session.proofs.session.Session.positions.Goals as goal

pub returns-clause-few : goal.returns-clause-few
returns-clause-few g c = λ sound.
    subst (λ (ns : List ℕ). length ns ≤ most_stored) (sym c.counts.ensures) (few_stored (counts_in c.args.self.now.runner.positions) sound.kept.stored)
