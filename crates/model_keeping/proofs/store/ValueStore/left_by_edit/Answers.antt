use Rattle.std.proofs.Common.{subst, sym, List, ℕ}
use Rattle.edit_places.specs.Edited.{NoneIsMissed}
use Rattle.model_keeping.specs.Paths.{path_of_place}
use Rattle.model_keeping.proofs.Storing.{all_left}
use Rattle.model_keeping.proofs.store.ValueStore.left_by_edit.Goals as goal

pub returns-clause-values : goal.returns-clause-values
returns-clause-values c =
    all_left c.args.self.now.kept c.args.live.now c.args.before.now c.args.after.now c.as_slice.result.now
    (subst (λ (ps : List ℕ). NoneIsMissed (path_of_place c.args.self.now.kept.entries) c.args.before.now c.args.after.now ps) (sym c.as_slice.ensures) c.in_ok-seeds.ensures.missed)
    c.kept_is_new.ensures c.given_up.result c.given_up.ensures
