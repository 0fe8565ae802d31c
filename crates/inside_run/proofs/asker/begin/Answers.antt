use Rattle.inside_run.proofs.Moves.{type_first}
use Rattle.inside_run.proofs.asker.begin.Goals as goal

pub returns : goal.returns
returns g c = type_first (g.S.ModuleSource.setting c.args.scene.now) c.args.key.now c.in_ok-copy.field-0 c.in_ok-what.what c.in_ok-of_type.of_type c.in_default.not-Type c.in_ok-of_type.ensures c.in_ok-copy.ensures c.in_ok-what.ensures
