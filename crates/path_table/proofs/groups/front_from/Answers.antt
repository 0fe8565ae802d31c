use Rattle.std.proofs.Common.{sym, ◌∙◌}
use Rattle.path_table.proofs.Numbers.{dead_place}
use Rattle.path_table.proofs.groups.front_from.Goals as goal

pub places-preserved : goal.places-preserved
places-preserved c = λ path e h. dead_place c.args.modules.now path c.args.numbers.now c.places.place e (c.places.invariant path e h) (sym c.is_dead_at.ensures ∙ c.places-test.true)
