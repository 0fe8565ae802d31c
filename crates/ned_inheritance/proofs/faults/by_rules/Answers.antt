use Rattle.ned_inheritance.proofs.BuildingLaws.{changed_apart}
use Rattle.ned_inheritance.proofs.faults.by_rules.Goals as goal

pub faultless-requires : goal.faultless-requires
faultless-requires c =
    changed_apart c.as_slice.result.now c.args.types c.in-Ok.changed c.with_changed.result c.as_slice.ensures c.in-Ok.ensures c.with_changed.ensures
