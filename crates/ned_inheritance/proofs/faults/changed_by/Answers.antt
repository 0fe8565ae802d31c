use Rattle.std.proofs.Common.{rules}
use Rattle.ned_inheritance.proofs.PlaceLaws.{circle_answered, circle_found}
use Rattle.ned_inheritance.proofs.faults.changed_by.Goals as goal

pub returns-in-Err : goal.returns-in-Err
returns-in-Err c =
    let types = c.args.types.now in
    let told = circle_answered types c.in_ok-order.field-0 c.in-Err.place c.in-Err.is c.in_ok-order.ensures.place c.in_ok-order.ensures.circle in
    circle_found types c.in-Err.place c.requires.apart (search rules) told.0 told.1
