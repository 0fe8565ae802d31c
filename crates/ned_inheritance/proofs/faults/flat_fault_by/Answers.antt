use Rattle.ned_inheritance.proofs.ClashLaws.{clash_answered, no_clash_answered}
use Rattle.ned_inheritance.proofs.faults.flat_fault_by.Goals as goal

pub later_fault-requires-clause-fit : goal.later_fault-requires-clause-fit
later_fault-requires-clause-fit c = no_clash_answered c.args.named.now c.args.types.now c.in_ok-place.field-0 c.requires c.in_ok-place.ensures c.in-None.is

pub returns-in-Some : goal.returns-in-Some
returns-in-Some c = clash_answered c.args.named.now c.args.types.now c.in_ok-place.field-0 c.in-Some.place c.requires c.in_ok-place.ensures c.in-Some.is
