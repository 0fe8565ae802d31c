use Rattle.ned_inheritance.proofs.BuildingLaws.{complete_by, rules_by}
use Rattle.ned_inheritance.proofs.faults.flattened.Goals as goal

pub returns-clause-rules : goal.returns-clause-rules
returns-clause-rules c = rules_by c.args.types c.by_rules.result c.by_rules.ensures

pub returns-clause-complete : goal.returns-clause-complete
returns-clause-complete c = complete_by c.args.types c.by_rules.result c.by_rules.ensures
