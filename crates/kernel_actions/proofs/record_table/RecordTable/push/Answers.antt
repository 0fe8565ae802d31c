use Rattle.std.proofs.Common.{ap}
use Rattle.model_questions.specs.Records.{is_built}
use Rattle.kernel_actions.proofs.Places.{ids_unnamed}
use Rattle.kernel_actions.proofs.record_table.RecordTable.push.Goals as goal

pub invariant_of-self-in-Created : goal.invariant_of-self-in-Created
invariant_of-self-in-Created c = ids_unnamed c.self.inside.records c.push.new.self c.args.created c.self.inside.ids c.self.invariant (ap is_built c.in-Created.is) c.in_ok-push-in-Created.ensures.ok
