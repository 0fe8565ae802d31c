use Rattle.kernel_actions.proofs.Lasting.{deed_left}
use Rattle.kernel.proofs.finishing.act.Goals as goal

pub returns-clause-grown : goal.returns-clause-grown
returns-clause-grown c = deed_left c.deed.result c.args.id c.args.action.now c.args.core.now c.deed.new.self c.deed.ensures.flow c.deed.ensures.err
