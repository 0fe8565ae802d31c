use Rattle.kernel_actions.proofs.Lasting.{noted_none}
use Rattle.kernel_actions.proofs.core_part.Core.note_all.Goals as goal

pub returns-in-None-clause-noted : goal.returns-in-None-clause-noted
returns-in-None-clause-noted c = noted_none c.args.self.now c.args.looks.now _ c.first.ensures c.in-None.is
