use Rattle.std.proofs.Common.{◌∙◌}
use Rattle.inside_run.proofs.Written.{behind_at, behind_none}
use Rattle.inside_run.proofs.channels.behind.Goals as goal

pub returns-then-count-all : goal.returns-then-count-all
returns-then-count-all g c = c.item_at.ensures ∙ behind_at c.args.list.now c.args.count c.if-count-all.true

pub returns-else-count-all : goal.returns-else-count-all
returns-else-count-all g c = behind_none c.args.list.now c.args.count c.if-count-all.false
