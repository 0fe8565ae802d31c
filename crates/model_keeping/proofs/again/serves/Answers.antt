use Rattle.std.proofs.Common.{◌∙◌, sym}
use Rattle.model_keeping.proofs.Standing.{same_serves}
use Rattle.model_keeping.proofs.again.serves.Goals as goal

pub returns-then-is_live : goal.returns-then-is_live
returns-then-is_live c = λ l.
    same_serves c.args.store.now.kept c.args.store.now.live c.args.closed.now c.args.since.now.entries c.args.site.now c.args.place c.requires.apart (sym c.is_live.ensures ∙ l)
