use Rattle.std.proofs.Common.{sym, subst}
use Rattle.ini_index.specs.Indexed.{AreNotedFrom}
use Rattle.ini_index.proofs.Noted.{one_noted}
use Rattle.ini_index.proofs.index.note.Goals as goal

pub returns : goal.returns
returns c =
    subst (AreNotedFrom c.args.number c.args.entries.now c.insert.new.self) (sym c.set.ensures)
    (one_noted c.args.number c.args.entries.now c.at.result.now c.args.heads.now c.insert.new.self c.args.nexts.now c.in_ok-key.key c.in_ok-next.next c.at.ensures c.in_ok-key.ensures c.requires.noted c.in_ok-next.ensures.old c.in_ok-next.ensures.updates)
