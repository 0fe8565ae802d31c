use Rattle.std.proofs.Common.{sym, ◌∙◌}
use Rattle.ini_index.proofs.Firsts.{scanned_here, scanned_past}
use Rattle.ini_index.proofs.index.IndexedEntries.by_scan.Goals as goal

pub returns-then-speaks : goal.returns-then-speaks
returns-then-speaks c = scanned_here c.args.path.now c.self.inside.entries c.args.self.now c.loop-number.number c.at.result.now c.self.view_is c.loop-number.invariant c.at.ensures (sym c.speaks.ensures ∙ c.if-speaks.true)

pub loop-number-preserved : goal.loop-number-preserved
loop-number-preserved c = scanned_past c.args.path.now c.self.inside.entries c.args.self.now c.loop-number.number c.at.result.now c.self.view_is c.loop-number.invariant c.at.ensures (sym c.speaks.ensures ∙ c.if-speaks.false)
