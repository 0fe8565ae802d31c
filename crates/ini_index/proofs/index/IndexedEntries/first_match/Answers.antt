use Rattle.std.proofs.Common.{sym, ◌∙◌}
use Rattle.ini_index.proofs.Firsts.{match_is, match_within, no_match}
use Rattle.ini_index.proofs.index.IndexedEntries.first_match.Goals as goal

pub at-requires : goal.at-requires
at-requires c = match_within c.args.path.now c.self.inside.entries c.args.self.now c.in-Some.number c.self.view_is (sym c.in-Some.is ∙ c.number_of.ensures)

pub returns-in-Some : goal.returns-in-Some
returns-in-Some c = match_is c.args.path.now c.self.inside.entries c.args.self.now c.in-Some.number c.at.result.now c.self.view_is (sym c.in-Some.is ∙ c.number_of.ensures) c.at.ensures

pub returns-in-None : goal.returns-in-None
returns-in-None c = no_match c.args.path.now c.args.self.now (sym c.in-None.is ∙ c.number_of.ensures)
