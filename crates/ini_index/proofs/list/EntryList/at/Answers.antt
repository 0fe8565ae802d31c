use Rattle.std.proofs.Common.{sym, ◌∙◌, ap}
use Rattle.std.specs.Option.{option_copied}
use Rattle.ini_index.proofs.NumberLaws.{entry_is, entry_there, number_within}
use Rattle.ini_index.proofs.list.EntryList.at.Goals as goal

pub number_at-line-requires : goal.number_at-line-requires
number_at-line-requires c = number_within c.self.inside.lines.now c.args.self.now c.self.inside.numbers.now c.args.number c.self.view_is c.self.invariant c.requires

pub returns : goal.returns
returns c = entry_is c.self.inside.lines.now c.args.self.now c.self.inside.numbers.now c.args.number c.number_at-line.result c.self.view_is c.self.invariant c.number_at-line.ensures ∙ sym c.entry_on.ensures ∙ ap option_copied c.in-Some.is

pub unreachable-requires : goal.unreachable-requires
unreachable-requires c = entry_there c.self.inside.lines.now c.args.self.now c.self.inside.numbers.now c.args.number c.number_at-line.result c.self.view_is c.self.invariant c.number_at-line.ensures c.requires (sym (ap option_copied c.in-None.is) ∙ c.entry_on.ensures)
