use Rattle.std.proofs.Common.{sym, ap, ◌∙◌}
use Rattle.std.specs.Option.{option_copied}
use Rattle.ned_types.proofs.Near.{type_near}
use Rattle.ned_types.proofs.table.type_near.Goals as goal

pub returns-in-Some : goal.returns-in-Some
returns-in-Some c = type_near c.args.types.now c.args.place c.in-Some.declared.now c.args.name.now c.requires.names (sym c.type_at.ensures ∙ ap option_copied c.in-Some.is) (sym c.is.ensures ∙ c.if-is.true)
