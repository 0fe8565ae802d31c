use Rattle.std.proofs.Common.{sym, subst}
use Rattle.ned_types.specs.WellFormed.{IsWellFormed}
use Rattle.ned_types.proofs.table.TypeTable.find.Goals as goal

pub type_near-requires : goal.type_near-requires
type_near-requires c = subst IsWellFormed (sym c.types-types.ensures.types) c.types-types.ensures.rules
