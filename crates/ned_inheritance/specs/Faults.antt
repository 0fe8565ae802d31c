-- The names of what is wrong with types.
use Rattle.std.specs.Prelude.{ℕ, List, codes}
use Rattle.ned_inheritance.specs.declared.table.TypeFault.{TypeFault}
use Rattle.ned_inheritance.specs.declared.table.TypeFault.TheVariants as types

-- the name of what is wrong with types
abbrev pub type_fault_name : TypeFault → List ℕ
type_fault_name types.DuplicateType = codes "DuplicateType"
type_fault_name types.UnknownType = codes "UnknownType"
type_fault_name types.InheritanceCircle = codes "InheritanceCircle"
type_fault_name types.KindClash = codes "KindClash"
type_fault_name types.Interface = codes "Interface"
