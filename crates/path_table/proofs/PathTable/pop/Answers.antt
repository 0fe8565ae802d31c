use Rattle.std.proofs.Common.{ap, sym, subst, ◌∙◌, List}
use Rattle.std.specs.HashMap.{get}
use Rattle.std.specs.Option.{option_copied}
use Rattle.std.specs.Str.{bytes_eq}
use Rattle.path_table.specs.Groups.{AreGrouped}
use Rattle.path_table.specs.declared.ModuleAt.{ModuleAt}
use Rattle.path_table.proofs.Grouped.{never_alone, popped, there_is}
use Rattle.path_table.proofs.PathTable.pop.Goals as goal

pub drop_number-requires : goal.drop_number-requires
drop_number-requires c =
    there_is c.self.inside.modules.items (get bytes_eq c.self.inside.groups) c.self.inside.members.items c.unwrap-path.result.path c.in-Some.place.now c.self.invariant (sym c.get.ensures.value ∙ ap option_copied c.in-Some.is)

pub invariant_of-self-in-None : goal.invariant_of-self-in-None
invariant_of-self-in-None c =
    never_alone c.pop.new.self.items c.unwrap-path.result (get bytes_eq c.self.inside.groups) c.self.inside.members.items
    (subst (λ (l : List ModuleAt). AreGrouped l (get bytes_eq c.self.inside.groups) c.self.inside.members.items)
    (popped c.pop.result c.unwrap-path.result c.self.inside.modules.items c.pop.new.self.items c.pop.ensures.items c.unwrap-path.ensures) c.self.invariant)
    (sym c.get.ensures.value ∙ ap option_copied c.in-None.is)
