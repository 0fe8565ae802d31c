use Rattle.std.proofs.Common.{sym, subst, ◌∙◌, ◌≡◌, ◌<◌, length, List, true}
use Rattle.std.specs.HashMap.{get}
use Rattle.std.specs.Str.{bytes_eq}
use Rattle.path_table.specs.Groups.{AreGrouped}
use Rattle.std.specs.Prelude.{slice_set}
use Rattle.path_table.specs.Paths.{with_dead}
use Rattle.path_table.specs.declared.ModuleAt.{ModuleAt}
use Rattle.path_table.proofs.Grouped.{buried, module_there}
use Rattle.path_table.proofs.Numbers.{flagged}
use Rattle.path_table.proofs.PathTable.bury.Goals as goal

pub settle-requires-clause-grouped : goal.settle-requires-clause-grouped
settle-requires-clause-grouped c =
    let ms = c.self.inside.modules.items in
    subst (λ (l : List ModuleAt). AreGrouped l (get bytes_eq c.self.inside.groups) c.self.inside.members.items)
    (sym (c.as_slice.ensures.value ∙ flagged ms c.args.number true c.index_mut.result.now (module_there ms c.args.number c.index_mut.result.now (subst (λ (l : List ModuleAt). c.args.number < length l) (sym c.self.view_is) c.requires) c.index_mut.ensures.value)))
    (buried ms c.args.number (get bytes_eq c.self.inside.groups) c.self.inside.members.items c.self.invariant)

pub returns : goal.returns
returns c =
    let ms = c.self.inside.modules.items in
    subst (λ (l : List ModuleAt). slice_set ms c.args.number (record { path = c.index_mut.result.now.path; is_dead = true }) ≡ with_dead l c.args.number true) c.self.view_is
    (flagged ms c.args.number true c.index_mut.result.now (module_there ms c.args.number c.index_mut.result.now (subst (λ (l : List ModuleAt). c.args.number < length l) (sym c.self.view_is) c.requires) c.index_mut.ensures.value))
