use Rattle.std.proofs.Common.{sym, subst, ◌≡◌, ◌<◌, length, List, false}
use Rattle.std.specs.HashMap.{get}
use Rattle.std.specs.Str.{bytes_eq}
use Rattle.std.specs.Prelude.{slice_set}
use Rattle.path_table.specs.Groups.{AreGrouped}
use Rattle.path_table.specs.Paths.{with_dead}
use Rattle.path_table.specs.declared.ModuleAt.{ModuleAt}
use Rattle.path_table.proofs.Grouped.{module_there}
use Rattle.path_table.proofs.Numbers.{flagged}
use Rattle.path_table.proofs.PathTable.revive.Goals as goal

pub invariant_of-self : goal.invariant_of-self
invariant_of-self c =
    let ms = c.self.inside.modules.items in
    subst (λ (l : List ModuleAt). AreGrouped l (get bytes_eq c.self.inside.groups) c.start_over.new.members.items)
    (sym (flagged ms c.args.number false c.index_mut.result.now (module_there ms c.args.number c.index_mut.result.now (subst (λ (l : List ModuleAt). c.args.number < length l) (sym c.self.view_is) c.requires) c.index_mut.ensures.value)))
    (subst (λ (l : List ModuleAt). AreGrouped (with_dead l c.args.number false) (get bytes_eq c.self.inside.groups) c.start_over.new.members.items) c.as_slice.ensures.value c.start_over.ensures)

pub returns : goal.returns
returns c =
    let ms = c.self.inside.modules.items in
    subst (λ (l : List ModuleAt). slice_set ms c.args.number (record { path = c.index_mut.result.now.path; is_dead = false }) ≡ with_dead l c.args.number false) c.self.view_is
    (flagged ms c.args.number false c.index_mut.result.now (module_there ms c.args.number c.index_mut.result.now (subst (λ (l : List ModuleAt). c.args.number < length l) (sym c.self.view_is) c.requires) c.index_mut.ensures.value))
