use Rattle.std.proofs.Common.{sym, ap, ◌∙◌}
use Rattle.std.specs.Prelude.{slice_set}
use Rattle.path_table.specs.declared.groups.Group.{Group}
use Rattle.path_table.proofs.Grouped.{group_there, some_is}
use Rattle.path_table.proofs.groups.set_front.Goals as goal

pub returns : goal.returns
returns c = λ group e.
    let gs = c.args.members.now.items in
    let is = group_there gs c.args.place c.index_mut.result.now c.requires c.index_mut.ensures.value in
    ap (λ (g : Group). slice_set gs c.args.place (record { numbers = g.numbers; front = c.args.front })) (some_is c.index_mut.result.now group (sym is ∙ e))
