use Rattle.path_table.proofs.Grouped.{group_there, pushed}
use Rattle.path_table.proofs.groups.add_number.Goals as goal

pub returns-clause-ok : goal.returns-clause-ok
returns-clause-ok c =
    pushed c.push.result c.args.members.now.items c.args.place c.index_mut.result.now c.push.new.self c.args.number
    (group_there c.args.members.now.items c.args.place c.index_mut.result.now c.requires c.index_mut.ensures.value) c.push.ensures.ok
