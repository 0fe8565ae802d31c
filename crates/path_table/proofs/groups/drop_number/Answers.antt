use Rattle.path_table.proofs.Grouped.{dropped, group_there}
use Rattle.path_table.proofs.groups.drop_number.Goals as goal

pub returns : goal.returns
returns c = λ modules last groups own a.
    dropped modules last groups c.args.members.now.items c.args.place c.index_mut.result.now own
    (group_there c.args.members.now.items c.args.place c.index_mut.result.now c.requires c.index_mut.ensures.value) c.drop_last.new.group c.drop_last.ensures a
