use Rattle.place_index.proofs.Lists.{list_there, not_pushed, pushed}
use Rattle.place_index.proofs.listing.push_number.Goals as goal

pub returns-clause-ok : goal.returns-clause-ok
returns-clause-ok c =
    pushed c.push.result c.args.lists.now.items c.args.at c.index_mut.result.now c.push.new.self c.args.number
    (list_there c.args.lists.now.items c.args.at c.index_mut.result.now c.requires c.index_mut.ensures.value) c.push.ensures.ok

pub returns-clause-err : goal.returns-clause-err
returns-clause-err c =
    not_pushed c.push.result c.args.lists.now.items c.args.at c.index_mut.result.now c.push.new.self
    (list_there c.args.lists.now.items c.args.at c.index_mut.result.now c.requires c.index_mut.ensures.value) c.push.ensures.err
