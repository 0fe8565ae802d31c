use Rattle.ned_inheritance.proofs.FlatLaws.{taken_more}
use Rattle.ned_inheritance.proofs.flats.add_taken.Goals as goal

pub loop-rest-preserved : goal.loop-rest-preserved
loop-rest-preserved c =
    taken_more c.loop-rest.changed c.push.new.self c.loop-rest.rest.now c.declared-item.result _ c.taken.result c.loop-rest.flats.entries c.taken.new.flats.entries _
    c.in-len1-up.len_at_least c.declared-item.is c.taken.ensures.left c.taken.ensures.flat c.in_ok-push.ensures.ok c.loop-rest.invariant.0 c.loop-rest.invariant.1
