use Rattle.ini_index.proofs.SectionLaws.{list_set}
use Rattle.ini_index.proofs.along.add_to.Goals as goal

pub returns : goal.returns
returns c = list_set c.args.lists.now c.args.section c.index-lists-section.result c.push.new.self c.args.number c.requires c.in_ok-push.ensures.ok
