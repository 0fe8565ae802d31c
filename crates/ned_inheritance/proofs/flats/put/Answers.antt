use Rattle.ned_inheritance.proofs.FlatLaws.{flat_added}
use Rattle.ned_inheritance.proofs.flats.put.Goals as goal

pub returns : goal.returns
returns c =
    flat_added c.args.flats.now.entries c.insert.new.self.entries c.as_bytes.result c.args.flat c.args.declared.now c.as_bytes.ensures c.in_ok-insert.ensures.entries
