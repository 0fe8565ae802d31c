use Rattle.std.proofs.Common.{◌∙◌}
use Rattle.ned_inheritance.proofs.SectionLaws.{looked_up}
use Rattle.ned_inheritance.proofs.sections.is_seen.Goals as goal

pub returns : goal.returns
returns c = c.contains.ensures ∙ looked_up c.args.name.now c.args.seen.now.keys
