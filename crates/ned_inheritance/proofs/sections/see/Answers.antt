use Rattle.ned_inheritance.proofs.SectionLaws.{told_new, seen_more}
use Rattle.ned_inheritance.proofs.sections.see.Goals as goal

pub returns-clause-new : goal.returns-clause-new
returns-clause-new c = told_new c.args.seen.now.keys c.args.name c.in_ok-insert.field-0 c.in_ok-insert.ensures.added

pub returns-clause-names : goal.returns-clause-names
returns-clause-names c = seen_more c.args.seen.now.keys c.insert.new.self.keys c.args.name c.in_ok-insert.ensures.keys
