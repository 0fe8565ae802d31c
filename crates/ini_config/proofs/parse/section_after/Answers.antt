use Rattle.ini_config.proofs.MeaningLaws.{after_section}
use Rattle.ini_config.proofs.parse.section_after.Goals as goal

pub returns-in_ok-from_bytes-in-Some : goal.returns-in_ok-from_bytes-in-Some
returns-in_ok-from_bytes-in-Some c = after_section c.args.section c.args.line.now c.in-Some.name.now c.in_ok-from_bytes-in-Some.field-0 c.in-Some.ensures c.in_ok-from_bytes-in-Some.ensures
