use Rattle.ini_entries.proofs.KeyLaws.{key_text}
use Rattle.ini_entries.proofs.meaning.key_pattern.Goals as goal

pub returns-in_default : goal.returns-in_default
returns-in_default c = absurd (c.in_default.ensures.cases.0 (key_text c.args.key.now c.requires))
