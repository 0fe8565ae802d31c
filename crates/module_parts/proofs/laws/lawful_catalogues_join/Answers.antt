use Rattle.module_parts.specs.JoinedLaws.{joined_lawful}
use Rattle.module_parts.proofs.laws.lawful_catalogues_join.Goals as goal

pub returns : goal.returns
returns c = joined_lawful
