use Rattle.ini_config.proofs.MeaningLaws.{text_same}
use Rattle.ini_config.proofs.laws.one_meaning.Goals as goal

pub returns : goal.returns
returns c = text_same c.args.bytes.now
