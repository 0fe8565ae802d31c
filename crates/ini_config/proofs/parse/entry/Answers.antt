use Rattle.ini_config.proofs.MeaningLaws.{no_entry}
use Rattle.ini_config.proofs.parse.entry.Goals as goal

pub returns-in-Err : goal.returns-in-Err
returns-in-Err c = (no_entry c.args.line.now c.in-Err.ensures.0, c.in-Err.ensures.1)
