use Rattle.std.proofs.Common.{◌∙◌}
use Rattle.ini_config.proofs.MeaningLaws.{text_tested}
use Rattle.ini_config.proofs.parse.is_text.Goals as goal

pub returns : goal.returns
returns c = c.is_ok.ensures.value ∙ text_tested _ _ c.args.bytes.now c.from_utf8.result c.from_utf8.ensures.cases
