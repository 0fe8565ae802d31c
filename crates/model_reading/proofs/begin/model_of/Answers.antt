use Rattle.model_reading.proofs.Accepting.{is_only, rules_out}
use Rattle.model_reading.proofs.begin.model_of.Goals as goal

pub returns-clause-only : goal.returns-clause-only
returns-clause-only c = is_only c.args.texts.now c.args.ini.now c.args.config.now c.read_model.result c.read_model.ensures.accepted

pub returns-clause-complete : goal.returns-clause-complete
returns-clause-complete c = rules_out c.args.texts.now c.args.ini.now c.args.config.now c.read_model.result c.read_model.ensures.refused
