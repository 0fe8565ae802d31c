use Rattle.std.proofs.Common.{sym, ◌∙◌}
use Rattle.ini_config.proofs.SectionLaws.{no_brackets, no_name, section_found}
use Rattle.ini_config.proofs.parse.section_name.Goals as goal

pub returns-in_default : goal.returns-in_default
returns-in_default c = no_brackets c.args.line.now c.in_default.ensures

pub returns-then-is_config_name : goal.returns-then-is_config_name
returns-then-is_config_name c = section_found c.args.line.now c.in-Some.inner.now c.without_config-name.result.now c.in-Some.ensures c.without_config-name.ensures (sym c.is_config_name.ensures ∙ c.if-is_config_name.true)

pub returns-else-is_config_name : goal.returns-else-is_config_name
returns-else-is_config_name c = no_name c.args.line.now c.in-Some.inner.now c.without_config-name.result.now c.in-Some.ensures c.without_config-name.ensures (sym c.is_config_name.ensures ∙ c.if-is_config_name.false)
