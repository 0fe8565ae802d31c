use Rattle.module_parts.specs.ScriptLaws.{script_reads}
use Rattle.module_parts.proofs.laws.scripts_read_by_listing.Goals as goal

pub returns : goal.returns
returns g c = script_reads g.S.Scripted.script
