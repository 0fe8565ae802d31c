use Rattle.std.proofs.Common.{sym, ◌∙◌, arith}
use Rattle.std.proofs.lemmas.Bool.{eqb-true}
use Rattle.ini_config.proofs.MeaningLaws.{read_all}
use Rattle.ini_config.proofs.parse.read.Goals as goal

pub returns : goal.returns
returns c = read_all c.args.bytes.now c.lines.rest.now c.lines.lines c.lines.number c.lines.section (omega (arith, eqb-true _ 0 (sym c.is_empty.ensures ∙ c.lines-test.false))) c.lines.invariant.reached
