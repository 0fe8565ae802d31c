use Rattle.std.proofs.Common.{◌-◌, drop, arith, length-drop}
use Rattle.std.proofs.lemmas.List.{take_all}
use Rattle.result_lines.proofs.lines.put_data_line.Goals as goal

pub returns-clause-adds : goal.returns-clause-adds
returns-clause-adds g c =
    let start = c.data_line_start-start.result in
    let line = c.data_line_start-start.new.line in
    rw (take_all (96 - start) (drop start line) (omega (arith, length-drop start line)), c.data_line_start-start.ensures.written) at c.put.ensures.adds
