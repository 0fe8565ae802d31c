use Rattle.result_lines.proofs.Writing.{adds_then}
use Rattle.result_lines.proofs.lines.put_vector_line.Goals as goal

pub returns-clause-adds : goal.returns-clause-adds
returns-clause-adds g c =
    rw (← c.as_bytes.ensures, ← c.as_bytes-2.ensures)
    (adds_then c.put-progress.ensures.adds (adds_then c.put_number-progress.ensures.adds (adds_then c.put_field-progress.ensures.adds (adds_then c.put_field-progress-2.ensures.adds c.put.ensures.adds))))
