use Rattle.result_lines.proofs.Writing.{adds_then, written}
use Rattle.result_files.proofs.files.write_scalars.Goals as goal

pub returns : goal.returns
returns g c =
    let all = adds_then c.put-progress.ensures.adds c.put_scalar_lines-progress.ensures in
    rw (c.answer_of.ensures)
    (written c.put_scalar_lines-progress.result (g.O.Out.taken c.args.out.now) (g.O.Out.taken c.put_scalar_lines-progress.new.out) _
    (rw (← c.as_bytes.ensures, ← c.as_slice.ensures) all))
