use Rattle.std.proofs.Common.{◌≡◌, rules, to_z, of_z}
use Rattle.std.specs.Int.{w128}
use Rattle.std.proofs.lemmas.Int.{to_z-of_z}
use Rattle.result_lines.proofs.Writing.{adds_then}
use Rattle.result_lines.proofs.lines.put_scalar_line.Goals as goal

pub returns-clause-adds : goal.returns-clause-adds
returns-clause-adds g c =
    let same : to_z w128 (of_z w128 c.args.scalar.now.value) ≡ c.args.scalar.now.value = search (rules, to_z-of_z) in
    let h = adds_then c.put-progress.ensures.adds (adds_then c.put_field-progress.ensures.adds (adds_then c.put_field-progress-2.ensures.adds c.put_wide.ensures.adds)) in
    rw (← c.as_bytes.ensures, ← c.as_bytes-2.ensures, ← same) h
