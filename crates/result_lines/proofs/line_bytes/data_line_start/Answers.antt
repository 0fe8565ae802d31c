use Rattle.std.proofs.Common.{◌≡◌, refl, rules, arith, w64, to_z, of_z, append-nil}
use Rattle.std.proofs.lemmas.Int.{to_z-of_z}
use Rattle.std.proofs.lemmas.List.{drop_all}
use Rattle.result_lines.proofs.line_bytes.data_line_start.Goals as goal

pub returns-clause-written : goal.returns-clause-written
returns-clause-written c =
    let same : to_z w64 (of_z w64 c.args.emission.now.value) ≡ c.args.emission.now.value = search (rules, to_z-of_z) in
    rw (
      c.number_before.ensures.written,
      c.number_before-at.ensures.written,
      c.time_before-at.ensures.written,
      c.signed_before-at.ensures.written,
      drop_all 96 c.args.line.now (omega arith),
      append-nil,
      same,
    ) refl
