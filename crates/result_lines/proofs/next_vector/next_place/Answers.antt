use Rattle.std.proofs.Common.{◌<◌, arith}
use Rattle.result_lines.proofs.Rising.{no_lower}
use Rattle.result_lines.proofs.next_vector.next_place.Goals as goal

pub returns-in-Some-clause-apart : goal.returns-in-Some-clause-apart
returns-in-Some-clause-apart c = λ k d from l.
    let short : k < c.place_from.result = omega (arith, c.max.ensures) in
    c.in-Some.ensures.2 _ (no_lower c.args.vectors.now c.args.number k _ d c.requires.rising from (omega (arith, c.place_from.ensures.within))) (c.place_from.ensures.below k d short)

pub returns-in-None-clause-apart : goal.returns-in-None-clause-apart
returns-in-None-clause-apart c = λ k d from l. c.in-None.ensures _ (no_lower c.args.vectors.now c.args.number k _ d c.requires.rising from l)
