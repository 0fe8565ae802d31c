use Rattle.std.proofs.Common.{◌≡◌, ◌<◌, List, ℕ, length, subst, sym, arith}
use Rattle.result_lines.proofs.LineLemmas.{heard_lines_at, heard_lines_end}
use Rattle.result_lines.proofs.Writing.{adds_more, adds_none}
use Rattle.result_lines.specs.VectorText.{heard_line}
use Rattle.result_lines.specs.Written.{Adds}
use Rattle.result_lines.proofs.lines.put_lines_around.Goals as goal

pub returns-then-place-vectors-clause-adds : goal.returns-then-place-vectors-clause-adds
returns-then-place-vectors-clause-adds g c =
    let end : c.next_place-place.result ≡ length c.args.vectors.now = omega arith in
    let none = heard_lines_end c.args.records.now c.args.emission.now c.args.vectors.now c.loop-number.number c.next_place-place.result c.next_place-place.ensures.from end c.next_place-place.ensures.apart in
    c.loop-number.invariant.goes_on c.loop-number.progress (g.O.Out.taken c.loop-number.out)
    (subst (λ (text : List ℕ). Adds c.loop-number.progress (g.O.Out.taken c.loop-number.out) c.loop-number.progress (g.O.Out.taken c.loop-number.out) text)
    (sym none) (adds_none c.loop-number.progress (g.O.Out.taken c.loop-number.out)))

pub loop-number-preserved : goal.loop-number-preserved
loop-number-preserved g c =
    let there : c.next_place-place.result < length c.args.vectors.now = omega arith in
    let more = heard_lines_at c.args.records.now c.args.emission.now c.args.vectors.now c.loop-number.number c.next_place-place.result c.index-vectors-place.result
    c.next_place-place.ensures.from there c.index-vectors-place.is c.next_place-place.ensures.apart in
    record {
      within = omega arith;
      goes_on = λ r e x. c.loop-number.invariant.goes_on r e (adds_more {piece = heard_line c.args.records.now c.args.emission.now c.next_place-place.result c.index-vectors-place.result} more c.put_heard_line-progress.ensures.adds x);
      short = omega arith;
    }
