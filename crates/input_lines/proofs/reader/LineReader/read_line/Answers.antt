use Rattle.std.proofs.Common.{◌≡◌, ◌+◌, ◌<◌, arith, ap, ◌∙◌}
use Rattle.sim_values.specs.Counts.{next_count}
use Rattle.input_lines.specs.Lines.{lines_of}
use Rattle.input_lines.proofs.Reading.{reads, goes_on, tells_first, tells_last, no_room, anyway, still_clear}
use Rattle.input_lines.proofs.reader.LineReader.read_line.Goals as goal

pub returns-in_err-tell-in_default-clause-left : goal.returns-in_err-tell-in_default-clause-left
returns-in_err-tell-in_default-clause-left g c =
    let S = g.S.Source in
    let old = c.args.self.now in
    let at = c.loop-self.self in
    let read = c.read_from.new in
    let same = c.in_ok-read_from.ensures.same in
    let kept = c.in_err-tell-in_default.ensures.kept in
    anyway c.from_residual-in_err-tell-in_default.result
    (no_room (S.given old.source) (S.ends old.source) (S.failures old.source) old.buffer
    (S.given at.source) (S.ends at.source) (S.failures at.source) at.buffer c.loop-self.invariant
    (S.given read.source) (S.ends read.source) read.self c.tell.new.self c.in_ok-read_from.field-0
    c.in_ok-read_from.ensures.part same.1 same.0 kept.1 kept.0)

pub returns-in_ok-tell-in_default-clause-answers : goal.returns-in_ok-tell-in_default-clause-answers
returns-in_ok-tell-in_default-clause-answers g c =
    let S = g.S.Source in
    let old = c.args.self.now in
    let at = c.loop-self.self in
    let read = c.read_from.new in
    let part = c.in_ok-read_from.ensures.part in
    let h = reads (S.given old.source) (S.ends old.source) (S.failures old.source) old.buffer
    (S.given at.source) (S.ends at.source) (S.failures at.source) at.buffer c.loop-self.invariant
    (S.given read.source) (S.ends read.source) read.self c.in_ok-read_from.field-0
    part c.in_ok-read_from.ensures.same.1 in
    let none : c.in_ok-read_from.field-0 ≡ 0 = omega (arith, c.if-branch-eq0.true) in
    let clear = still_clear (S.given at.source) (S.ends at.source) at.buffer.bytes (S.given read.source) (S.ends read.source) read.self.bytes
    c.in_ok-read_from.field-0 part none c.loop-self.invariant.clear in
    let some : 0 < c.len.result = omega arith in
    let tells = c.in_ok-tell-in_default.ensures in
    tells_last (S.given old.source) (S.ends old.source) old.buffer (S.given read.source) h.more read.self.bytes h.gives h.bytes clear
    c.len.result c.len.ensures some (S.ends read.source) (part.ended none ∙ ap next_count c.loop-self.invariant.goes_on)
    c.in_ok-tell-in_default.field-0 c.tell.new.self tells.tells tells.bytes tells.thrown (tells.counted ∙ ap (λ n. n + lines_of c.len.result) h.counted)

pub returns-in_err-tell-clause-left : goal.returns-in_err-tell-clause-left
returns-in_err-tell-clause-left g c =
    let S = g.S.Source in
    let old = c.args.self.now in
    let at = c.loop-self.self in
    let read = c.read_from.new in
    let same = c.in_ok-read_from.ensures.same in
    let kept = c.in_err-tell.ensures.kept in
    anyway c.from_residual-in_err-tell.result
    (no_room (S.given old.source) (S.ends old.source) (S.failures old.source) old.buffer
    (S.given at.source) (S.ends at.source) (S.failures at.source) at.buffer c.loop-self.invariant
    (S.given read.source) (S.ends read.source) read.self c.tell-in-Some.new.self c.in_ok-read_from.field-0
    c.in_ok-read_from.ensures.part same.1 same.0 kept.1 kept.0)

pub returns-in-Some-clause-answers : goal.returns-in-Some-clause-answers
returns-in-Some-clause-answers g c =
    let S = g.S.Source in
    let old = c.args.self.now in
    let at = c.loop-self.self in
    let read = c.read_from.new in
    let part = c.in_ok-read_from.ensures.part in
    let h = reads (S.given old.source) (S.ends old.source) (S.failures old.source) old.buffer
    (S.given at.source) (S.ends at.source) (S.failures at.source) at.buffer c.loop-self.invariant
    (S.given read.source) (S.ends read.source) read.self c.in_ok-read_from.field-0
    part c.in_ok-read_from.ensures.same.1 in
    let some : 0 < c.in_ok-read_from.field-0 = omega (arith, c.if-branch-eq0.false) in
    let tells = c.in_ok-tell.ensures in
    tells_first (S.given old.source) (S.ends old.source) old.buffer (S.given read.source) h.more read.self.bytes h.gives h.bytes
    c.in-Some.place c.in-Some.ensures.0 (S.ends read.source) (part.goes_on some ∙ c.loop-self.invariant.goes_on)
    c.in_ok-tell.field-0 c.tell-in-Some.new.self tells.tells tells.bytes tells.thrown (tells.counted ∙ ap (λ n. n + lines_of c.in-Some.place) h.counted)

pub loop-self-preserved : goal.loop-self-preserved
loop-self-preserved g c =
    let S = g.S.Source in
    let old = c.args.self.now in
    let at = c.loop-self.self in
    let read = c.read_from.new in
    let some : 0 < c.in_ok-read_from.field-0 = omega (arith, c.if-branch-eq0.false) in
    let same = c.in_ok-read_from.ensures.same in
    let short = c.shorten-in-loop-self.ensures in
    goes_on (S.given old.source) (S.ends old.source) (S.failures old.source) old.buffer
    (S.given at.source) (S.ends at.source) (S.failures at.source) at.buffer c.loop-self.invariant
    (S.given read.source) (S.ends read.source) (S.failures read.source) read.self c.shorten-in-loop-self.new.self c.in_ok-read_from.field-0
    c.in_ok-read_from.ensures.part some c.in_ok-read_from.ensures.healthy same.1 c.in_default-find.ensures short.bytes short.counted short.thrown
