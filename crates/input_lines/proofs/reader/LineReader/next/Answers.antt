use Rattle.std.proofs.Common.{refl, sym, []}
use Rattle.std.proofs.lemmas.List.{append-nil}
use Rattle.input_lines.proofs.Reading.{gives_none, tells_first}
use Rattle.input_lines.proofs.reader.LineReader.next.Goals as goal

pub returns-in_ok-tell-in-Some-clause-answers : goal.returns-in_ok-tell-in-Some-clause-answers
returns-in_ok-tell-in-Some-clause-answers g c =
    let S = g.S.Source in
    let old = c.args.self.now in
    let given = S.given old.source in
    let waiting = old.buffer.bytes in
    let tells = c.in_ok-tell-in-Some.ensures in
    tells_first given (S.ends old.source) old.buffer given [] waiting (gives_none given waiting) (sym (append-nil waiting))
    c.in-Some.place c.in-Some.ensures.0 (S.ends old.source) refl
    c.in_ok-tell-in-Some.field-0 c.tell.new.self tells.tells tells.bytes tells.thrown tells.counted
