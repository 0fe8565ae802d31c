use Rattle.std.proofs.Common.{◌+◌, ◌-◌, ◌*◌, length}
use Rattle.input_lines.specs.Limits.{longest, most_lines}
use Rattle.input_lines.proofs.Reading.{IsReading}
use Rattle.input_lines.proofs.reader.LineReader.read_line.Given as goal

abbrev pub invariant-loop-self : goal.invariant-loop-self
invariant-loop-self g l = IsReading (g.S.Source.given l.fn.self.source) (g.S.Source.ends l.fn.self.source) (g.S.Source.failures l.fn.self.source)
    l.fn.self.buffer (g.S.Source.given l.self.source) (g.S.Source.ends l.self.source) (g.S.Source.failures l.self.source) l.self.buffer

abbrev pub decreases-loop-self : goal.decreases-loop-self
decreases-loop-self g l = most_lines * longest + longest - length l.self.buffer.bytes
