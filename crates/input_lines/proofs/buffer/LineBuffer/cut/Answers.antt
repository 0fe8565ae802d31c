use Rattle.std.proofs.Common.{◌≡◌, ◌-◌, ◌+◌, arith, ap}
use Rattle.input_lines.proofs.Feeds.{drop_behind}
use Rattle.input_lines.proofs.buffer.LineBuffer.cut.Goals as goal

pub returns-clause-bytes : goal.returns-clause-bytes
returns-clause-bytes c =
    let b = c.self.inside in
    let all = ap (λ w. w.bytes) c.self.view_is in
    let thrown = ap (λ w. w.thrown) c.self.view_is in
    let e : c.args.end - b.thrown_length + c.args.behind ≡ (c.args.end + c.args.behind) - b.thrown_length = omega (arith, thrown, c.requires.front) in
    let rest = drop_behind b.thrown.bytes b.held.items c.args.self.now.bytes b.thrown_length (c.args.end + c.args.behind) all c.self.invariant.count
    (omega (arith, thrown, c.requires.front)) in
    rw (c.new-self-inside.ensures, c.drop-drain.ensures.items, c.drain.ensures.kept, e) rest
