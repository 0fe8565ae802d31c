use Rattle.std.proofs.Common.{◌≤◌, length, arith, ap, sym, length-append}
use Rattle.std.proofs.lemmas.List.{take_rest}
use Rattle.input_lines.proofs.Feeds.{found, unfound}
use Rattle.input_lines.proofs.buffer.LineBuffer.find.Goals as goal

pub returns-in-Some : goal.returns-in-Some
returns-in-Some c =
    let b = c.self.inside in
    let all = ap (λ w. w.bytes) c.self.view_is in
    let thrown = ap (λ w. w.thrown) c.self.view_is in
    let long = ap length all in
    let within : c.saturating_sub-from.result ≤ length b.held.items =
    omega (arith, c.requires.within, long, c.self.invariant.count, c.saturating_sub-from.ensures, length-append b.thrown.bytes b.held.items) in
    let is = rw (c.deref.ensures.value, take_rest) at (sym c.in-Some.ensures) in (
      found b.thrown.bytes b.held.items c.args.self.now.bytes b.thrown_length c.args.searched c.saturating_sub-from.result c.in-Some.at all
          c.self.invariant.count c.self.invariant.one c.requires.clear c.saturating_sub-from.ensures within is,
      omega (arith, thrown),
    )

pub returns-in-None : goal.returns-in-None
returns-in-None c =
    let b = c.self.inside in
    let all = ap (λ w. w.bytes) c.self.view_is in
    let is = rw (c.deref.ensures.value, take_rest) at (sym c.in-None.ensures) in
    unfound b.thrown.bytes b.held.items c.args.self.now.bytes b.thrown_length c.args.searched c.saturating_sub-from.result all
    c.self.invariant.count c.self.invariant.one c.requires.clear c.saturating_sub-from.ensures is
