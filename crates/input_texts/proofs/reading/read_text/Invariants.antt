use Rattle.std.proofs.Common.{◌≡◌, ◌-◌, ◌++◌, ◌≤◌, length}
use Rattle.input_texts.specs.Given.{most}
use Rattle.input_texts.proofs.reading.read_text.Given as goal

abbrev pub invariant-loop-source : goal.invariant-loop-source
invariant-loop-source g l = record {
  gave : g.S.Source.given l.source ≡ g.S.Source.given l.fn.source ++ l.text.items;
  ends : g.S.Source.ends l.source ≡ g.S.Source.ends l.fn.source;
  failures : g.S.Source.failures l.source ≡ g.S.Source.failures l.fn.source;
  within : length l.text.items ≤ most;
}

abbrev pub decreases-loop-source : goal.decreases-loop-source
decreases-loop-source g l = most - length l.text.items
