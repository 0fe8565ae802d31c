use denote.Shadow.{shadow}
use denote.Text.{Utf8}
use Rattle.std.proofs.Common.{◌≤◌}
use Rattle.check_scenarios.proofs.scenario.Scenario.read.Given as goal

-- the parts are text, and the interval is none below 1
abbrev pub invariant-loop-part : goal.invariant-loop-part
invariant-loop-part l = record {
  ini : shadow (Utf8 l.ini);
  config : shadow (Utf8 l.config);
  asked : shadow (Utf8 l.asked);
  interval : 1 ≤ l.interval;
}
