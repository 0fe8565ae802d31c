use Rattle.std.proofs.Common.{◌≡◌, ◌+◌, false, drop, option_map}
use Rattle.ini_config.specs.Texts as texts
use Rattle.ini_config.proofs.pieces.literal_rest.Given as goal

abbrev pub invariant-loop-at : goal.invariant-loop-at
invariant-loop-at l = option_map (λ n. n + l.at) (texts.literal_rest l.taken (drop l.at l.bytes)) ≡ texts.literal_rest false l.bytes
