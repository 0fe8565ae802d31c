use Rattle.std.proofs.Common.{◌≡◌, ◌<◌, ◌^◌, length}
use Rattle.ned_tokens.specs.Digits.{base_of, value_from}
use Rattle.ned_tokens.proofs.digits.value_of.Given as goal

abbrev pub invariant-digits : goal.invariant-digits
invariant-digits l = record {
  value : value_from (base_of l.fn.class) l.value l.rest ≡ value_from (base_of l.fn.class) 0 l.digits;
  fits : l.value < 2 ^ 63;
  base : l.base ≡ base_of l.fn.class;
}

abbrev pub decreases-digits : goal.decreases-digits
decreases-digits l = length l.rest
