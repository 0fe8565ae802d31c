use Rattle.std.proofs.Common.{◌<◌, ◌^◌, pos, unsigned_abs, to_z, of_z, w64, arith}
use Rattle.std.proofs.Math.Pow.{pow-lt}
use Rattle.std.proofs.lemmas.Int.{fits_signed_from_abs, ints}
use Rattle.param_eval.proofs.wholes.two_to.Goals as goal

pub pow-requires : goal.pow-requires
pow-requires c = let k : unsigned_abs (to_z w64 (of_z w64 c.args.exponent)) < 63 = grind (arith, ints) in fits_signed_from_abs w64 (pos (2 ^ unsigned_abs (to_z w64 (of_z w64 c.args.exponent)))) (pow-lt k)
