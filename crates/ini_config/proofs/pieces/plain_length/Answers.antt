use Rattle.std.proofs.Common.{◌≡◌, eqb, get_or, true, false, sym, ◌∙◌, arith}
use Rattle.std.proofs.lemmas.Bool.Decides.{nat_tests}
use Rattle.ini_config.proofs.PieceLaws.{hash_step, hash_ends, hash_all}
use Rattle.ini_config.proofs.pieces.plain_length.Goals as goal

pub bytes-preserved : goal.bytes-preserved
bytes-preserved c =
    let other : eqb (get_or c.args.bytes.now c.bytes.end 0) 35 ≡ false = grind (arith, nat_tests) in
    record { within = omega arith; text = sym (hash_step c.args.bytes.now c.bytes.end (omega arith) other) ∙ c.bytes.invariant.text }

pub returns-else-bytes-end-ne35-clause-text : goal.returns-else-bytes-end-ne35-clause-text
returns-else-bytes-end-ne35-clause-text c =
    let hash : eqb (get_or c.args.bytes.now c.bytes.end 0) 35 ≡ true = grind (arith, nat_tests) in
    sym (hash_ends c.args.bytes.now c.bytes.end (omega arith) hash) ∙ c.bytes.invariant.text

pub returns-after-bytes-clause-text : goal.returns-after-bytes-clause-text
returns-after-bytes-clause-text c = sym (hash_all c.args.bytes.now c.bytes.end (omega arith)) ∙ c.bytes.invariant.text
