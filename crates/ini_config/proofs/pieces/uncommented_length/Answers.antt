use Rattle.std.proofs.Common.{◌≡◌, ◌+◌, eqb, get_or, drop, Some, None, true, false, sym, ap, ◌∙◌, arith}
use Rattle.std.proofs.lemmas.Bool.Decides.{nat_tests}
use Rattle.ini_config.specs.Texts.{literal_rest}
use Rattle.ini_config.proofs.PieceLaws.{plain_step, comment_ends, comment_all, quote_step, quote_ends}
use Rattle.ini_config.proofs.pieces.uncommented_length.Goals as goal

pub returns-then-byte-eq35-clause-text : goal.returns-then-byte-eq35-clause-text
returns-then-byte-eq35-clause-text c =
    let hash : eqb (get_or c.args.bytes.now c.bytes.end 0) 35 ≡ true = grind (arith, nat_tests) in
    sym (comment_ends c.args.bytes.now c.bytes.end (omega arith) hash) ∙ c.bytes.invariant.text

pub returns-in_default-clause-text : goal.returns-in_default-clause-text
returns-in_default-clause-text c =
    let quote : eqb (get_or c.args.bytes.now c.bytes.end 0) 34 ≡ true = grind (arith, nat_tests) in
    let none : literal_rest false (drop (c.bytes.end + 1) c.args.bytes.now) ≡ None = ap (literal_rest false) (sym c.split_at.ensures.back) ∙ sym c.literal_rest.ensures.value ∙ c.in_default.is in
    sym (quote_ends c.args.bytes.now c.bytes.end c.plain_length.result (omega arith) quote none (rw c.split_at.ensures.back at c.plain_length.ensures.text)) ∙ c.bytes.invariant.text

pub bytes-preserved-then-byte-eq34 : goal.bytes-preserved-then-byte-eq34
bytes-preserved-then-byte-eq34 c =
    let quote : eqb (get_or c.args.bytes.now c.bytes.end 0) 34 ≡ true = grind (arith, nat_tests) in
    let some : literal_rest false (drop (c.bytes.end + 1) c.args.bytes.now) ≡ Some c.in-Some.length = ap (literal_rest false) (sym c.split_at.ensures.back) ∙ sym c.literal_rest.ensures.value ∙ c.in-Some.is in
    record {
      within = omega (arith, c.in-Some.ensures.within);
      text = sym (quote_step c.args.bytes.now c.bytes.end c.in-Some.length (omega arith) quote some) ∙ c.bytes.invariant.text;
    }

pub bytes-preserved : goal.bytes-preserved
bytes-preserved c =
    let other : eqb (get_or c.args.bytes.now c.bytes.end 0) 35 ≡ false = grind (arith, nat_tests) in
    let plain : eqb (get_or c.args.bytes.now c.bytes.end 0) 34 ≡ false = grind (arith, nat_tests) in
    record { within = omega arith; text = sym (plain_step c.args.bytes.now c.bytes.end (omega arith) other plain) ∙ c.bytes.invariant.text }

pub returns-clause-text : goal.returns-clause-text
returns-clause-text c = sym (comment_all c.args.bytes.now c.bytes.end (omega arith)) ∙ c.bytes.invariant.text
