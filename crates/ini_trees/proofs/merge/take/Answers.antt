use Rattle.std.proofs.Common.{◌≡◌, ◌<◌, ℕ, List, set, get_or, length, sym, ap, ◌∙◌, subst, arith}
use Rattle.std.proofs.lemmas.List.Elements.{All-set}
use Rattle.ini_trees.specs.Counts.{same_number, AreBelow, AreAllBelow}
use Rattle.ini_trees.specs.Merge.{without_head}
use Rattle.ini_trees.proofs.MergeLaws.{behind_at, behind-set, without_below, taken_more, taken_next}
use Rattle.ini_trees.proofs.merge.take.Goals as goal

pub take_head-requires-clause-counted : goal.take_head-requires-clause-counted
take_head-requires-clause-counted c = λ k h.
    let within : c.loop-rest.rest-index < length c.loop-rest.rests = omega arith in
    let at = behind_at k c.loop-rest.rests c.loop-rest.rest-index c.rest-item.result within in
    let counted = c.loop-rest.invariant.counted k h in
    omega arith

pub loop-rest-preserved : goal.loop-rest-preserved
loop-rest-preserved c =
    let rests = c.loop-rest.rests in
    let i = c.loop-rest.rest-index in
    let rest = c.rest-item.result in
    let within : i < length rests = omega arith in
    let waiting : length c.take_head.new.waiting ≡ length c.loop-rest.waiting = c.take_head.auto.waiting in
    let more = taken_more c.args.number i rests c.args.rests.now rest c.loop-rest-test.true c.loop-rest.invariant.taken in
    let new = c.take_head.ensures.rest in
    record {
      below =
          All-set (AreBelow (length c.take_head.new.waiting)) rests i c.take_head.new.rest
          (subst (λ (n : ℕ). AreBelow n c.take_head.new.rest) (sym waiting) (subst (AreBelow (length c.loop-rest.waiting)) (sym new) (without_below (length c.loop-rest.waiting) c.args.number (get_or rests i rest) (c.loop-rest.invariant.below i rest within))))
          (subst (λ (n : ℕ). AreAllBelow n rests) (sym waiting) c.loop-rest.invariant.below);
      counted = λ k h.
          let short : k < length c.loop-rest.waiting = omega arith in
          let was = c.loop-rest.invariant.counted k short in
          let is = c.take_head.ensures.counts k short in
          let change = behind-set k rests i c.take_head.new.rest rest within in
          omega arith;
      taken = ap (λ (l : List ℕ). set rests i l) (new ∙ ap (λ (l : List ℕ). without_head same_number c.args.number l) more) ∙ taken_next c.args.number i rests c.args.rests.now rest c.loop-rest-test.true c.loop-rest.invariant.taken;
    }
