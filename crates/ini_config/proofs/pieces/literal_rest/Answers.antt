use Rattle.std.proofs.Common.{Bool, drop, ◌+◌, option_map, sym, ap, ◌∙◌, arith}
use Rattle.ini_config.specs.Texts as texts
use Rattle.ini_config.proofs.PieceLaws.{literal_step_at, literal_ends_at, literal_none_at}
use Rattle.ini_config.proofs.pieces.literal_rest.Goals as goal

pub returns-then-ends_literal-clause-value : goal.returns-then-ends_literal-clause-value
returns-then-ends_literal-clause-value c = sym (literal_ends_at c.args.bytes.now c.loop-at.taken c.loop-at.at (omega arith) (sym c.ends_literal.ensures ∙ c.if-ends_literal.true)) ∙ c.loop-at.invariant

pub loop-at-preserved : goal.loop-at-preserved
loop-at-preserved c =
    let next = ap (λ (t : Bool). option_map (λ n. n + (c.loop-at.at + 1)) (texts.literal_rest t (drop (c.loop-at.at + 1) c.args.bytes.now))) c.takes_next-taken.ensures in
    next ∙ sym (literal_step_at c.args.bytes.now c.loop-at.taken c.loop-at.at (omega arith) (sym c.ends_literal.ensures ∙ c.if-ends_literal.false)) ∙ c.loop-at.invariant

pub returns-clause-value : goal.returns-clause-value
returns-clause-value c = sym (literal_none_at c.args.bytes.now c.loop-at.taken c.loop-at.at (omega arith)) ∙ c.loop-at.invariant
