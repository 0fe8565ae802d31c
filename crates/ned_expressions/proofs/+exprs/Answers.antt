use Rattle.std.proofs.Common.{suc, sym, arith}
use Rattle.ned_expressions.specs.Grammar as grammar
use Rattle.ned_expressions.proofs.ExpressionLaws.{chain_begins, chain_first_fails, chain_goes_on, chain_fails, chain_ends, chain_shorter, within-none, index-step, index-none}
use Rattle.ned_expressions.proofs.+exprs.Goals as goal

pub chains::within-returns-then-depth-eq0 : goal.chains::within-returns-then-depth-eq0
chains::within-returns-then-depth-eq0 t c = rw (within-none c.args.depth c.args.place c.args.least c.args.tokens.now c.if-depth-eq0.true) c.atom.ensures

pub operands::optional_index-returns-then-depth-eq0 : goal.operands::optional_index-returns-then-depth-eq0
operands::optional_index-returns-then-depth-eq0 t c = index-none c.args.depth c.args.tokens.now c.if-depth-eq0.true

pub operands::optional_index-returns : goal.operands::optional_index-returns
operands::optional_index-returns t c = rw (index-step c.args.depth (omega arith)) c.any_index.ensures

pub chains::chain-returns-in-Err : goal.chains::chain-returns-in-Err
chains::chain-returns-in-Err t c = chain_first_fails c.args.depth c.args.place c.args.least c.in-Err.refusal c.args.tokens.now c.in-Err.ensures

pub chains::chain-steps-init : goal.chains::chain-steps-init
chains::chain-steps-init t c = chain_begins c.args.depth c.args.place c.args.least c.args.tokens.now c.in-Ok.it.0 c.in-Ok.it.1.now c.in-Ok.ensures

pub chains::chain-steps-smaller : goal.chains::chain-steps-smaller
chains::chain-steps-smaller t c = chain_shorter c.args.depth c.args.place c.args.least c.steps.rest.now c.in-Some.level c.in-Ok-next_step.it.0 c.in-Ok-next_step.it.1.now c.in-Ok-next_step.ensures

pub chains::chain-steps-preserved : goal.chains::chain-steps-preserved
chains::chain-steps-preserved t c = rw (c.in_ok-left.ensures {u = tt}) (chain_goes_on c.args.depth c.args.place c.args.least c.steps.left c.steps.rest.now c.in-Some.level c.in-Ok-next_step.it.0 c.in-Ok-next_step.it.1.now ((grammar.expression_within (suc c.args.depth) c.args.place c.args.least).read c.args.tokens.now) (sym c.in-Some.ensures) c.in-Ok-next_step.ensures c.steps.invariant)

pub chains::chain-returns-in-Err-next_step : goal.chains::chain-returns-in-Err-next_step
chains::chain-returns-in-Err-next_step t c = rw c.err_dropping.ensures (chain_fails c.args.depth c.args.place c.args.least c.in-Err-next_step.refusal c.steps.left c.steps.rest.now c.in-Some.level ((grammar.expression_within (suc c.args.depth) c.args.place c.args.least).read c.args.tokens.now) (sym c.in-Some.ensures) c.in-Err-next_step.ensures c.steps.invariant)

pub chains::chain-returns : goal.chains::chain-returns
chains::chain-returns t c = chain_ends c.args.depth c.args.place c.args.least c.steps.left c.steps.rest.now ((grammar.expression_within (suc c.args.depth) c.args.place c.args.least).read c.args.tokens.now) (sym c.in_default.ensures) c.steps.invariant
