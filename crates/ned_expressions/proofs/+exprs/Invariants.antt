use Rattle.std.proofs.Common.{suc, ◌+◌, ◌*◌, length}
use Rattle.ned_expressions.specs.Grammar as grammar
use Rattle.ned_expressions.proofs.ExpressionLaws.{Remaining}
use Rattle.ned_expressions.proofs.+exprs.Given as goal

abbrev pub decreases-chains::binary_step : goal.decreases-chains::binary_step
decreases-chains::binary_step l = 20 * l.depth + 10

abbrev pub decreases-chains::chain : goal.decreases-chains::chain
decreases-chains::chain l = 20 * l.depth + 19

abbrev pub decreases-chains::conditional_step : goal.decreases-chains::conditional_step
decreases-chains::conditional_step l = 20 * l.depth + 10

abbrev pub decreases-chains::next_step : goal.decreases-chains::next_step
decreases-chains::next_step l = 20 * l.depth + 18

abbrev pub decreases-chains::within : goal.decreases-chains::within
decreases-chains::within l = 20 * l.depth

abbrev pub decreases-chains::boxed_within : goal.decreases-chains::boxed_within
decreases-chains::boxed_within l = 20 * l.depth + 1

abbrev pub decreases-operands::any_index : goal.decreases-operands::any_index
decreases-operands::any_index l = 20 * l.depth + 12

abbrev pub decreases-operands::brackets : goal.decreases-operands::brackets
decreases-operands::brackets l = 20 * l.depth + 2

abbrev pub decreases-operands::choice_tail : goal.decreases-operands::choice_tail
decreases-operands::choice_tail l = 20 * l.depth + 13

abbrev pub decreases-operands::chosen : goal.decreases-operands::chosen
decreases-operands::chosen l = 20 * l.depth + 15

abbrev pub decreases-operands::element : goal.decreases-operands::element
decreases-operands::element l = 20 * l.depth + 10

abbrev pub decreases-operands::exists : goal.decreases-operands::exists
decreases-operands::exists l = 20 * l.depth + 14

abbrev pub decreases-operands::group : goal.decreases-operands::group
decreases-operands::group l = 20 * l.depth + 10

abbrev pub decreases-operands::name_tail : goal.decreases-operands::name_tail
decreases-operands::name_tail l = 20 * l.depth + 11

abbrev pub decreases-operands::named : goal.decreases-operands::named
decreases-operands::named l = 20 * l.depth + 15

abbrev pub decreases-operands::operand : goal.decreases-operands::operand
decreases-operands::operand l = 20 * l.depth + 18

abbrev pub decreases-operands::optional_choice_tail : goal.decreases-operands::optional_choice_tail
decreases-operands::optional_choice_tail l = 20 * l.depth + 14

abbrev pub decreases-operands::optional_index : goal.decreases-operands::optional_index
decreases-operands::optional_index l = 20 * l.depth + 13

abbrev pub decreases-operands::optional_tail : goal.decreases-operands::optional_tail
decreases-operands::optional_tail l = 20 * l.depth + 12

abbrev pub decreases-operands::pair : goal.decreases-operands::pair
decreases-operands::pair l = 20 * l.depth + 12

abbrev pub decreases-operands::signed : goal.decreases-operands::signed
decreases-operands::signed l = 20 * l.depth + 10

abbrev pub invariant-chains::chain-steps : goal.invariant-chains::chain-steps
invariant-chains::chain-steps l = Remaining l.depth l.place l.least l.left l.rest ((grammar.expression_within (suc l.depth) l.place l.least).read l.tokens)

abbrev pub decreases-chains::chain-steps : goal.decreases-chains::chain-steps
decreases-chains::chain-steps l = length l.rest
