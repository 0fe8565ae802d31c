use Rattle.std.proofs.Common.{rules, of_calls}
use Rattle.std.proofs.lemmas.Fn.{always_returns_same}
use Rattle.result_lines.proofs.Rising.{by_module_answer}
use Rattle.result_lines.proofs.next_vector.are_by_module.Goals as goal

pub returns : goal.returns
returns c =
    by_module_answer c.args.vectors.now c.is_sorted_by_key.result
    (c.is_sorted_by_key.ensures.cases (λ v. v.id) (always_returns_same _ _ _ (λ a r f k. search (rules, of_calls))))
