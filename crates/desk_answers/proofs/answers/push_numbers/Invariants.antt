use Rattle.std.proofs.Common.{◌≡◌, ◌++◌, drop}
use Rattle.desk_client.specs.Answers.{numbers_text}
use Rattle.desk_answers.proofs.answers.push_numbers.Given as goal

-- what is added, and what is left to be added
abbrev pub invariant-loop-number : goal.invariant-loop-number
invariant-loop-number l = l.text ++ numbers_text (drop l.number-index l.numbers) ≡ l.fn.text ++ numbers_text l.numbers
