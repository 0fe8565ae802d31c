use Rattle.ned_tokens.proofs.AmountLaws.{part_spells, part_exists}
use Rattle.ned_tokens.proofs.amounts.exact_part.Goals as goal

pub returns : goal.returns
returns c = λ p. (part_spells c.args.factor c.args.digits.now p, part_exists c.args.factor c.args.digits.now p)
