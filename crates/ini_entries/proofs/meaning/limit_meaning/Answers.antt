use Rattle.std.proofs.Common.{ℕ, Some, refl, subst}
use Rattle.ned_expressions.specs.ExpressionText.{IsExpressionText}
use Rattle.ini_entries.specs.Meaning.{Tells}
use Rattle.ini_entries.specs.Options.{time_literal, word_time_limit}
use Rattle.ini_trees.specs.declared.entry.EntryMeaning.TheVariants as meaning
use Rattle.ini_entries.proofs.EntryLaws.{no_limit, only_meaning}
use Rattle.ini_entries.proofs.meaning.limit_meaning.Goals as goal

pub returns-in-None : goal.returns-in-None
returns-in-None c = (no_limit c.args.value.now (subst (Tells (λ (ps : ℕ). IsExpressionText c.args.value.now (time_literal ps))) c.in-None.is c.in_ok-time_limit.ensures), refl)

pub returns-in-Some : goal.returns-in-Some
returns-in-Some c =
    let found : Tells (λ (ps : ℕ). IsExpressionText c.args.value.now (time_literal ps)) (Some c.in-Some.ps) = subst (Tells (λ (ps : ℕ). IsExpressionText c.args.value.now (time_literal ps))) c.in-Some.is c.in_ok-time_limit.ensures in
    only_meaning word_time_limit c.args.value.now (meaning.TimeLimit c.in-Some.ps) (refl, found.0)
