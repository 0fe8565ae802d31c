use Rattle.std.proofs.Common.{◌≡◌, ◌++◌, List, ℕ, MatchOption, subst}
use Rattle.std.proofs.lemmas.Bool.Decides.{Decides-eqb}
use Rattle.std.proofs.lemmas.Slice.Eq.{strip_prefix_is, strip_suffix_is}
use Rattle.ini_config.proofs.SectionLaws.{bracketed}
use Rattle.ini_config.proofs.parse.in_brackets.Goals as goal

pub returns-in-Some : goal.returns-in-Some
returns-in-Some c =
    let front = strip_prefix_is Decides-eqb c.args.line.now c.as_slice.result.now c.strip_prefix.result c.strip_prefix.ensures.cases in
    let begins : c.args.line.now ≡ c.as_slice.result.now ++ c.in-Some.rest.now = subst (λ r. MatchOption r ((rest : List ℕ) → c.args.line.now ≡ c.as_slice.result.now ++ rest → ⊥) (λ x. c.args.line.now ≡ c.as_slice.result.now ++ x.now)) c.in-Some.is front in
    let back = strip_suffix_is Decides-eqb c.in-Some.rest.now c.as_slice-in-Some.result.now c.strip_suffix.result c.strip_suffix.ensures.cases in
    bracketed c.args.line.now c.in-Some.rest.now c.as_slice.result.now c.as_slice-in-Some.result.now c.strip_suffix.result begins c.as_slice.ensures c.as_slice-in-Some.ensures back
