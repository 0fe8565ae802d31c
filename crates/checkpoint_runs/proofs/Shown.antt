-- What calls show of modules stays right where a run goes back to as many modules.
use Rattle.std.proofs.Common.{◌≡◌, List, [], ◌∷◌, ◌++◌, length, sym, ap, ◌∙◌, arith, subst, append-nil}
use Rattle.std.proofs.lemmas.List.{length-append}
use Rattle.model_questions.specs.Answers.{Answers}
use Rattle.model_questions.specs.declared.record.Record.{Record}
use Rattle.kernel_call_views.specs.Tables.{AreShown}
use Rattle.kernel_call_views.specs.declared.CallViews.{CallViews}
use Rattle.run_semantics.specs.Laws.{GoesOn}

-- a list to which nothing was added is the same
none_more : {X : Type 0} (xs more : List X) → length (xs ++ more) ≡ length xs → xs ++ more ≡ xs
none_more xs [] e = append-nil xs
none_more xs (y ∷ ys) e = absurd (omega (arith, e, length-append xs (y ∷ ys)))

same_list : {X : Type 0} (old new : List X) → GoesOn new old → length old ≡ length new → old ≡ new
same_list old new (more, e) l = sym e ∙ none_more new more (ap length e ∙ l)

pub as_many_shown : (m : Answers) (old new : List Record) (t : CallViews) → GoesOn new old → length old ≡ length new → AreShown m old t → AreShown m new t
as_many_shown m old new t on l h = subst (λ rs. AreShown m rs t) (same_list old new on l) h
