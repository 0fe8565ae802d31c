-- Questions that stand once among those that were asked.
use Rattle.std.proofs.Common.{◌≡◌, Bool, true, false, ◌||◌, List, [], ◌∷◌, ◌++◌, refl, sym, ap, ◌∙◌}
use Rattle.std.proofs.lemmas.List.Folds.{list_any-append}
use Rattle.model_questions.specs.declared.answer.AskedQuestion.{AskedQuestion}
use Rattle.model_questions.specs.declared.answer.Question.{Question}
use Rattle.model_questions.specs.Questions.{same_question, is_of_modules}
use Rattle.run_semantics.specs.World.{is_asked}
use Rattle.run_question_log.specs.Keys.{AreAskedOnce}
use Rattle.run_question_log.proofs.Same.{flips, never_same}

pub or_none : (a b : Bool) → b ≡ false → (a || b) ≡ a
or_none true b e = refl
or_none false b e = e

neither : (a b : Bool) → (a || b) ≡ false → (a ≡ false) × (b ≡ false)
neither true b e = cc
neither false b e = (refl, e)

-- one more is asked
pub asked_more : (q : Question) (asked : List AskedQuestion) (a : AskedQuestion) → is_asked q (asked ++ a ∷ []) ≡ (is_asked q asked || same_question q a.question)
asked_more q asked a = list_any-append (λ (x : AskedQuestion). same_question q x.question) asked (a ∷ []) ∙ ap (λ b. is_asked q asked || b) (or_none (same_question q a.question) false refl)

-- what is asked of a time was never asked
pub never_asked : (q : Question) (asked : List AskedQuestion) → is_of_modules q ≡ false → is_asked q asked ≡ false
never_asked q [] e = refl
never_asked q (a ∷ rest) e = ap (λ b. b || is_asked q rest) (never_same q a.question e) ∙ never_asked q rest e

-- one that was not asked stands at the end
pub once_more : (asked : List AskedQuestion) (a : AskedQuestion) → AreAskedOnce asked → is_asked a.question asked ≡ false → AreAskedOnce (asked ++ a ∷ [])
once_more [] a h n = (refl, tt)
once_more (x ∷ rest) a h n =
    let apart = neither (same_question a.question x.question) (is_asked a.question rest) n in
    (asked_more x.question rest a ∙ ap (λ b. b || same_question x.question a.question) h.0 ∙ flips x.question a.question ∙ apart.0, once_more rest a h.1 apart.1)

-- without the last one, which was not asked before
pub once_less : (asked : List AskedQuestion) (last : AskedQuestion) → AreAskedOnce (asked ++ last ∷ []) → AreAskedOnce asked × (is_asked last.question asked ≡ false)
once_less [] last h = (tt, refl)
once_less (x ∷ rest) last h =
    let less = once_less rest last h.1 in
    let apart = neither (is_asked x.question rest) (same_question x.question last.question) (sym (asked_more x.question rest last) ∙ h.0) in
    ((apart.0, less.0), ap (λ b. b || is_asked last.question rest) (flips last.question x.question ∙ apart.1) ∙ less.1)
