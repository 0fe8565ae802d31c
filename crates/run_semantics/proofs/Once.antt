-- What a question that is noted once says of the plain list of questions.
use Rattle.std.proofs.Common.{◌≡◌, ◌↔◌, ℕ, ◌≤◌, Bool, true, false, ◌||◌, List, [], ◌∷◌, ◌++◌, refl, sym, subst, arith, if◌then◌else◌}
use Rattle.model_questions.specs.declared.answer.AskedQuestion.{AskedQuestion}
use Rattle.model_questions.specs.declared.answer.Question.{Question}
use Rattle.model_questions.specs.Answers.{Answers, answer_of}
use Rattle.model_questions.specs.Questions.{same_question}
use Rattle.model_questions.specs.declared.record.Record.{Record}
use Rattle.model_questions.proofs.QuestionLemmas.{same_is}
use Rattle.event_set.proofs.Order.{each_map, each_append}
use Rattle.run_semantics.specs.Agreement.{AgreesUpTo}
use Rattle.run_semantics.specs.Laws.{Each, AreFrom, noted_all}
use Rattle.run_semantics.specs.World.{is_asked, noted}

-- two models answer it alike, where it was asked up to that event
abbrev IsAlike : Answers → Answers → List Record → ℕ → AskedQuestion → Type 0
IsAlike m n records v a = a.event ≤ v → answer_of m records a.question ≡ answer_of n records a.question

-- one more
agrees_more : (m n : Answers) (records : List Record) (v : ℕ) (xs : List AskedQuestion) (a : AskedQuestion) → AgreesUpTo v m n records xs → IsAlike m n records v a → AgreesUpTo v m n records (xs ++ a ∷ [])
agrees_more m n records v [] a h k = (k, tt)
agrees_more m n records v (x ∷ xs) a h k = (h.0, agrees_more m n records v xs a h.1 k)

agrees_but : (m n : Answers) (records : List Record) (v : ℕ) (xs : List AskedQuestion) (a : AskedQuestion) → AgreesUpTo v m n records (xs ++ a ∷ []) → AgreesUpTo v m n records xs × IsAlike m n records v a
agrees_but m n records v [] a h = (tt, h.0)
agrees_but m n records v (x ∷ xs) a h = let rest = agrees_but m n records v xs a h.1 in ((h.0, rest.0), rest.1)

-- one that was asked before, in no later event
agrees_asked : (m n : Answers) (records : List Record) (v : ℕ) (xs : List AskedQuestion) (a : AskedQuestion) → Each (λ x. x.event ≤ a.event) xs → is_asked a.question xs ≡ true → AgreesUpTo v m n records xs → IsAlike m n records v a
agrees_asked m n records v [] a up e h = cc
agrees_asked m n records v (x ∷ xs) a up e h = by (same_question a.question x.question) refl e (λ later. agrees_asked m n records v xs a up.1 later h.1)
  where
    by : (t : Bool) → same_question a.question x.question ≡ t → (t || is_asked a.question xs) ≡ true → (is_asked a.question xs ≡ true → IsAlike m n records v a) → IsAlike m n records v a
    by true s k later l =
        let first : x.event ≤ v = (let u = up.0 in omega (arith, u, l)) in
        subst (λ (q : Question). answer_of m records q ≡ answer_of n records q) (sym (same_is a.question x.question s)) (h.0 first)
    by false s k later l = later k l

-- with it, be it noted again or not
noted_agrees : (m n : Answers) (records : List Record) (v : ℕ) (xs : List AskedQuestion) (a : AskedQuestion) → Each (λ x. x.event ≤ a.event) xs
    → AgreesUpTo v m n records (noted a.event a.question xs) ↔ AgreesUpTo v m n records xs × IsAlike m n records v a
noted_agrees m n records v xs a up = by (is_asked a.question xs) refl
  where
    by : (t : Bool) → is_asked a.question xs ≡ t → AgreesUpTo v m n records (if t then xs else xs ++ a ∷ []) ↔ AgreesUpTo v m n records xs × IsAlike m n records v a
    by true e = ((λ h. (h, agrees_asked m n records v xs a up e h)), (λ h. h.0))
    by false e = (agrees_but m n records v xs a, (λ h. agrees_more m n records v xs a h.0 h.1))

noted_up : (xs : List AskedQuestion) (a : AskedQuestion) (event : ℕ) → event ≤ a.event → Each (λ (x : AskedQuestion). x.event ≤ event) xs → Each (λ (x : AskedQuestion). x.event ≤ a.event) (noted a.event a.question xs)
noted_up xs a event l up = by (is_asked a.question xs)
  where
    before : Each (λ (x : AskedQuestion). x.event ≤ a.event) xs
    before = each_map (λ (x : AskedQuestion). x.event ≤ event) (λ (x : AskedQuestion). x.event ≤ a.event) xs (λ x k. omega (arith, k, l)) up

    by : (t : Bool) → Each (λ (x : AskedQuestion). x.event ≤ a.event) (if t then xs else xs ++ a ∷ [])
    by true = before
    by false = each_append (λ (x : AskedQuestion). x.event ≤ a.event) xs (a ∷ []) before (omega arith, tt)

-- all of them, after those that are noted
all_agree : (m n : Answers) (records : List Record) (v event : ℕ) (plain xs : List AskedQuestion) → Each (λ (x : AskedQuestion). x.event ≤ event) xs → AreFrom event plain
    → AgreesUpTo v m n records (noted_all plain xs) ↔ AgreesUpTo v m n records xs × AgreesUpTo v m n records plain
all_agree m n records v event [] xs up from = ((λ h. (h, tt)), (λ h. h.0))
all_agree m n records v event (a ∷ rest) xs up from =
    let before = each_map (λ (x : AskedQuestion). x.event ≤ event) (λ (x : AskedQuestion). x.event ≤ a.event) xs (λ x k. (let l = from.0 in omega (arith, k, l))) up in
    let one = noted_agrees m n records v xs a before in
    let more = all_agree m n records v a.event rest (noted a.event a.question xs) (noted_up xs a event from.0 up) from.1 in
    ((λ h. (let k = more.0 h in let first = one.0 k.0 in (first.0, (first.1, k.1)))), (λ h. more.1 (one.1 (h.0, h.1.0), h.1.1)))

-- NOTING ONCE is as good as noting all
pub once_agrees : (m n : Answers) (records : List Record) (v : ℕ) (plain : List AskedQuestion) → AreFrom 0 plain → AgreesUpTo v m n records (noted_all plain []) ↔ AgreesUpTo v m n records plain
once_agrees m n records v plain from =
    let both = all_agree m n records v 0 plain [] tt from in
    ((λ h. (both.0 h).1), (λ h. both.1 (tt, h)))
