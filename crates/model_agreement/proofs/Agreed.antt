-- The agreement of two models, question by question.
use Rattle.std.proofs.Common.{◌≡◌, ⊎_elim, ℕ, ◌-◌, ◌≤◌, ◌<◌, List, [], ◌∷◌, ◌++◌, Option, Some, None, refl, arith}
use Rattle.std.proofs.lemmas.Bool.{cases_lt}
use Rattle.model_questions.specs.declared.answer.AskedQuestion.{AskedQuestion}
use Rattle.model_questions.specs.Answers.{Answers}
use Rattle.model_questions.specs.declared.record.Record.{Record}
use Rattle.run_question_log.specs.Entries.{AreOf}
use Rattle.run_semantics.specs.Agreement.{Agrees, AgreesUpTo, IsAgreement}
use Rattle.model_agreement.specs.Narrowing.{Narrows}

-- with no questions left they agree up to the last event
pub none_left : (m n : Answers) (rs : List Record) (k : ℕ) → IsAgreement m n rs k [] (Some k)
none_left m n rs k = (omega arith, tt, λ u l h a. absurd (omega (arith, l, h)))

-- ---- some questions of one event, and those after them

-- they agree on all of one event, where they agree on all up to it or a later one
on_these : (m n : Answers) (rs : List Record) (event v : ℕ) (these rest : List AskedQuestion) → AreOf event these → event ≤ v → AgreesUpTo v m n rs (these ++ rest)
    → Agrees m n rs these
on_these m n rs event v [] rest are l x = tt
on_these m n rs event v (a ∷ these) rest are l x = (x.0 (omega (arith, are.0, l)), on_these m n rs event v these rest are.1 l x.1)

on_rest : (m n : Answers) (rs : List Record) (v : ℕ) (these rest : List AskedQuestion) → AgreesUpTo v m n rs (these ++ rest) → AgreesUpTo v m n rs rest
on_rest m n rs v [] rest x = x
on_rest m n rs v (a ∷ these) rest x = on_rest m n rs v these rest x.1

on_all : (m n : Answers) (rs : List Record) (event v : ℕ) (these rest : List AskedQuestion) → AreOf event these → (event ≤ v → Agrees m n rs these)
    → AgreesUpTo v m n rs rest → AgreesUpTo v m n rs (these ++ rest)
on_all m n rs event v [] rest are same x = x
on_all m n rs event v (a ∷ these) rest are same x =
    ((λ (l : a.event ≤ v). (same (omega (arith, are.0, l))).0), on_all m n rs event v these rest are.1 (λ l. (same l).1) x)

-- questions of a later event, or with the same answers, change nothing
no_matter : (m n : Answers) (rs : List Record) (k event : ℕ) (these rest : List AskedQuestion) (found : Option ℕ) → AreOf event these
    → (event ≤ k → Agrees m n rs these) → IsAgreement m n rs k rest found → IsAgreement m n rs k (these ++ rest) found
no_matter m n rs k event these rest None are same h = λ x. h (on_rest m n rs 0 these rest x)
no_matter m n rs k event these rest (Some v) are same h = (
  h.0,
  on_all m n rs event v these rest are (λ (l : event ≤ v). same (omega (arith, l, h.0))) h.1,
  λ u l g x. h.2 u l g (on_rest m n rs u these rest x),
)

pub kept : (m n : Answers) (rs : List Record) (k event : ℕ) (these : List AskedQuestion) → AreOf event these → (event ≤ k → Agrees m n rs these)
    → Narrows m n rs these k (Some k)
kept m n rs k event these are same = (omega arith, λ rest found h. no_matter m n rs k event these rest found are same h)

-- where the answers to one of them differ, they agree on no event from theirs on
up_to_before : (m n : Answers) (rs : List Record) (k event left : ℕ) (these rest : List AskedQuestion) (found : Option ℕ) → AreOf event these → left < event → event ≤ k
    → event - 1 ≡ left → (Agrees m n rs these → ⊥) → IsAgreement m n rs left rest found → IsAgreement m n rs k (these ++ rest) found
up_to_before m n rs k event left these rest None are s l e differ h = λ x. h (on_rest m n rs 0 these rest x)
up_to_before m n rs k event left these rest (Some v) are s l e differ h = (
  omega (arith, s, l, h.0),
  on_all m n rs event v these rest are (λ (g : event ≤ v). absurd (omega (arith, s, g, h.0))) h.1,
  λ u low high x. ⊎_elim
      (λ (early : u < event). h.2 u low (omega (arith, early, e)) (on_rest m n rs u these rest x))
      (λ (late : event ≤ u). differ (on_these m n rs event u these rest are late x))
      (cases_lt u event),
)

pub cut_before : (m n : Answers) (rs : List Record) (k event : ℕ) (these : List AskedQuestion) → AreOf event these → 0 < event → event ≤ k
    → (Agrees m n rs these → ⊥) → Narrows m n rs these k (Some (event - 1))
cut_before m n rs k event these are s l differ =
    (omega (arith, s, l), λ rest found h. up_to_before m n rs k event (event - 1) these rest found are (omega (arith, s)) l refl differ h)

-- where those to one of event zero differ, they agree on none
pub on_none : (m n : Answers) (rs : List Record) (k event : ℕ) (these : List AskedQuestion) → AreOf event these → event ≡ 0
    → (Agrees m n rs these → ⊥) → Narrows m n rs these k None
on_none m n rs k event these are is differ rest x = differ (on_these m n rs event 0 these rest are (omega (arith, is)) x)

-- the questions of one entry more
pub narrowed_on : (m n : Answers) (rs : List Record) (k valid left : ℕ) (these rest all : List AskedQuestion)
    → ((found : Option ℕ) → IsAgreement m n rs valid (these ++ rest) found → IsAgreement m n rs k all found)
    → Narrows m n rs these valid (Some left) → (found : Option ℕ) → IsAgreement m n rs left rest found → IsAgreement m n rs k all found
narrowed_on m n rs k valid left these rest all h g found x = h found (g.1 rest found x)
