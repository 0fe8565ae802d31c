-- Questions about what two models have in common.
use Rattle.std.proofs.Common.{◌≡◌, Bool, true, false, ◌&&◌, List, [], ◌∷◌, ap, refl}
use Rattle.model_questions.specs.declared.answer.Answer.TheVariants as answer
use Rattle.model_questions.specs.declared.answer.AskedQuestion.{AskedQuestion}
use Rattle.model_questions.specs.declared.answer.Question.{Question}
use Rattle.model_questions.specs.declared.answer.Question.TheVariants.{Root, TypeOf, Build, Param, GateSize, Hop, HopBack, BeyondLimit, InjectionBefore}
use Rattle.model_injections.specs.declared.injection.Injection.{Injection}
use Rattle.model_questions.specs.Answers.{Answers, answer_of, is_beyond}
use Rattle.model_questions.specs.declared.record.Record.{Record}
use Rattle.model_injections.specs.Injections.{injection_before}
use Rattle.model_agreement.specs.declared.common.Common.{Common}
use Rattle.run_semantics.specs.Agreement.{Agrees}
use Rattle.model_agreement.specs.Common.{is_about, are_about, IsCommon}

-- both give them the same answers
pub alike : (m n : Answers) (c : Common) (rs : List Record) (q : Question) → IsCommon m n c → is_about c q ≡ true → answer_of m rs q ≡ answer_of n rs q
alike m n c rs Root h e = h.modules_are e rs Root refl
alike m n c rs (TypeOf id) h e = h.modules_are e rs (TypeOf id) refl
alike m n c rs (Build id) h e = h.modules_are e rs (Build id) refl
alike m n c rs (Param id name) h e = h.modules_are e rs (Param id name) refl
alike m n c rs (GateSize id name) h e = h.modules_are e rs (GateSize id name) refl
alike m n c rs (Hop id name index) h e = h.modules_are e rs (Hop id name index) refl
alike m n c rs (HopBack id name index) h e = h.modules_are e rs (HopBack id name index) refl
alike m n c rs (BeyondLimit time) h e = ap (λ limit. answer.Beyond (is_beyond limit time)) (h.limit_is e)
alike m n c rs (InjectionBefore due last) h e = ap (λ (is : List Injection). answer.Injection (injection_before due last is)) (h.injections_are e)

both : (a b : Bool) → (a && b) ≡ true → (a ≡ true) × (b ≡ true)
both true true e = (e, e)
both true false e = cc
both false b e = cc

-- and so to all of them
pub all_alike : (m n : Answers) (c : Common) (rs : List Record) (asked : List AskedQuestion) → IsCommon m n c → are_about c asked ≡ true → Agrees m n rs asked
all_alike m n c rs [] h e = tt
all_alike m n c rs (a ∷ rest) h e =
    let parts = both (is_about c a.question) (are_about c rest) e in (alike m n c rs a.question h parts.0, all_alike m n c rs rest h parts.1)
