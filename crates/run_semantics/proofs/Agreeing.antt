-- Two models agree on the first events of a run by its own questions exactly where they do by those
-- of a longer run.
use Rattle.std.proofs.Common.{◌≡◌, ⊎_elim, ℕ, zero, suc, ◌≤◌, ◌<◌, List, [], ◌∷◌, ◌++◌, sym, ap, ◌∙◌, arith, subst, append-nil, append_assoc, eq-or-lt_of_le}
use Rattle.module_api.specs.Behaviour.{Behaviour}
use Rattle.model_questions.specs.declared.answer.AskedQuestion.{AskedQuestion}
use Rattle.model_questions.specs.Answers.{Answers, answer_of}
use Rattle.model_questions.specs.declared.record.Record.{Record}
use Rattle.run_semantics.specs.Agreement.{AgreesUpTo}
use Rattle.run_semantics.specs.Laws.{Each}
use Rattle.run_semantics.specs.Run.{after, world_at}
use Rattle.run_semantics.specs.World.{World}
use Rattle.run_semantics.proofs.Growth.{AllOfEvent}
use Rattle.run_semantics.proofs.Reuse.{after_later, fits_after, noted_stay, AgreesUpTo-front, IsLater}

-- questions of later events
abbrev AllAfter : ℕ → List AskedQuestion → Type 0
AllAfter v [] = Unit {0}
AllAfter v (a ∷ rest) = (v < a.event) × AllAfter v rest

after-append : (v : ℕ) (xs ys : List AskedQuestion) → AllAfter v xs → AllAfter v ys → AllAfter v (xs ++ ys)
after-append v [] ys f g = g
after-append v (x ∷ xs) ys f g = (f.0, after-append v xs ys f.1 g)

-- those of one later event
of_later : (v event : ℕ) (xs : List AskedQuestion) → v < event → AllOfEvent event xs → AllAfter v xs
of_later v event [] l f = tt
of_later v event (x ∷ xs) l f = (subst (λ n. v < n) (sym f.0) l, of_later v event xs l f.1)

-- the second world is of the same run as the first, which is that after event v, and no earlier
record IsBehind (v : ℕ) (old new : World) : Type 0 where
  rest : List AskedQuestion
  joined : old.questions ++ rest ≡ new.questions
  later : AllAfter v rest
  more : List Record
  records : old.records ++ more ≡ new.records

behind_same : (v : ℕ) (w : World) → IsBehind v w w
behind_same v w = record { rest = []; joined = append-nil w.questions; later = tt; more = []; records = append-nil w.records }

behind_later : (v event : ℕ) (u w x : World) → v < event → IsBehind v u w → IsLater event w x → IsBehind v u x
behind_later v event u w x l f g = record {
  rest = f.rest ++ g.rest;
  joined = sym (append_assoc u.questions f.rest g.rest) ∙ (ap (λ ys. ys ++ g.rest) f.joined ∙ g.joined);
  later = after-append v f.rest g.rest f.later (of_later v event g.rest l g.later);
  more = f.more ++ g.more;
  records = sym (append_assoc u.records f.more g.more) ∙ (ap (λ ys. ys ++ g.more) f.records ∙ g.records);
}

behind_after : (b : Behaviour) (m : Answers) (v k : ℕ) → v ≤ k → IsBehind v (world_at (after b m v)) (world_at (after b m k))
behind_after b m v zero h = let e : v ≡ zero = omega arith in subst (λ n. IsBehind v (world_at (after b m v)) (world_at (after b m n))) e (behind_same v (world_at (after b m v)))
behind_after b m v (suc k) h =
    ⊎_elim
    (λ (e : v ≡ suc k). subst (λ n. IsBehind v (world_at (after b m v)) (world_at (after b m n))) e (behind_same v (world_at (after b m v))))
    (λ (lt : v < suc k). behind_later v (suc k) (world_at (after b m v)) (world_at (after b m k)) (world_at (after b m (suc k))) lt (behind_after b m v k (omega (arith, lt))) (after_later b m k))
    (eq-or-lt_of_le h)

-- later questions are none of the first events
agrees_later : (u v : ℕ) (p q : Answers) (rs : List Record) (xs ys : List AskedQuestion) → u ≤ v → AllAfter v ys → AgreesUpTo u p q rs xs → AgreesUpTo u p q rs (xs ++ ys)
agrees_later u v p q rs [] [] l f h = tt
agrees_later u v p q rs [] (y ∷ ys) l f h = (λ (e : y.event ≤ u). absurd (omega (arith, l, f.0, e)), agrees_later u v p q rs [] ys l f.1 tt)
agrees_later u v p q rs (x ∷ xs) ys l f h = (h.0, agrees_later u v p q rs xs ys l f h.1)

-- where the answers are the same with other modules, so is the agreement
agrees_with : (u : ℕ) (p q : Answers) (rs ss : List Record) (xs : List AskedQuestion)
    → Each (λ a. answer_of p ss a.question ≡ answer_of p rs a.question) xs → Each (λ a. answer_of q ss a.question ≡ answer_of q rs a.question) xs
    → AgreesUpTo u p q rs xs → AgreesUpTo u p q ss xs
agrees_with u p q rs ss [] f g h = tt
agrees_with u p q rs ss (x ∷ xs) f g h = (λ (l : x.event ≤ u). f.0 ∙ h.0 l ∙ sym g.0, agrees_with u p q rs ss xs f.1 g.1 h.1)

each_back : {A B : Type 0} (f g : A → B) (xs : List A) → Each (λ a. f a ≡ g a) xs → Each (λ a. g a ≡ f a) xs
each_back f g [] h = tt
each_back f g (x ∷ xs) h = (sym h.0, each_back f g xs h.1)

pub shorter_agrees : (b : Behaviour) (m p q : Answers) (u v k : ℕ) → u ≤ v → v ≤ k
    → AgreesUpTo u p q (world_at (after b m k)).records (world_at (after b m k)).questions
    → AgreesUpTo u p q (world_at (after b m v)).records (world_at (after b m v)).questions
shorter_agrees b m p q u v k l h a =
    let w : World = world_at (after b m k) in
    let x : World = world_at (after b m v) in
    let g = behind_after b m v k h in
    let f = fits_after b m v in
    let own : AgreesUpTo u p q w.records x.questions = AgreesUpTo-front u p q w.records x.questions g.rest (subst (AgreesUpTo u p q w.records) (sym g.joined) a) in
    agrees_with u p q (x.records ++ g.more) x.records x.questions
    (each_back (λ (y : AskedQuestion). answer_of p (x.records ++ g.more) y.question) (λ (y : AskedQuestion). answer_of p x.records y.question) x.questions (noted_stay p x.records g.more f.nested x.questions f.questions))
    (each_back (λ (y : AskedQuestion). answer_of q (x.records ++ g.more) y.question) (λ (y : AskedQuestion). answer_of q x.records y.question) x.questions (noted_stay q x.records g.more f.nested x.questions f.questions))
    (subst (λ rs. AgreesUpTo u p q rs x.questions) (sym g.records) own)

pub longer_agrees : (b : Behaviour) (m p q : Answers) (u v k : ℕ) → u ≤ v → v ≤ k
    → AgreesUpTo u p q (world_at (after b m v)).records (world_at (after b m v)).questions
    → AgreesUpTo u p q (world_at (after b m k)).records (world_at (after b m k)).questions
longer_agrees b m p q u v k l h a =
    let w : World = world_at (after b m k) in
    let x : World = world_at (after b m v) in
    let g = behind_after b m v k h in
    let f = fits_after b m v in
    let own : AgreesUpTo u p q (x.records ++ g.more) x.questions = agrees_with u p q x.records (x.records ++ g.more) x.questions
    (noted_stay p x.records g.more f.nested x.questions f.questions) (noted_stay q x.records g.more f.nested x.questions f.questions) a in
    let all : AgreesUpTo u p q (x.records ++ g.more) (x.questions ++ g.rest) = agrees_later u v p q (x.records ++ g.more) x.questions g.rest l g.later own in
    subst (λ qs. AgreesUpTo u p q w.records qs) g.joined (subst (λ rs. AgreesUpTo u p q rs (x.questions ++ g.rest)) g.records all)
