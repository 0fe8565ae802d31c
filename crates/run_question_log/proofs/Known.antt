-- Parameters of which it is known that their questions were asked.
use Rattle.std.proofs.Common.{◌≡◌, ℕ, zero, suc, slice_get, Bool, true, false, ◌||◌, List, [], ◌∷◌, ◌++◌, Option, Some, None, unwrap_or, Result, Ok, Err, OnOk, OnErr, subst, refl, sym, ap, ◌∙◌, cond, ◌==◌, ◌&&◌, eq-eqb}
use Rattle.std.specs.List.{list_any}
use Rattle.std.specs.Str.{bytes_eq}
use Rattle.std.specs.Cmp.Lexicographic.{nat_list_eq_equiv, same_text}
use Rattle.module_api.specs.declared.reply.Read.{Read}
use Rattle.module_api.specs.declared.reply.Read.TheVariants as read
use Rattle.module_tree.specs.Boxes.{Seated, box_of}
use Rattle.module_tree.proofs.Each.{each_of, each_so}
use Rattle.model_questions.specs.declared.answer.AskedQuestion.{AskedQuestion}
use Rattle.model_questions.specs.declared.answer.Question.{Question}
use Rattle.model_questions.specs.declared.answer.Question.TheVariants.{Param}
use Rattle.model_questions.specs.Questions.{same_question}
use Rattle.run_semantics.specs.Perform.{question_of}
use Rattle.run_semantics.specs.World.{is_asked, noted}
use Rattle.run_question_log.specs.Known.{AreKnown, WereAsked}
use Rattle.run_question_log.proofs.Once.{asked_more}

-- one of those that were asked was asked
pub among_asked : (asked : List AskedQuestion) (id : ℕ) (names : List (List ℕ)) (n : List ℕ) → WereAsked asked id names → list_any (λ known. bytes_eq known n) names ≡ true → is_asked (Param id n) asked ≡ true
among_asked asked id [] n h e = cc
among_asked asked id (k ∷ ks) n h e = by (bytes_eq k n) refl (among_asked asked id ks n h.1) e
  where
    by : (t : Bool) → bytes_eq k n ≡ t → (list_any (λ known. bytes_eq known n) ks ≡ true → is_asked (Param id n) asked ≡ true) → (t || list_any (λ known. bytes_eq known n) ks) ≡ true → is_asked (Param id n) asked ≡ true
    by true t later e = ap (λ x. is_asked (Param id x) asked) (sym (same_text k n (sym t))) ∙ h.0
    by false t later e = later e

-- one that stands at a place is among them
pub any_at : {X : Type 0} (test : X → Bool) (xs : List X) (place : ℕ) (x : X) → slice_get xs place ≡ Some x → test x ≡ true → list_any test xs ≡ true
any_at test [] place x h e = cc
any_at test (y ∷ ys) zero x h e = let same : y ≡ x = cc in rw (ap test same ∙ e) refl
any_at test (y ∷ ys) (suc place) x h e = by (test y) (any_at test ys place x h e)
  where
    by : (t : Bool) → list_any test ys ≡ true → (t || list_any test ys) ≡ true
    by true later = refl
    by false later = later

-- one more of them
pub asked_push : (asked : List AskedQuestion) (id : ℕ) (names : List (List ℕ)) (n : List ℕ) → WereAsked asked id names → is_asked (Param id n) asked ≡ true → WereAsked asked id (names ++ n ∷ [])
asked_push asked id [] n h e = (e, tt)
asked_push asked id (k ∷ ks) n h e = (h.0, asked_push asked id ks n h.1 e)

-- one more of them, where there was memory for it
pub asked_pushed : {A E : Type 0} (asked : List AskedQuestion) (id : ℕ) (before after : List (List ℕ)) (n copy : List ℕ) (pushed : Result A E) → copy ≡ n → OnOk pushed (after ≡ before ++ copy ∷ []) → OnErr pushed (after ≡ before) → WereAsked asked id before
    → is_asked (Param id n) asked ≡ true → WereAsked asked id after
asked_pushed asked id before after n copy (Ok x) same ok err h e = subst (WereAsked asked id) (sym (ok ∙ ap (λ y. before ++ y ∷ []) same)) (asked_push asked id before n h e)
asked_pushed asked id before after n copy (Err x) same ok err h e = subst (WereAsked asked id) (sym err) h

-- what is known of a module, or nothing
pub taken_asked : (asked : List AskedQuestion) (id : ℕ) (ss : List (Seated (List (List ℕ)))) (o : Option (List (List ℕ))) (none : List (List ℕ)) → AreKnown asked ss → o ≡ box_of id ss → none ≡ [] → WereAsked asked id (unwrap_or o none)
taken_asked asked id ss None none h e n = subst (WereAsked asked id) (sym n) tt
taken_asked asked id ss (Some names) none h e n = each_of (WereAsked asked) id ss names h (sym e)

-- what was asked stays asked when more is
any_more : {X : Type 0} (test : X → Bool) (xs ys : List X) → list_any test xs ≡ true → list_any test (xs ++ ys) ≡ true
any_more test [] ys h = cc
any_more test (x ∷ xs) ys h = by (test x) (any_more test xs ys) h
  where
    by : (t : Bool) → (list_any test xs ≡ true → list_any test (xs ++ ys) ≡ true) → (t || list_any test xs) ≡ true → (t || list_any test (xs ++ ys)) ≡ true
    by true later h = refl
    by false later h = later h

were_more : (asked more : List AskedQuestion) (id : ℕ) (names : List (List ℕ)) → WereAsked asked id names → WereAsked (asked ++ more) id names
were_more asked more id [] h = tt
were_more asked more id (k ∷ ks) h = (any_more (λ (a : AskedQuestion). same_question (Param id k) a.question) asked more h.0, were_more asked more id ks h.1)

pub known_more : (asked more : List AskedQuestion) (ss : List (Seated (List (List ℕ)))) → AreKnown asked ss → AreKnown (asked ++ more) ss
known_more asked more ss h = each_so (WereAsked asked) (WereAsked (asked ++ more)) ss (were_more asked more) h

pub known_noted : (event : ℕ) (q : Question) (asked : List AskedQuestion) (ss : List (Seated (List (List ℕ)))) → AreKnown asked ss → AreKnown (noted event q asked) ss
known_noted event q asked ss h = by (is_asked q asked)
  where
    by : (t : Bool) → AreKnown (cond t asked (asked ++ record { event = event; question = q } ∷ [])) ss
    by true = h
    by false = known_more asked (record { event = event; question = q } ∷ []) ss h

-- the same where memory may have run out
pub known_after_note : {A E : Type 0} (event : ℕ) (q : Question) (asked after : List AskedQuestion) (ss : List (Seated (List (List ℕ)))) (result : Result A E) → OnOk result (after ≡ noted event q asked) → OnErr result (after ≡ asked) → AreKnown asked ss → AreKnown after ss
known_after_note event q asked after ss (Ok x) ok err h = subst (λ (qs : List AskedQuestion). AreKnown qs ss) (sym ok) (known_noted event q asked ss h)
known_after_note event q asked after ss (Err x) ok err h = subst (λ (qs : List AskedQuestion). AreKnown qs ss) (sym err) h

pub known_after_time : {A E : Type 0} (event : ℕ) (q : Question) (asked after : List AskedQuestion) (ss : List (Seated (List (List ℕ)))) (result : Result A E) → OnOk result (after ≡ asked ++ record { event = event; question = q } ∷ []) → OnErr result (after ≡ asked)
    → AreKnown asked ss → AreKnown after ss
known_after_time event q asked after ss (Ok x) ok err h = subst (λ (qs : List AskedQuestion). AreKnown qs ss) (sym ok) (known_more asked (record { event = event; question = q } ∷ []) ss h)
known_after_time event q asked after ss (Err x) ok err h = subst (λ (qs : List AskedQuestion). AreKnown qs ss) (sym err) h

-- what was asked before is not noted again
pub noted_before : (event : ℕ) (q : Question) (asked : List AskedQuestion) → is_asked q asked ≡ true → noted event q asked ≡ asked
noted_before event q asked h = rw h refl

-- what a read asks is the same as itself
same_name : (id : ℕ) (n : List ℕ) → ((id == id) && bytes_eq n n) ≡ true
same_name id n = rw (eq-eqb id id refl) (nat_list_eq_equiv.refl n)

itself : (id : ℕ) (r : Read) → same_question (question_of id r) (question_of id r) ≡ true
itself id (read.Parameter n) = same_name id n
itself id (read.Gate n) = same_name id n

-- what was noted was asked
pub asked_now : (event id : ℕ) (r : Read) (asked : List AskedQuestion) → is_asked (question_of id r) (noted event (question_of id r) asked) ≡ true
asked_now event id r asked = by (is_asked (question_of id r) asked) refl
  where
    by : (t : Bool) → is_asked (question_of id r) asked ≡ t → is_asked (question_of id r) (cond t asked (asked ++ record { event = event; question = question_of id r } ∷ [])) ≡ true
    by true e = e
    by false e =
        asked_more (question_of id r) asked (record { event = event; question = question_of id r })
        ∙ ap (λ b. b || same_question (question_of id r) (question_of id r)) e
        ∙ itself id r
