-- The set of a log that gains a question, or loses its last one.
use Rattle.std.proofs.Common.{◌≡◌, ℕ, Bool, true, false, cond, ◌||◌, List, [], ◌∷◌, ◌++◌, refl, sym, ap, subst, ◌∙◌, if◌then◌else◌}
use Rattle.std.specs.List.{list_any}
use Rattle.model_questions.specs.declared.answer.AskedQuestion.{AskedQuestion}
use Rattle.model_questions.specs.declared.answer.Question.{Question}
use Rattle.model_questions.specs.Questions.{same_question, is_of_modules}
use Rattle.model_questions.proofs.QuestionLemmas.{same_is}
use Rattle.run_semantics.specs.World.{is_asked, noted}
use Rattle.run_question_log.specs.Keys.{AreAskedOnce, AreKeysOf}
use Rattle.run_question_log.proofs.Same.{equal, equal_is, found_alike, flips, never_same}
use Rattle.run_question_log.proofs.Once.{or_none, asked_more, never_asked, once_more, once_less}

-- the set has a question about modules exactly where it was asked
seen_in : (q : Question) (asked now : List AskedQuestion) (keys : List Question) (b : Bool) → is_of_modules q ≡ true → asked ≡ now → AreKeysOf asked keys
    → b ≡ list_any (equal q) keys → is_asked q now ≡ b
seen_in q asked now keys b e v k t = sym (ap (is_asked q) v) ∙ sym (found_alike q keys e ∙ k.found q e) ∙ sym t

-- one that was asked before is not noted again
pub kept : (event : ℕ) (q : Question) (asked now : List AskedQuestion) (keys : List Question) → is_of_modules q ≡ true → asked ≡ now → AreKeysOf asked keys
    → true ≡ list_any (equal q) keys → now ≡ noted event q now
kept event q asked now keys e v k t =
    sym (ap (λ b. if b then now else now ++ record { event = event; question = q } ∷ []) (seen_in q asked now keys true e v k t))

-- one that was not stands at the end
pub added : (event : ℕ) (q : Question) (asked now more : List AskedQuestion) (keys : List Question) → is_of_modules q ≡ true → asked ≡ now → AreKeysOf asked keys
    → false ≡ list_any (equal q) keys → more ≡ asked ++ record { event = event; question = q } ∷ [] → more ≡ noted event q now
added event q asked now more keys e v k t m =
    m ∙ ap (λ qs. qs ++ record { event = event; question = q } ∷ []) v
    ∙ sym (ap (λ b. if b then now else now ++ record { event = event; question = q } ∷ []) (seen_in q asked now keys false e v k t))

or_cond : (a b : Bool) → cond a true b ≡ (b || a)
or_cond true true = refl
or_cond true false = refl
or_cond false true = refl
or_cond false false = refl

-- with one more about modules, the set has it too
pub keys_with : (event : ℕ) (q key : Question) (asked more : List AskedQuestion) (keys after : List Question) → is_of_modules q ≡ true → key ≡ q
    → AreKeysOf asked keys → false ≡ list_any (equal q) keys → more ≡ asked ++ record { event = event; question = q } ∷ []
    → ((x : Question) → list_any (equal x) after ≡ cond (equal key x) true (list_any (equal x) keys)) → AreKeysOf more after
keys_with event q key asked more keys after e same k t m i = record {
  found = λ x f. sym (found_alike x after f) ∙ i x
      ∙ ap (λ r. cond (equal r x) true (list_any (equal x) keys)) same
      ∙ ap (λ b. cond b true (list_any (equal x) keys)) (equal_is q x e ∙ flips q x)
      ∙ ap (cond (same_question x q) true) (found_alike x keys f ∙ k.found x f)
      ∙ or_cond (same_question x q) (is_asked x asked)
      ∙ sym (ap (is_asked x) m ∙ asked_more x asked (record { event = event; question = q }));
  once = subst AreAskedOnce (sym m) (once_more asked (record { event = event; question = q }) k.once (seen_in q asked asked keys false e refl k t));
}

-- with one about a time, the set is as it was
pub keys_without : (event : ℕ) (q : Question) (asked more : List AskedQuestion) (keys : List Question) → is_of_modules q ≡ false
    → AreKeysOf asked keys → more ≡ asked ++ record { event = event; question = q } ∷ [] → AreKeysOf more keys
keys_without event q asked more keys e k m = record {
  found = λ x f. k.found x f
      ∙ sym (ap (is_asked x) m ∙ asked_more x asked (record { event = event; question = q }) ∙ or_none (is_asked x asked) (same_question x q) (flips x q ∙ never_same q x e));
  once = subst AreAskedOnce (sym m) (once_more asked (record { event = event; question = q }) k.once (never_asked q asked e));
}

taken : (x q : Question) (asked : List AskedQuestion) (b : Bool) → same_question x q ≡ b → is_asked q asked ≡ false → cond b false (is_asked x asked || b) ≡ is_asked x asked
taken x q asked true s n = sym n ∙ ap (λ z. is_asked z asked) (sym (same_is x q s))
taken x q asked false s n = or_none (is_asked x asked) false refl

-- the last question was about modules: it leaves the set
pub fewer_keys : (last : AskedQuestion) (asked new : List AskedQuestion) (keys after : List Question) → is_of_modules last.question ≡ true → AreKeysOf asked keys
    → asked ≡ new ++ last ∷ [] → ((x : Question) → list_any (equal x) after ≡ cond (equal last.question x) false (list_any (equal x) keys)) → AreKeysOf new after
fewer_keys last asked new keys after e k a r =
    let less = once_less new last (subst AreAskedOnce a k.once) in
    record {
      found = λ x f. sym (found_alike x after f) ∙ r x
          ∙ ap (λ b. cond b false (list_any (equal x) keys)) (equal_is last.question x e ∙ flips last.question x)
          ∙ ap (cond (same_question x last.question) false) (found_alike x keys f ∙ k.found x f ∙ ap (is_asked x) a ∙ asked_more x new last)
          ∙ taken x last.question new (same_question x last.question) refl less.1;
      once = less.0;
    }

-- it was not: the set stays
pub keys_stay : (last : AskedQuestion) (asked new : List AskedQuestion) (keys : List Question) → is_of_modules last.question ≡ false → AreKeysOf asked keys
    → asked ≡ new ++ last ∷ [] → AreKeysOf new keys
keys_stay last asked new keys e k a =
    record {
      found = λ x f. k.found x f ∙ ap (is_asked x) a ∙ asked_more x new last
          ∙ or_none (is_asked x new) (same_question x last.question) (flips x last.question ∙ never_same last.question x e);
      once = (once_less new last (subst AreAskedOnce a k.once)).0;
    }
