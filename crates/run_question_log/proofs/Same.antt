-- Questions that the set takes for the same.
use Rattle.std.proofs.Common.{◌≡◌, Bool, true, false, ◌||◌, List, [], ◌∷◌, refl, sym, ap, ◌∙◌}
use Rattle.std.specs.List.{list_any}
use Rattle.model_questions.specs.contracts.answer.QuestionPartialEq as equality
use Rattle.model_questions.specs.declared.answer.Question.{Question}
use Rattle.model_questions.specs.declared.answer.Question.TheVariants.{Root, TypeOf, Build, Param, GateSize, Hop, HopBack, BeyondLimit, InjectionBefore}
use Rattle.model_questions.specs.Questions.{same_question, is_of_modules}
use Rattle.model_questions.proofs.QuestionLemmas.{same_is}

-- what the set compares by
abbrev pub equal : Question → Question → Bool
equal = (equality.TheImpl.eq-value).it

-- of a question about modules it says which are the same
pub equal_is : (q k : Question) → is_of_modules q ≡ true → equal q k ≡ same_question q k
equal_is Root Root e = refl
equal_is Root (TypeOf j) e = refl
equal_is Root (Build j) e = refl
equal_is Root (Param j m) e = refl
equal_is Root (GateSize j m) e = refl
equal_is Root (Hop j m y) e = refl
equal_is Root (HopBack j m y) e = refl
equal_is Root (BeyondLimit t) e = refl
equal_is Root (InjectionBefore d l) e = refl
equal_is (TypeOf i) Root e = refl
equal_is (TypeOf i) (TypeOf j) e = refl
equal_is (TypeOf i) (Build j) e = refl
equal_is (TypeOf i) (Param j m) e = refl
equal_is (TypeOf i) (GateSize j m) e = refl
equal_is (TypeOf i) (Hop j m y) e = refl
equal_is (TypeOf i) (HopBack j m y) e = refl
equal_is (TypeOf i) (BeyondLimit t) e = refl
equal_is (TypeOf i) (InjectionBefore d l) e = refl
equal_is (Build i) Root e = refl
equal_is (Build i) (TypeOf j) e = refl
equal_is (Build i) (Build j) e = refl
equal_is (Build i) (Param j m) e = refl
equal_is (Build i) (GateSize j m) e = refl
equal_is (Build i) (Hop j m y) e = refl
equal_is (Build i) (HopBack j m y) e = refl
equal_is (Build i) (BeyondLimit t) e = refl
equal_is (Build i) (InjectionBefore d l) e = refl
equal_is (Param i n) Root e = refl
equal_is (Param i n) (TypeOf j) e = refl
equal_is (Param i n) (Build j) e = refl
equal_is (Param i n) (Param j m) e = refl
equal_is (Param i n) (GateSize j m) e = refl
equal_is (Param i n) (Hop j m y) e = refl
equal_is (Param i n) (HopBack j m y) e = refl
equal_is (Param i n) (BeyondLimit t) e = refl
equal_is (Param i n) (InjectionBefore d l) e = refl
equal_is (GateSize i n) Root e = refl
equal_is (GateSize i n) (TypeOf j) e = refl
equal_is (GateSize i n) (Build j) e = refl
equal_is (GateSize i n) (Param j m) e = refl
equal_is (GateSize i n) (GateSize j m) e = refl
equal_is (GateSize i n) (Hop j m y) e = refl
equal_is (GateSize i n) (HopBack j m y) e = refl
equal_is (GateSize i n) (BeyondLimit t) e = refl
equal_is (GateSize i n) (InjectionBefore d l) e = refl
equal_is (Hop i n x) Root e = refl
equal_is (Hop i n x) (TypeOf j) e = refl
equal_is (Hop i n x) (Build j) e = refl
equal_is (Hop i n x) (Param j m) e = refl
equal_is (Hop i n x) (GateSize j m) e = refl
equal_is (Hop i n x) (Hop j m y) e = refl
equal_is (Hop i n x) (HopBack j m y) e = refl
equal_is (Hop i n x) (BeyondLimit t) e = refl
equal_is (Hop i n x) (InjectionBefore d l) e = refl
equal_is (HopBack i n x) Root e = refl
equal_is (HopBack i n x) (TypeOf j) e = refl
equal_is (HopBack i n x) (Build j) e = refl
equal_is (HopBack i n x) (Param j m) e = refl
equal_is (HopBack i n x) (GateSize j m) e = refl
equal_is (HopBack i n x) (Hop j m y) e = refl
equal_is (HopBack i n x) (HopBack j m y) e = refl
equal_is (HopBack i n x) (BeyondLimit t) e = refl
equal_is (HopBack i n x) (InjectionBefore d l) e = refl
equal_is (BeyondLimit t) _ e = cc
equal_is (InjectionBefore d l) _ e = cc

-- so it finds the same among any
pub found_alike : (q : Question) (keys : List Question) → is_of_modules q ≡ true → list_any (equal q) keys ≡ list_any (same_question q) keys
found_alike q [] e = refl
found_alike q (k ∷ rest) e = ap (λ b. b || list_any (equal q) rest) (equal_is q k e) ∙ ap (λ b. same_question q k || b) (found_alike q rest e)

flips_at : (q k : Question) (a b : Bool) → same_question q k ≡ a → same_question k q ≡ b → a ≡ b
flips_at q k true true s t = refl
flips_at q k false false s t = refl
flips_at q k true false s t = let is = same_is q k s in sym s ∙ ap (same_question q) (sym is) ∙ ap (λ z. same_question z q) is ∙ t
flips_at q k false true s t = let is = same_is k q t in sym s ∙ ap (λ z. same_question z k) (sym is) ∙ ap (same_question k) is ∙ t

-- which of two comes first makes no difference
pub flips : (q k : Question) → same_question q k ≡ same_question k q
flips q k = flips_at q k (same_question q k) (same_question k q) refl refl

-- what is asked of a time is the same as nothing
pub never_same : (q k : Question) → is_of_modules q ≡ false → same_question q k ≡ false
never_same Root k e = cc
never_same (TypeOf i) k e = cc
never_same (Build i) k e = cc
never_same (Param i n) k e = cc
never_same (GateSize i n) k e = cc
never_same (Hop i n x) k e = cc
never_same (HopBack i n x) k e = cc
never_same (BeyondLimit t) k e = refl
never_same (InjectionBefore d l) k e = refl
