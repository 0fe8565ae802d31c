-- Whether the last run ended in a fault, with one thing more that was heard.
use Rattle.std.proofs.Common.{◌≡◌, ℕ, Bool, false, List, [], ◌∷◌, ◌++◌, Option, Some, None, refl, sym, ap, ◌∙◌, subst}
use Rattle.std.specs.Prelude.{codes}
use Rattle.model_edits.specs.declared.edit.Refusal.{Refusal}
use Rattle.model_edits.specs.declared.edit.Refusal.TheVariants as edit
use Rattle.run_semantics.specs.declared.outcome.Outcome.{Outcome}
use Rattle.run_semantics.specs.declared.outcome.Outcome.TheVariants as outcome
use Rattle.desk_client.specs.Answers.{done_text, edit_refusal_text, IsTold}
use Rattle.desk_client.specs.declared.told.AnswerContent.{AnswerContent}
use Rattle.desk_client.specs.declared.told.AnswerContent.TheVariants as told
use Rattle.transcripts.specs.Heard.{Heard, Answer}
use Rattle.nedrun_script.specs.Faults.{ends_in_fault, fault_behind, fault_from, fault_told}

from_more : (before : Bool) (hs : List Heard) (h : Heard) → fault_from before (hs ++ h ∷ []) ≡ fault_behind (fault_from before hs) h
from_more before [] h = refl
from_more before (x ∷ hs) h = from_more (fault_behind before x) hs h

pub fault_more : (hs : List Heard) (h : Heard) → ends_in_fault (hs ++ h ∷ []) ≡ fault_behind (ends_in_fault hs) h
fault_more hs h = from_more false hs h

-- ---- by what an answer tells

-- of a run that is done
told_done : (before : Bool) (o : Outcome) (start : Option ℕ) (executed : ℕ)
    → fault_told before (told.Done o) ≡ fault_behind before (Answer (done_text o start executed))
told_done before outcome.Ended start executed = refl
told_done before outcome.EventLimit start executed = refl
told_done before outcome.NoMoreEvents start executed = refl
told_done before outcome.TimeLimit start executed = refl
told_done before (outcome.Fault event path f) start executed = refl

-- it is as it was after a text that is the other
as_behind : (before : Bool) (text other : List ℕ) → text ≡ other → before ≡ fault_behind before (Answer other) → before ≡ fault_behind before (Answer text)
as_behind before text other is kept = subst (λ (t : List ℕ). before ≡ fault_behind before (Answer t)) (sym is) kept

-- one text is told of a refusal
one_text : (text other : List ℕ) → Some text ≡ Some other → text ≡ other
one_text text other is = cc

-- of an edit that is refused
told_refused : (before : Bool) (r : Refusal) (text : List ℕ) → Some text ≡ edit_refusal_text r → before ≡ fault_behind before (Answer text)
told_refused before edit.TooLarge text is = as_behind before text (codes "refused TooLarge") (one_text _ _ is) refl
told_refused before edit.NoSuchLine text is = as_behind before text (codes "refused NoSuchLine") (one_text _ _ is) refl
told_refused before edit.NoSuchInjection text is = as_behind before text (codes "refused NoSuchInjection") (one_text _ _ is) refl
told_refused before edit.NoSuchFile text is = as_behind before text (codes "refused NoSuchFile") (one_text _ _ is) refl
told_refused before edit.NoSuchType text is = as_behind before text (codes "refused NoSuchType") (one_text _ _ is) refl
told_refused before edit.NoSuchConnection text is = as_behind before text (codes "refused NoSuchConnection") (one_text _ _ is) refl
told_refused before (edit.NedSyntax line) text is = as_behind before text _ (one_text _ _ is) refl
told_refused before (edit.Types fault) text is = as_behind before text _ (one_text _ _ is) refl
told_refused before (edit.IniSyntax line reason) text is = as_behind before text _ (one_text _ _ is) refl
told_refused before (edit.Config fault) text is = as_behind before text _ (one_text _ _ is) refl
told_refused before (edit.NoMemory _) text is = cc

-- WHAT AN ANSWER TELLS says the same as its text
told_behind : (before : Bool) (t : AnswerContent) (text : List ℕ) → IsTold t text → fault_told before t ≡ fault_behind before (Answer text)
told_behind before (told.Done o) text is =
    subst (λ (x : List ℕ). fault_told before (told.Done o) ≡ fault_behind before (Answer x)) (sym is.2) (told_done before o is.0 is.1)
told_behind before (told.Edited injection) text is = as_behind before text _ is.1 refl
told_behind before (told.Refused why) text is = told_refused before why text is
told_behind before told.NoCommand text is = as_behind before text _ is refl
told_behind before told.TooLarge text is = as_behind before text _ is refl
told_behind before told.NotDone text is = as_behind before text _ is refl
told_behind before told.Written text is = as_behind before text _ is refl
told_behind before told.Positions text is = as_behind before text _ is.1 refl
told_behind before told.Held text is = as_behind before text _ is.1 refl

-- so with one answer more that was heard it is known by what that tells
pub known_by : (before behind : Bool) (hs more : List Heard) (t : AnswerContent) (text : List ℕ) → IsTold t text → before ≡ ends_in_fault hs → behind ≡ fault_told before t
    → more ≡ hs ++ Answer text ∷ [] → behind ≡ ends_in_fault more
known_by before behind hs more t text is known told heard =
    told ∙ told_behind before t text is ∙ ap (λ (b : Bool). fault_behind b (Answer text)) known ∙ sym (ap ends_in_fault heard ∙ fault_more hs (Answer text))
