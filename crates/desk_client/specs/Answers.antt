-- The texts of answers, and what they tell.
use Rattle.std.specs.Prelude.{◌≡◌, ℕ, List, [], ◌∷◌, ◌++◌, Option, Some, None, codes}
use Rattle.std.specs.Fmt.{decimal}
use Rattle.model_edits.specs.declared.edit.Refusal.{Refusal}
use Rattle.model_edits.specs.declared.edit.Refusal.TheVariants as edit
use Rattle.model_data.specs.Faults.{config_fault_name}
use Rattle.ned_inheritance.specs.Faults.{type_fault_name}
use Rattle.run_semantics.specs.Faults.{fault_name}
use Rattle.run_semantics.specs.declared.outcome.RunFault.{RunFault}
use Rattle.run_semantics.specs.declared.outcome.RunFault.TheVariants as fault
use Rattle.run_semantics.specs.declared.outcome.Outcome.{Outcome}
use Rattle.run_semantics.specs.declared.outcome.Outcome.TheVariants as outcome
use Rattle.desk_client.specs.declared.told.AnswerContent.{AnswerContent}
use Rattle.desk_client.specs.declared.told.AnswerContent.TheVariants as told

-- and after the name of ModuleFailed what the module said
abbrev pub fault_detail : RunFault → List ℕ
fault_detail (fault.ModuleFailed text) = codes ": " ++ text
fault_detail _ = codes ""

abbrev pub outcome_text : Outcome → List ℕ
outcome_text outcome.Ended = codes "ended"
outcome_text outcome.EventLimit = codes "event-limit"
outcome_text outcome.NoMoreEvents = codes "no-more-events"
outcome_text outcome.TimeLimit = codes "time-limit"
outcome_text (outcome.Fault event path f) =
    codes "fault " ++ (decimal event
    ++ (codes " " ++ (path ++ (codes " " ++ (fault_name f ++ fault_detail f)))))

-- THE ANSWER of a run that is done: how it ended, where it began, and how many events were executed
-- after that
abbrev pub start_text : Option ℕ → List ℕ
start_text None = codes "start"
start_text (Some event) = decimal event

abbrev pub done_text : Outcome → Option ℕ → ℕ → List ℕ
done_text o from executed =
    codes "done " ++ (outcome_text o
    ++ (codes " from " ++ (start_text from ++ (codes " executed " ++ decimal executed))))

-- ---- edits

-- THE ANSWER of an edit that is made: up to which event the last run stays valid, and the number of
-- the injection that is added
abbrev pub valid_text : Option ℕ → List ℕ
valid_text None = codes "none"
valid_text (Some event) = decimal event

abbrev pub injection_text : Option ℕ → List ℕ
injection_text None = []
injection_text (Some number) = codes " injection " ++ decimal number

abbrev pub edited_text : Option ℕ → Option ℕ → List ℕ
edited_text valid_to injection =
    codes "edited valid " ++ (valid_text valid_to ++ injection_text injection)

-- THE ANSWER TO `held`: how many boxes there are
abbrev pub held_text : ℕ → List ℕ
held_text held = codes "held " ++ decimal held

-- THE ANSWER TO `positions`: after which events a position is stored, or that there is none
abbrev pub numbers_text : List ℕ → List ℕ
numbers_text [] = []
numbers_text (n ∷ ns) = codes " " ++ (decimal n ++ numbers_text ns)

abbrev pub counts_text : List ℕ → List ℕ
counts_text [] = codes " none"
counts_text (n ∷ ns) = numbers_text (n ∷ ns)

abbrev pub positions_text : List ℕ → List ℕ
positions_text counts = codes "positions" ++ counts_text counts

-- THE ANSWER of an edit that is refused: its name, and the line where it is known. Lack of memory
-- has no text: it is handed on.
abbrev pub edit_refusal_text : Refusal → Option (List ℕ)
edit_refusal_text edit.TooLarge = Some (codes "refused TooLarge")
edit_refusal_text edit.NoSuchLine = Some (codes "refused NoSuchLine")
edit_refusal_text edit.NoSuchInjection = Some (codes "refused NoSuchInjection")
edit_refusal_text edit.NoSuchFile = Some (codes "refused NoSuchFile")
edit_refusal_text edit.NoSuchType = Some (codes "refused NoSuchType")
edit_refusal_text edit.NoSuchConnection = Some (codes "refused NoSuchConnection")
edit_refusal_text (edit.NedSyntax line) = Some (codes "refused NedSyntax line " ++ decimal line)
edit_refusal_text (edit.Types fault) = Some (codes "refused " ++ type_fault_name fault)
edit_refusal_text (edit.IniSyntax line reason) =
    Some (codes "refused IniSyntax line " ++ decimal line)
edit_refusal_text (edit.Config fault) = Some (codes "refused " ++ config_fault_name fault)
edit_refusal_text (edit.NoMemory _) = None

-- ---- what an answer tells

-- THE TEXT TELLS THAT: of a run how it ended, of an edit the number of the message that it put in,
-- or why it is refused; of another command its text is what such a command is answered
abbrev pub IsTold : AnswerContent → List ℕ → Type 0
IsTold (told.Done o) text = (from : Option ℕ) × (executed : ℕ) × (text ≡ done_text o from executed)
IsTold (told.Edited injection) text =
    (valid_to : Option ℕ) × (text ≡ edited_text valid_to injection)
IsTold (told.Refused why) text = Some text ≡ edit_refusal_text why
IsTold told.NoCommand text = text ≡ codes "refused Command"
IsTold told.TooLarge text = text ≡ codes "refused TooLarge"
IsTold told.NotDone text = text ≡ codes "refused NotDone"
IsTold told.Written text = text ≡ codes "written"
IsTold told.Positions text = (counts : List ℕ) × (text ≡ positions_text counts)
IsTold told.Held text = (held : ℕ) × (text ≡ held_text held)
