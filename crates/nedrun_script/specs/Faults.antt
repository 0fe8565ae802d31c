-- Whether the last run ended in a fault, by what was heard.
use Rattle.std.specs.Prelude.{◌==◌, ℕ, Bool, true, false, List, [], ◌∷◌, codes, if◌then◌else◌, ◌≡◌}
use Rattle.std.specs.List.{starts_with}
use Rattle.run_semantics.specs.declared.outcome.Outcome.TheVariants as outcome
use Rattle.desk_client.specs.declared.told.AnswerContent.{AnswerContent}
use Rattle.desk_client.specs.declared.told.AnswerContent.TheVariants as told
use Rattle.transcripts.specs.Heard.{Heard, Answer, Files, OutOfMemory, Read}
use Rattle.nedrun_script.specs.Asking.{IsInOrder}
use Rattle.nedrun_script.specs.declared.dialogue.Dialogue.{Dialogue}

-- an answer begins with these bytes
abbrev pub begins : List ℕ → List ℕ → Bool
begins answer front = starts_with (λ a b. a == b) answer front

-- an answer tells that a run is done: with a fault or not; after any other one it is as it was
-- before
abbrev pub fault_behind : Bool → Heard → Bool
fault_behind before (Answer text) = if begins text (codes "done fault ") then true
    else (if begins text (codes "done ") then false else before)
fault_behind before (Files _ _ _) = before
fault_behind before (Read _ _) = before
fault_behind before OutOfMemory = before

-- the same by what the answer tells
abbrev pub fault_told : Bool → AnswerContent → Bool
fault_told before (told.Done (outcome.Fault event path f)) = true
fault_told before (told.Done _) = false
fault_told before _ = before

abbrev pub fault_from : Bool → List Heard → Bool
fault_from before [] = before
fault_from before (h ∷ hs) = fault_from (fault_behind before h) hs

-- THE LAST RUN of all that was heard ended in a fault
abbrev pub ends_in_fault : List Heard → Bool
ends_in_fault hs = fault_from false hs

module _ {I : Type 0} where
  -- the dialogue knows whether it did
  abbrev pub KnowsFault : Dialogue I → Type 0
  KnowsFault d = d.has_fault ≡ ends_in_fault d.transcript.heard

  -- WHAT A DIALOGUE KEEPS: what was asked is in its order, and it knows whether the last run ended
  -- in a fault
  abbrev pub Keeps : Dialogue I → Type 0
  Keeps d = IsInOrder d × KnowsFault d
