-- What a client asks of a desk, and what it hears: the plain machine.
use Rattle.std.specs.Prelude.{◌≡◌, ◌⊎◌, ℕ, ◌+◌, List, [], ◌∷◌, ◌++◌, length, Option, Some, None, codes}
use Rattle.module_api.specs.Behaviour.{Behaviour}
use Rattle.model_data.specs.declared.model.Model.{Model}
use Rattle.model_answers.specs.Answering.{answers_of}
use Rattle.model_edits.specs.declared.edit.Edit.{Edit}
use Rattle.model_edits.specs.declared.edit.Edit.TheVariants as edit
use Rattle.desk_commands.specs.Commands.{command_of}
use Rattle.desk_commands.specs.declared.commands.Command.{Command}
use Rattle.desk_commands.specs.declared.commands.Command.TheVariants as command
use Rattle.checkpoint_runs.specs.Running.{boxes_left, fresh_run, supplied_left}
use Rattle.edit_session.specs.Files.{scalars_of_run, vectors_of_run}
use Rattle.checkpoint_runs.specs.declared.phases.Stood.{Stood}
use Rattle.checkpoints.specs.Stored.{begun, Timeline}
use Rattle.checkpoint_runs.specs.Positions.{cut, last_count, positions_after, HasStored}
use Rattle.desk_client.specs.Answers.{held_text, positions_text}
use Rattle.desk_answers.specs.Turns.{run_answer, IsMade, IsRefused}
use Rattle.transcripts.specs.Heard.{Answer, Files, Heard, OutOfMemory, Read}
use Rattle.transcripts.specs.declared.asked.AskedLine.{AskedLine}
use Rattle.transcripts.specs.declared.asked.AskedLine.TheVariants as asked

-- THE PLAIN MACHINE holds a model, the limit of the last run that is done, if there is one, how
-- many boxes there are, of how many events of a run of the model the questions are known, and after
-- which events a position is stored, with the interval. It keeps nothing else of a run.
pub record Machine : Type 0 where
  pub model : Model
  pub last : Option ℕ
  pub held : ℕ
  pub known : Option ℕ
  pub positions : Timeline ℕ

-- how many events a run of the model has, up to that limit
abbrev pub events_of : Behaviour → Model → ℕ → ℕ
events_of b m limit = (fresh_run b (answers_of m) limit).world.count

-- the command that is asked for; a line that is too long to be kept is too large
abbrev pub command_asked : AskedLine → Command
command_asked (asked.Line text) = command_of text
command_asked asked.TooLong = command.TooLarge

-- the machine after a run to that limit: all events of it are known, and there are as many boxes as
-- it leaves, and its positions
abbrev pub behind_run : Behaviour → Machine → ℕ → Machine
behind_run b s limit = record {
  model = s.model;
  last = Some limit;
  held = length (boxes_left b (answers_of s.model) limit)
      + length (supplied_left b (answers_of s.model) limit);
  known = Some (events_of b s.model limit);
  positions = positions_after b (answers_of s.model) limit None s.positions;
}

-- Memory ran out for a run to that limit, and none is done: its positions are those that it stored
-- up to where it stood, known are the events up to the last of them, and nothing is said of the
-- boxes.
pub record GivesUpRun (b : Behaviour) (s : Machine) (limit : ℕ) (s' : Machine) : Type 0 where
  pub model : s'.model ≡ s.model
  pub last : s'.last ≡ None
  pub known : s'.known ≡ last_count s'.positions.stored
  pub stood : Stood
  pub positions : HasStored b (answers_of s.model) limit None s.positions stood s'.positions

-- A RUN is answered as a fresh run of the model that begins at the greatest position up to the
-- limit. Or memory ran out: the run may be done nevertheless.
abbrev pub HearsRun : Behaviour → Machine → ℕ → List Heard → Machine → Type 0
HearsRun b s limit heard s' =
    ((heard ≡ Answer (run_answer b s.model limit s.positions.stored) ∷ [])
    × (s' ≡ behind_run b s limit))
    ⊎ ((heard ≡ OutOfMemory ∷ []) × (GivesUpRun b s limit s' ⊎ (s' ≡ behind_run b s limit)))

-- AN EDIT is made, and then no run is done, the boxes stay, and so do the positions up to which the
-- last run stays valid; or it is refused, or memory ran out, and then nothing changed.
abbrev pub HearsEdit : Behaviour → Machine → Edit → List Heard → Machine → Type 0
HearsEdit b s e heard s' =
    ((text : List ℕ) × (heard ≡ Answer text ∷ [])
    × ((IsMade b s.model s.known e text s'.model s'.known × (s'.last ≡ None) × (s'.held ≡ s.held)
    × (s'.positions ≡ cut s'.known s.positions)) ⊎ (IsRefused s.model e text × (s' ≡ s))))
    ⊎ ((heard ≡ OutOfMemory ∷ []) × (s' ≡ s))

-- A NED FILE is read that a command names, and then an edit is answered by which the file of that
-- number is what was read; or memory ran out before.
abbrev pub HearsNed : Behaviour → Machine → ℕ → List ℕ → List Heard → Machine → Type 0
HearsNed b s number path heard s' =
    ((text : List ℕ) × (rest : List Heard) × (heard ≡ Read path text ∷ rest)
    × HearsEdit b s (edit.ReplaceNed number text) rest s')
    ⊎ ((heard ≡ OutOfMemory ∷ []) × (s' ≡ s))

-- AFTER WHICH EVENTS a position is stored is told, or memory ran out.
abbrev pub HearsPositions : List ℕ → List Heard → Type 0
HearsPositions positions heard = (heard ≡ Answer (positions_text positions) ∷ [])
    ⊎ (heard ≡ OutOfMemory ∷ [])

-- HOW MANY BOXES there are is told, or memory ran out.
abbrev pub HearsHeld : ℕ → List Heard → Type 0
HearsHeld held heard = (heard ≡ Answer (held_text held) ∷ []) ⊎ (heard ≡ OutOfMemory ∷ [])

-- THE FILES of the last run are those of a fresh run of the model to its limit, and of the
-- configuration that the model selects; or memory ran out before. Where no run is done there are
-- none.
abbrev pub HearsFiles : Behaviour → Model → Option ℕ → List Heard → Type 0
HearsFiles b m None heard = heard ≡ Answer (codes "refused NotDone") ∷ []
HearsFiles b m (Some limit) heard = (heard
    ≡ Files m.config (scalars_of_run b m limit) (vectors_of_run b m limit)
    ∷ Answer (codes "written") ∷ [])
    ⊎ (heard ≡ OutOfMemory ∷ [])

-- WHAT IS HEARD OF A COMMAND, and what the machine holds after it
abbrev pub Hears : Behaviour → Machine → Command → List Heard → Machine → Type 0
Hears b s (command.Run limit) heard s' = HearsRun b s limit heard s'
Hears b s (command.Edit e) heard s' = HearsEdit b s e heard s'
Hears b s (command.Ned number path) heard s' = HearsNed b s number path heard s'
Hears b s command.Positions heard s' = HearsPositions s.positions.stored heard × (s' ≡ s)
Hears b s command.Held heard s' = HearsHeld s.held heard × (s' ≡ s)
Hears b s command.Write heard s' = HearsFiles b s.model s.last heard × (s' ≡ s)
Hears b s command.Unknown heard s' = (heard ≡ Answer (codes "refused Command") ∷ []) × (s' ≡ s)
Hears b s command.TooLarge heard s' = (heard ≡ Answer (codes "refused TooLarge") ∷ []) × (s' ≡ s)

-- WHAT IS HEARD OF ALL that was asked, one after the other: each by the machine that all before it
-- left
abbrev pub AreHeard : Behaviour → Machine → List AskedLine → List Heard → Machine → Type 0
AreHeard b s [] heard s' = (heard ≡ []) × (s' ≡ s)
AreHeard b s (a ∷ more) heard s' = (front rest : List Heard) × (mid : Machine)
    × (heard ≡ front ++ rest) × Hears b s (command_asked a) front mid × AreHeard b mid more rest s'

-- a machine that has run nothing has no boxes and no positions
abbrev pub fresh_machine : Model → ℕ → Machine
fresh_machine m interval =
    record { model = m; last = None; held = 0; known = None; positions = begun interval }

-- THE FIRST PART of what a command is answered is heard, or nothing; what comes next is missed.
pub record BeginsToHear (b : Behaviour) (s : Machine) (c : Command)
    (heard : List Heard) : Type 0 where
  pub missed : Heard
  pub rest : List Heard
  pub behind : Machine
  pub whole : Hears b s c (heard ++ missed ∷ rest) behind

-- Of the last that was asked not all is heard, and nothing else.
pub record IsBroken (b : Behaviour) (s : Machine) (asks : List AskedLine)
    (heard : List Heard) : Type 0 where
  pub before : List AskedLine
  pub last : AskedLine
  pub all : asks ≡ before ++ last ∷ []
  pub front : List Heard
  pub more : List Heard
  pub heard_is : heard ≡ front ++ more
  pub left : Machine
  pub are : AreHeard b s before front left
  pub begins : BeginsToHear b left (command_asked last) more
