-- What a client hears of one command.
use Rattle.std.proofs.Common.{◌≡◌, ℕ, ◌+◌, List, [], ◌∷◌, ◌++◌, Option, Some, None, IsSome, length, option_map, codes, arith, inl, inr, refl, sym, ap, ◌∙◌, subst}
use Rattle.module_api.specs.Behaviour.{Behaviour}
use Rattle.model_data.specs.declared.model.Model.{Model}
use Rattle.model_answers.specs.Answering.{answers_of}
use Rattle.checkpoint_runs.specs.Running.{boxes_left, resumed, supplied_left}
use Rattle.checkpoint_runs.specs.declared.phases.Phase.{Phase}
use Rattle.checkpoint_runs.specs.declared.phases.Phase.TheVariants.{Idle, Waiting, Declined}
use Rattle.checkpoint_runs.specs.declared.phases.Point.TheVariants as point
use Rattle.run_semantics.specs.Run.{Part}
use Rattle.kernel_actions.specs.declared.position.Position.{Position}
use Rattle.edit_session.specs.Editing.{Completed, Editing, completed, IsUndone}
use Rattle.checkpoint_runs.specs.declared.phases.Stood.{Stood}
use Rattle.checkpoints.specs.Stored.{Timeline}
use Rattle.checkpoint_runs.specs.Positions.{cut, last_count, HasStored}
use Rattle.edit_session.specs.Files.{files_of_last, scalars_of_run, vectors_of_run, AreFilesOf}
use Rattle.result_files.specs.declared.files.ResultFiles.{ResultFiles}
use Rattle.desk_client.specs.Answers.{held_text, positions_text}
use Rattle.desk_answers.specs.declared.answers.Answer.{Answer as Reply}
use Rattle.desk_answers.specs.declared.desk.DeskTurn.TheVariants as turns
use Rattle.desk_answers.specs.Turns.{AnswersCommand, AnswersEdit, Forgoes, HasRun, IsDone, IsMade, IsOfDesk, IsRefused, MayBeDone}
use Rattle.model_edits.specs.declared.edit.Edit.{Edit}
use Rattle.model_edits.specs.declared.edit.Edit.TheVariants as edit
use Rattle.desk_commands.specs.Commands.{IsEdit}
use Rattle.desk_commands.specs.declared.commands.Command.{Command}
use Rattle.desk_commands.specs.declared.commands.Command.TheVariants as command
use Rattle.desk_server.specs.Served.{Machine, AreHeard, Hears, HearsFiles, behind_run, command_asked, events_of}
use Rattle.transcripts.specs.Heard.{Answer, Files, Heard, OutOfMemory, Read}
use Rattle.transcripts.specs.declared.asked.AskedLine.{AskedLine}
use Rattle.desk_server.specs.Serving.{Seen, AreFilled, ComesTo, HearsNext, HearsOne, IsAt, IsCutOff, IsRunIn, RunsAlike}
use Rattle.desk_server.specs.declared.serving.Next.{Next}
use Rattle.desk_server.specs.declared.serving.Next.TheVariants as next
use Rattle.desk_client.specs.declared.clients.ServeEnd.TheVariants as stop
use Rattle.desk_server.specs.declared.serving.ServerStep.TheVariants as turn
use Rattle.desk_server.proofs.Alike.{same_answer, same_positions, same_stored}

nothing_more : (heard : List Heard) → heard ≡ heard ++ []
nothing_more [] = refl
nothing_more (h ∷ hs) = ap (λ (more : List Heard). h ∷ more) (nothing_more hs)

joined_on : (xs ys zs : List Heard) → (xs ++ ys) ++ zs ≡ xs ++ (ys ++ zs)
joined_on [] ys zs = refl
joined_on (x ∷ xs) ys zs = ap (λ (more : List Heard). x ∷ more) (joined_on xs ys zs)

-- ---- one thing

-- what is told of a command by one thing that is heard, wherever the machine may be
abbrev Told : Behaviour → Command → Heard → Machine → Editing → Type 0
Told b c what s e = (s' : Machine) × Hears b s c (what ∷ []) s' × IsAt b e s'

-- that is missed
cut_off : (b : Behaviour) (c : Command) (may_be : Machine → Type 0) (before after : Seen) (what : Heard) → after.asked ≡ before.asked → after.heard ≡ before.heard
    → ((s : Machine) → may_be s → Told b c what s after.editing) → IsCutOff b c may_be before after
cut_off b c may_be before after what asked same told = record {
  asked = asked;
  more = [];
  heard = same ∙ nothing_more before.heard;
  begins = λ s is. let t = told s is in record { missed = what; rest = []; behind = t.0; whole = t.1 };
}

-- it is heard, or missed
tells : (b : Behaviour) (c : Command) (before after : Seen) (what : Heard) (n : Next) → after.asked ≡ before.asked → after.may ≡ before.may → after.running ≡ None
    → HearsOne what before.heard after.heard n → ((s : Machine) → IsAt b before.editing s → Told b c what s after.editing) → HearsNext b c before after n
tells b c before after what next.GoOn asked may running heard told =
    (asked, may, running, λ s at. let t = told s at in (what ∷ [], t.0, heard, t.1, t.2))
tells b c before after what (next.Stop stop.Gone) asked may running heard told = cut_off b c (IsAt b before.editing) before after what asked heard told
tells b c before after what (next.Stop stop.End) asked may running heard told = absurd heard
tells b c before after what (next.Stop (stop.Device page written)) asked may running heard told = absurd heard

-- the same of a run
tells_going : (b : Behaviour) (limit : ℕ) (before after : Seen) (what : Heard) (n : Next) → after.asked ≡ before.asked → after.may ≡ before.may → after.running ≡ None
    → HearsOne what before.heard after.heard n → ((s : Machine) → RunsAlike b limit before.editing s → Told b (command.Run limit) what s after.editing)
    → IsRunIn b limit before after (turn.Over n)
tells_going b limit before after what next.GoOn asked may running heard told =
    inr (asked, may, running, λ s same. let t = told s same in (what ∷ [], t.0, heard, t.1, t.2))
tells_going b limit before after what (next.Stop stop.Gone) asked may running heard told =
    cut_off b (command.Run limit) (RunsAlike b limit before.editing) before after what asked heard told
tells_going b limit before after what (next.Stop stop.End) asked may running heard told = absurd heard
tells_going b limit before after what (next.Stop (stop.Device page written)) asked may running heard told = absurd heard

-- ---- runs

-- its model stays, and no run waits where one is done
pub record StaysOf (before after : Editing) : Type 0 where
  pub model : after.model ≡ before.model
  pub idle : IsSome after.done → after.phase ≡ Idle

none_some : {A : Type 0} (o : Option A) → o ≡ None → IsSome o → ⊥
none_some None e is = cc
none_some (Some x) e is = cc

-- while a run waits none is done
pub idle_done : (phase : Phase) (done : Option Completed) (known : Option ℕ) (ps : Timeline Position) → IsUndone phase done known ps → IsSome done → phase ≡ Idle
idle_done Idle done known ps left is = refl
idle_done (Waiting from point.Setup) done known ps left is = absurd (none_some done left.0 is)
idle_done (Waiting from point.Position) done known ps left is = absurd (none_some done left.none is)
idle_done (Waiting from (point.Start k id)) done known ps left is = absurd (none_some done left.none is)
idle_done (Declined from point.Setup) done known ps left is = absurd (none_some done left.0 is)
idle_done (Declined from point.Position) done known ps left is = absurd (none_some done left.none is)
idle_done (Declined from (point.Start k id)) done known ps left is = absurd (none_some done left.none is)

-- a run is done: the session is where the machine then is
at_done : (b : Behaviour) (limit : ℕ) (before after : Editing) (s : Machine) → StaysOf before after → IsDone b before limit after → RunsAlike b limit before s
    → IsAt b after (behind_run b s limit)
at_done b limit before after s stays done same = record {
  model = stays.model ∙ same.model;
  done = done.done ∙ ap (λ (m : Model). Some (completed b m limit)) same.model;
  idle = stays.idle (subst (λ (o : Option Completed). IsSome o) (sym done.done) refl);
  held = ap (λ (ps : List Part). length ps + length after.supplied) done.boxes
      ∙ ap (λ (ps : List Part). length (boxes_left b (answers_of before.model) limit) + length ps) done.supplied
      ∙ ap (λ (m : Model). length (boxes_left b (answers_of m) limit) + length (supplied_left b (answers_of m) limit)) same.model;
  known = done.known ∙ ap (λ (m : Model). Some (events_of b m limit)) same.model;
  positions = done.positions ∙ same_positions b limit before s same;
}

-- and its answer is told
pub tells_run : (b : Behaviour) (limit : ℕ) (before after : Seen) (text : List ℕ) (n : Next) → after.asked ≡ before.asked → after.may ≡ before.may
    → after.running ≡ None → StaysOf before.editing after.editing → HasRun b before.editing limit text after.editing
    → HearsOne (Answer text) before.heard after.heard n → IsRunIn b limit before after (turn.Over n)
tells_run b limit before after text n asked may running stays ran heard = tells_going b limit before after (Answer text) n asked may running heard (λ s same. (
  behind_run b s limit,
  inl (ap (λ (t : List ℕ). Answer t ∷ []) (ran.answer ∙ same_answer b limit before.editing s same), refl),
  at_done b limit before.editing after.editing s stays ran.done same,
))

-- Memory ran out for a run, and none is done: the positions are those that it stored up to where it
-- stood, and nothing is known but the events up to the last of them.
pub record LeavesNone (b : Behaviour) (before : Editing) (limit : ℕ) (after : Editing) : Type 0 where
  pub done : after.done ≡ None
  pub idle : after.phase ≡ Idle
  pub supplied : after.supplied ≡ []
  pub known : after.known ≡ last_count after.positions.stored
  pub stood : Stood
  pub positions : HasStored b (answers_of before.model) limit (resumed limit before.phase) before.positions stood after.positions

none_left : (b : Behaviour) (limit : ℕ) (before after : Editing) (s : Machine) → StaysOf before after → LeavesNone b before limit after → RunsAlike b limit before s
    → Told b (command.Run limit) OutOfMemory s after
none_left b limit before after s stays none same = (
  record { model = s.model; last = None; held = length after.boxes + length after.supplied; known = last_count after.positions.stored; positions = after.positions },
  inr (
    refl,
    inl (record { model = refl; last = refl; known = refl; stood = none.stood; positions = same_stored b limit before s none.stood after.positions same none.positions }),
  ),
  record {
    model = stays.model ∙ same.model;
    done = none.done;
    idle = none.idle;
    held = refl;
    known = none.known;
    positions = refl;
  },
)

-- and that is told
pub tells_none : (b : Behaviour) (limit : ℕ) (before after : Seen) (n : Next) → after.asked ≡ before.asked → after.may ≡ before.may → after.running ≡ None
    → StaysOf before.editing after.editing → LeavesNone b before.editing limit after.editing → HearsOne OutOfMemory before.heard after.heard n
    → IsRunIn b limit before after (turn.Over n)
tells_none b limit before after n asked may running stays none heard =
    tells_going b limit before after OutOfMemory n asked may running heard (λ s same. none_left b limit before.editing after.editing s stays none same)

-- memory ran out for a run: none is done, or this one is
after_memory : (b : Behaviour) (limit : ℕ) (before after : Editing) (s : Machine) → StaysOf before after → MayBeDone b before limit after → RunsAlike b limit before s
    → Told b (command.Run limit) OutOfMemory s after
after_memory b limit before after s stays (inl none) same =
    none_left b limit before after s stays (record { done = none.done; idle = none.idle; supplied = none.supplied; known = none.known; stood = none.stood; positions = none.positions }) same
after_memory b limit before after s stays (inr done) same =
    (behind_run b s limit, inr (refl, inr refl), at_done b limit before after s stays done same)

-- and that is told
pub tells_memory : (b : Behaviour) (limit : ℕ) (before after : Seen) (n : Next) → after.asked ≡ before.asked → after.may ≡ before.may
    → after.running ≡ None → StaysOf before.editing after.editing → MayBeDone b before.editing limit after.editing
    → HearsOne OutOfMemory before.heard after.heard n
    → IsRunIn b limit before after (turn.Over n)
tells_memory b limit before after n asked may running stays is heard =
    tells_going b limit before after OutOfMemory n asked may running heard (λ s same. after_memory b limit before.editing after.editing s stays is same)

-- ---- edits

edited : (b : Behaviour) (e : Edit) (before after : Editing) (text : List ℕ) → AnswersEdit b before e text after → (s : Machine) → IsAt b before s
    → Told b (command.Edit e) (Answer text) s after
edited b e before after text (inl made) s at = (
  record { model = after.model; last = None; held = s.held; known = made.0; positions = cut made.0 s.positions },
  inl (text, refl, inl (subst (λ k. IsMade b s.model k e text after.model made.0) at.known (subst (λ m. IsMade b m before.known e text after.model made.0) at.model made.1), refl, refl, refl)),
  record {
    model = refl;
    done = ap (λ (x : Editing). x.done) made.2;
    idle = ap (λ (x : Editing). x.phase) made.2;
    held = ap (λ (x : Editing). length x.boxes + length x.supplied) made.2 ∙ at.held;
    known = ap (λ (x : Editing). x.known) made.2;
    positions = ap (λ (x : Editing). x.positions) made.2 ∙ ap (cut made.0) at.positions;
  },
)
edited b e before after text (inr refused) s at = (
  s,
  inl (text, refl, inr (subst (λ m. IsRefused m e text) at.model refused.0, refl)),
  subst (λ x. IsAt b x s) (sym refused.1) at,
)

-- what is told of an edit
pub tells_edit : (b : Behaviour) (e : Edit) (before after : Seen) (text : List ℕ) (n : Next) → after.asked ≡ before.asked → after.may ≡ before.may
    → after.running ≡ None → AnswersEdit b before.editing e text after.editing → HearsOne (Answer text) before.heard after.heard n
    → HearsNext b (command.Edit e) before after n
tells_edit b e before after text n asked may running is heard =
    tells b (command.Edit e) before after (Answer text) n asked may running heard (edited b e before.editing after.editing text is)

-- memory ran out for it
pub tells_no_edit : (b : Behaviour) (e : Edit) (before after : Seen) (n : Next) → after.asked ≡ before.asked → after.may ≡ before.may → after.running ≡ None
    → after.editing ≡ before.editing → HearsOne OutOfMemory before.heard after.heard n → HearsNext b (command.Edit e) before after n
tells_no_edit b e before after n asked may running same heard =
    tells b (command.Edit e) before after OutOfMemory n asked may running heard (λ s at. (s, inr (refl, refl), subst (λ x. IsAt b x s) (sym same) at))

-- or for the line that asks for it
pub tells_no_line : (b : Behaviour) (c : Command) (before after : Seen) (n : Next) → IsEdit c → after.asked ≡ before.asked → after.may ≡ before.may → after.running ≡ None
    → after.editing ≡ before.editing → HearsOne OutOfMemory before.heard after.heard n → ComesTo b c before after (turn.Over n)
tells_no_line b (command.Edit e) before after n is asked may running same heard = tells_no_edit b e before after n asked may running same heard
tells_no_line b (command.Run limit) before after n is asked may running same heard = absurd is
tells_no_line b (command.Ned number path) before after n is asked may running same heard =
    tells b (command.Ned number path) before after OutOfMemory n asked may running heard (λ s at. (s, inr (refl, refl), subst (λ x. IsAt b x s) (sym same) at))
tells_no_line b command.Positions before after n is asked may running same heard = absurd is
tells_no_line b command.Held before after n is asked may running same heard = absurd is
tells_no_line b command.Write before after n is asked may running same heard = absurd is
tells_no_line b command.Unknown before after n is asked may running same heard = absurd is
tells_no_line b command.TooLarge before after n is asked may running same heard = absurd is

-- ---- a NED file that is read

-- the client can't read it: nothing is heard
pub misses_read : (b : Behaviour) (number : ℕ) (path : List ℕ) (before after : Seen) → after.asked ≡ before.asked → after.heard ≡ before.heard
    → IsCutOff b (command.Ned number path) (IsAt b before.editing) before after
misses_read b number path before after asked same = record {
  asked = asked;
  more = [];
  heard = same ∙ nothing_more before.heard;
  begins = λ s at. record { missed = OutOfMemory; rest = []; behind = s; whole = inr (refl, refl) };
}

-- it was read, and the answer to the edit is missed
misses_answer : (b : Behaviour) (number : ℕ) (path text : List ℕ) (before middle after : Seen) → middle.asked ≡ before.asked → middle.editing ≡ before.editing
    → middle.heard ≡ before.heard ++ Read path text ∷ [] → IsCutOff b (command.Edit (edit.ReplaceNed number text)) (IsAt b middle.editing) middle after
    → IsCutOff b (command.Ned number path) (IsAt b before.editing) before after
misses_answer b number path text before middle after asked same read cut = record {
  asked = cut.asked ∙ asked;
  more = Read path text ∷ cut.more;
  heard = cut.heard ∙ ap (λ (hs : List Heard). hs ++ cut.more) read ∙ joined_on before.heard (Read path text ∷ []) cut.more;
  begins = λ s at. let t = cut.begins s (subst (λ x. IsAt b x s) (sym same) at) in
      record { missed = t.missed; rest = t.rest; behind = t.behind; whole = inl (text, cut.more ++ t.missed ∷ t.rest, refl, t.whole) };
}

-- it was read, and what is told of the edit follows
pub tells_replaced : (b : Behaviour) (number : ℕ) (path text : List ℕ) (before middle after : Seen) (n : Next) → middle.asked ≡ before.asked → middle.may ≡ before.may
    → middle.editing ≡ before.editing → middle.heard ≡ before.heard ++ Read path text ∷ [] → HearsNext b (command.Edit (edit.ReplaceNed number text)) middle after n
    → HearsNext b (command.Ned number path) before after n
tells_replaced b number path text before middle after next.GoOn asked may same read told = (
  told.0 ∙ asked,
  told.1 ∙ may,
  told.2,
  λ s at. let t = told.3 s (subst (λ x. IsAt b x s) (sym same) at) in (
    Read path text ∷ t.0,
    t.1,
    t.2 ∙ ap (λ (hs : List Heard). hs ++ t.0) read ∙ joined_on before.heard (Read path text ∷ []) t.0,
    inl (text, t.0, refl, t.3),
    t.4,
  ),
)
tells_replaced b number path text before middle after (next.Stop stop.Gone) asked may same read told = misses_answer b number path text before middle after asked same read told
tells_replaced b number path text before middle after (next.Stop stop.End) asked may same read told = absurd told
tells_replaced b number path text before middle after (next.Stop (stop.Device page written)) asked may same read told = misses_answer b number path text before middle after asked same read told

-- ---- what changes nothing

-- what is told of the positions
pub tells_positions : (b : Behaviour) (before after : Seen) (text : List ℕ) (n : Next) → after.asked ≡ before.asked → after.may ≡ before.may → after.running ≡ None
    → after.editing ≡ before.editing → text ≡ positions_text before.editing.positions.stored → HearsOne (Answer text) before.heard after.heard n
    → HearsNext b command.Positions before after n
tells_positions b before after text n asked may running same is heard = tells b command.Positions before after (Answer text) n asked may running heard (λ s at. (
  s,
  (inl (ap (λ (t : List ℕ). Answer t ∷ []) (is ∙ ap (λ (p : Timeline ℕ). positions_text p.stored) at.positions)), refl),
  subst (λ x. IsAt b x s) (sym same) at,
))

-- memory ran out for that
pub tells_no_positions : (b : Behaviour) (before after : Seen) (n : Next) → after.asked ≡ before.asked → after.may ≡ before.may → after.running ≡ None
    → after.editing ≡ before.editing → HearsOne OutOfMemory before.heard after.heard n → HearsNext b command.Positions before after n
tells_no_positions b before after n asked may running same heard =
    tells b command.Positions before after OutOfMemory n asked may running heard (λ s at. (s, (inr refl, refl), subst (λ x. IsAt b x s) (sym same) at))

-- what is told of the boxes
pub tells_held : (b : Behaviour) (before after : Seen) (text : List ℕ) (n : Next) → after.asked ≡ before.asked → after.may ≡ before.may → after.running ≡ None
    → after.editing ≡ before.editing → text ≡ held_text (length before.editing.boxes + length before.editing.supplied) → HearsOne (Answer text) before.heard after.heard n → HearsNext b command.Held before after n
tells_held b before after text n asked may running same is heard = tells b command.Held before after (Answer text) n asked may running heard (λ s at. (
  s,
  (inl (ap (λ (t : List ℕ). Answer t ∷ []) (is ∙ ap held_text at.held)), refl),
  subst (λ x. IsAt b x s) (sym same) at,
))

-- memory ran out for that
pub tells_no_number : (b : Behaviour) (before after : Seen) (n : Next) → after.asked ≡ before.asked → after.may ≡ before.may → after.running ≡ None
    → after.editing ≡ before.editing → HearsOne OutOfMemory before.heard after.heard n → HearsNext b command.Held before after n
tells_no_number b before after n asked may running same heard =
    tells b command.Held before after OutOfMemory n asked may running heard (λ s at. (s, (inr refl, refl), subst (λ x. IsAt b x s) (sym same) at))

-- what is told of a line that is no command, or too long
pub tells_unknown : (b : Behaviour) (before after : Seen) (n : Next) → after.asked ≡ before.asked → after.may ≡ before.may → after.running ≡ None
    → after.editing ≡ before.editing → HearsOne (Answer (codes "refused Command")) before.heard after.heard n → HearsNext b command.Unknown before after n
tells_unknown b before after n asked may running same heard =
    tells b command.Unknown before after (Answer (codes "refused Command")) n asked may running heard (λ s at. (s, (refl, refl), subst (λ x. IsAt b x s) (sym same) at))

pub tells_too_large : (b : Behaviour) (before after : Seen) (n : Next) → after.asked ≡ before.asked → after.may ≡ before.may → after.running ≡ None
    → after.editing ≡ before.editing → HearsOne (Answer (codes "refused TooLarge")) before.heard after.heard n → HearsNext b command.TooLarge before after n
tells_too_large b before after n asked may running same heard =
    tells b command.TooLarge before after (Answer (codes "refused TooLarge")) n asked may running heard (λ s at. (s, (refl, refl), subst (λ x. IsAt b x s) (sym same) at))

-- ---- what the desk answers by itself

-- what is told of a command that needs nothing but the desk
pub tells_reply : (b : Behaviour) (c : Command) (before after : Seen) (answer : Reply) (n : Next) → IsOfDesk c → after.asked ≡ before.asked → after.may ≡ before.may
    → after.running ≡ None → AnswersCommand b before.editing c (turns.Text answer) after.editing → HearsOne (Answer answer.text) before.heard after.heard n
    → HearsNext b c before after n
tells_reply b (command.Run limit) before after answer n plain asked may running is heard = absurd plain
tells_reply b (command.Ned number path) before after answer n plain asked may running is heard = absurd plain
tells_reply b command.Write before after answer n plain asked may running is heard = absurd plain
tells_reply b (command.Edit e) before after answer n plain asked may running is heard = tells_edit b e before after answer.text n asked may running is heard
tells_reply b command.Positions before after answer n plain asked may running is heard = tells_positions b before after answer.text n asked may running is.1 is.0 heard
tells_reply b command.Held before after answer n plain asked may running is heard = tells_held b before after answer.text n asked may running is.1 is.0 heard
tells_reply b command.Unknown before after answer n plain asked may running is heard =
    tells_unknown b before after n asked may running is.1 (subst (λ (t : List ℕ). HearsOne (Answer t) before.heard after.heard n) is.0 heard)
tells_reply b command.TooLarge before after answer n plain asked may running is heard =
    tells_too_large b before after n asked may running is.1 (subst (λ (t : List ℕ). HearsOne (Answer t) before.heard after.heard n) is.0 heard)

-- memory ran out for it
pub tells_forgone : (b : Behaviour) (c : Command) (before after : Seen) (n : Next) → IsOfDesk c → after.asked ≡ before.asked → after.may ≡ before.may → after.running ≡ None
    → Forgoes b c before.editing after.editing → HearsOne OutOfMemory before.heard after.heard n → HearsNext b c before after n
tells_forgone b (command.Run limit) before after n plain asked may running is heard = absurd plain
tells_forgone b (command.Ned number path) before after n plain asked may running is heard = absurd plain
tells_forgone b command.Write before after n plain asked may running is heard = absurd plain
tells_forgone b (command.Edit e) before after n plain asked may running is heard = tells_no_edit b e before after n asked may running is heard
tells_forgone b command.Positions before after n plain asked may running is heard = tells_no_positions b before after n asked may running is heard
tells_forgone b command.Held before after n plain asked may running is heard = tells_no_number b before after n asked may running is heard
tells_forgone b command.Unknown before after n plain asked may running is heard = absurd is
tells_forgone b command.TooLarge before after n plain asked may running is heard = absurd is

-- ---- files

no_files : (b : Behaviour) (m : Model) (of : Option Completed) (last : Option ℕ) → of ≡ option_map (completed b m) last → of ≡ None
    → HearsFiles b m last (Answer (codes "refused NotDone") ∷ [])
no_files b m of None at none = refl
no_files b m of (Some limit) at none = cc

-- no run is done, and that is told
pub tells_not_done : (b : Behaviour) (before after : Seen) (n : Next) → after.asked ≡ before.asked → after.may ≡ before.may → after.running ≡ None
    → after.editing ≡ before.editing → before.editing.done ≡ None → HearsOne (Answer (codes "refused NotDone")) before.heard after.heard n → HearsNext b command.Write before after n
tells_not_done b before after n asked may running same none heard = tells b command.Write before after (Answer (codes "refused NotDone")) n asked may running heard (λ s at. (
  s,
  (no_files b s.model before.editing.done s.last at.done none, refl),
  subst (λ x. IsAt b x s) (sym same) at,
))

-- the files of the last run say whether one is done
pub no_last : (b : Behaviour) (m : Model) (last : Option Completed) → None ≡ files_of_last b m last → last ≡ None
no_last b m None e = refl
no_last b m (Some d) e = cc

pub some_last : (b : Behaviour) (m : Model) (last : Option Completed) (files : ResultFiles) → AreFilesOf b m last files → IsSome last
some_last b m None files e = cc
some_last b m (Some d) files e = refl

-- memory ran out before the files of the last run, and that is told
memory_files : (b : Behaviour) (m : Model) (of : Option Completed) (last : Option ℕ) → of ≡ option_map (completed b m) last → IsSome of → HearsFiles b m last (OutOfMemory ∷ [])
memory_files b m of None at is = cc
memory_files b m of (Some limit) at is = inr refl

pub tells_no_files : (b : Behaviour) (before after : Seen) (n : Next) → after.asked ≡ before.asked → after.may ≡ before.may → after.running ≡ None
    → after.editing ≡ before.editing → IsSome before.editing.done → HearsOne OutOfMemory before.heard after.heard n → HearsNext b command.Write before after n
tells_no_files b before after n asked may running same is heard = tells b command.Write before after OutOfMemory n asked may running heard (λ s at. (
  s,
  (memory_files b s.model before.editing.done s.last at.done is, refl),
  subst (λ x. IsAt b x s) (sym same) at,
))

-- the files of the last run, and the answer after them
abbrev files_heard : List ℕ → List ℕ → List ℕ → List Heard
files_heard config scalars vectors = Files config scalars vectors ∷ Answer (codes "written") ∷ []

some_files : (b : Behaviour) (m : Model) (of : Option Completed) (last : Option ℕ) → of ≡ option_map (completed b m) last → IsSome of
    → (scalars vectors : List ℕ) × HearsFiles b m last (files_heard m.config scalars vectors)
some_files b m of None at is = cc
some_files b m of (Some limit) at is = (scalars_of_run b m limit, vectors_of_run b m limit, inl refl)

-- the device of one failed, or the client is gone: nothing is heard
pub misses_files : (b : Behaviour) (before after : Seen) → after.asked ≡ before.asked → after.heard ≡ before.heard → IsSome before.editing.done
    → IsCutOff b command.Write (IsAt b before.editing) before after
misses_files b before after asked same is = record {
  asked = asked;
  more = [];
  heard = same ∙ nothing_more before.heard;
  begins = λ s at. let f = some_files b s.model before.editing.done s.last at.done is in
      record { missed = Files s.model.config f.0 f.1; rest = Answer (codes "written") ∷ []; behind = s; whole = (f.2, refl) };
}

filled_by : (b : Behaviour) (m : Model) (limit : ℕ) (of : Option Completed) (config scalars vectors : List ℕ) → of ≡ Some (completed b m limit) → config ≡ m.config
    → AreFilled b m of scalars vectors → files_heard config scalars vectors ≡ files_heard m.config (scalars_of_run b m limit) (vectors_of_run b m limit)
filled_by b m limit of config scalars vectors at named filled =
    let f = subst (λ d. AreFilled b m d scalars vectors) at filled in rw (named, f.0, f.1) refl

whole_files : (b : Behaviour) (m : Model) (of : Option Completed) (last : Option ℕ) (config scalars vectors : List ℕ) → of ≡ option_map (completed b m) last
    → config ≡ m.config → AreFilled b m of scalars vectors → HearsFiles b m last (files_heard config scalars vectors)
whole_files b m of None config scalars vectors at named filled = absurd (subst (λ d. AreFilled b m d scalars vectors) at filled)
whole_files b m of (Some limit) config scalars vectors at named filled = inl (filled_by b m limit of config scalars vectors at named filled)

files_of_machine : (b : Behaviour) (e : Editing) (config scalars vectors : List ℕ) → config ≡ e.model.config → AreFilled b e.model e.done scalars vectors
    → (s : Machine) → IsAt b e s → HearsFiles b s.model s.last (files_heard config scalars vectors)
files_of_machine b e config scalars vectors named filled s at =
    whole_files b s.model e.done s.last config scalars vectors at.done (named ∙ ap (λ (m : Model). m.config) at.model)
    (subst (λ m. AreFilled b m e.done scalars vectors) at.model filled)

-- both are kept, and that is told
pub tells_written : (b : Behaviour) (before after : Seen) (kept : List Heard) (config scalars vectors : List ℕ) (n : Next) → after.asked ≡ before.asked
    → after.may ≡ before.may → after.running ≡ None → after.editing ≡ before.editing → config ≡ before.editing.model.config
    → AreFilled b before.editing.model before.editing.done scalars vectors → kept ≡ before.heard ++ Files config scalars vectors ∷ []
    → HearsOne (Answer (codes "written")) kept after.heard n → HearsNext b command.Write before after n
tells_written b before after kept config scalars vectors next.GoOn asked may running same named filled keeps heard = (
  asked,
  may,
  running,
  λ s at. (
    files_heard config scalars vectors,
    s,
    heard ∙ ap (λ (h : List Heard). h ++ Answer (codes "written") ∷ []) keeps ∙ joined_on before.heard (Files config scalars vectors ∷ []) (Answer (codes "written") ∷ []),
    (files_of_machine b before.editing config scalars vectors named filled s at, refl),
    subst (λ x. IsAt b x s) (sym same) at,
  ),
)
tells_written b before after kept config scalars vectors (next.Stop stop.Gone) asked may running same named filled keeps heard = record {
  asked = asked;
  more = Files config scalars vectors ∷ [];
  heard = heard ∙ keeps;
  begins = λ s at. record {
    missed = Answer (codes "written");
    rest = [];
    behind = s;
    whole = (files_of_machine b before.editing config scalars vectors named filled s at, refl);
  };
}
tells_written b before after kept config scalars vectors (next.Stop stop.End) asked may running same named filled keeps heard = absurd heard
tells_written b before after kept config scalars vectors (next.Stop (stop.Device page written)) asked may running same named filled keeps heard = absurd heard

-- ---- one thing more is asked and heard

pub heard_more : (b : Behaviour) (s mid after : Machine) (asks : List AskedLine) (hs front : List Heard) (a : AskedLine)
    → AreHeard b s asks hs mid → Hears b mid (command_asked a) front after → AreHeard b s (asks ++ a ∷ []) (hs ++ front) after
heard_more b s mid after [] hs front a are is = (
  front,
  [],
  after,
  ap (λ (x : List Heard). x ++ front) are.0 ∙ nothing_more front,
  subst (λ (x : Machine). Hears b x (command_asked a) front after) are.1 is,
  (refl, refl),
)
heard_more b s mid after (x ∷ asks) hs front a are is = (
  are.0,
  are.1 ++ front,
  are.2,
  ap (λ (h : List Heard). h ++ front) are.3 ∙ joined_on are.0 are.1 front,
  are.4,
  heard_more b are.2 mid after asks are.1 front a are.5 is,
)
