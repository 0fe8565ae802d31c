-- One turn of a desk with a client after the other.
use Rattle.std.proofs.Common.{◌≡◌, ℕ, suc, ◌+◌, ◌-◌, ◌*◌, ◌^◌, ◌<◌, ◌≤◌, Bool, false, List, [], ◌∷◌, ◌++◌, length, Option, Some, None, IsSome, arith, inl, inr, refl, sym, ap, ◌∙◌, subst}
use Rattle.module_api.specs.Behaviour.{Behaviour}
use Rattle.checkpoints.specs.Stored.{counts_in, counts_of, is_multiple, Timeline}
use Rattle.desk_commands.specs.declared.commands.Command.{Command}
use Rattle.desk_commands.specs.declared.commands.Command.TheVariants as command
use Rattle.edit_session.specs.Editing.{Completed, Editing, IsUndone, fresh_editing, given_up, wanted_of, with_box, with_wanted}
use Rattle.edit_session.specs.Sessions.{editing_of, IsSound}
use Rattle.edit_session.specs.declared.session.Session.{Session}
use Rattle.kernel.specs.Kernels.{world_in}
use Rattle.kernel_boxes.specs.Seats.{BoxAt, Members}
use Rattle.checkpoint_runs.specs.declared.phases.Stood.{Stood}
use Rattle.checkpoint_runs.specs.declared.phases.Stood.TheVariants.{Before, After}
use Rattle.std.proofs.lemmas.Bool.{le-leb}
use Rattle.checkpoint_runs.specs.Kept.{waiting_in, AreGood}
use Rattle.checkpoint_runs.specs.Positions.{behind, cut, last_count, numbers_from, HasStored}
use Rattle.checkpoint_runs.specs.Running.{resumed, resumed_if, IsLive}
use Rattle.kernel.specs.declared.request.Request.{Request}
use Rattle.model_questions.specs.Answers.{Answers}
use Rattle.run_semantics.specs.World.{World}
use Rattle.checkpoint_runs.proofs.Back.{last_goes_on}
use Rattle.checkpoint_runs.proofs.Counting.{back_stored, begun_is}
use Rattle.checkpoint_runs.specs.declared.phases.Phase.{Phase}
use Rattle.checkpoint_runs.specs.declared.phases.Phase.TheVariants.{Idle, Waiting, Declined}
use Rattle.checkpoint_runs.specs.declared.phases.Point.TheVariants as point
use Rattle.kernel_actions.specs.declared.position.Position.{Position}
use Rattle.model_data.specs.declared.model.Model.{Model}
use Rattle.model_answers.specs.Answering.{answers_of}
use Rattle.module_network.specs.declared.library.LibraryModule.{LibraryModule}
use Rattle.desk_server.specs.Boxes.{most_turns}
use Rattle.desk_server.specs.Served.{Machine, AreHeard, BeginsToHear, Hears, command_asked, fresh_machine}
use Rattle.desk_server.specs.Serving.{Seen, ComesTo, Ends, EndsServing, HearsNext, HearsOne, IsAt, IsCutOff, IsGoing, IsHeldAt, IsNextServing, IsRunIn, IsServed, IsServingTurn, NeedsBox, RunsAlike, Stands, StandsBy, WaitsAt, WaitsIn, going, left_in_run, left_seen}
use Rattle.transcripts.specs.Heard.{Heard, OutOfMemory}
use Rattle.transcripts.specs.declared.asked.AskedLine.{AskedLine}
use Rattle.desk_server.specs.declared.serving.Next.{Next}
use Rattle.desk_server.specs.declared.serving.Next.TheVariants as next
use Rattle.desk_client.specs.declared.clients.ServeEnd.{ServeEnd}
use Rattle.desk_client.specs.declared.clients.ServeEnd.TheVariants as stop
use Rattle.desk_server.specs.declared.serving.ServerStep.{ServerStep}
use Rattle.desk_server.specs.declared.serving.ServerStep.TheVariants as turn
use Rattle.desk_server.proofs.Alike.{at_alike, waits_alike}
use Rattle.desk_server.proofs.Hearing.{LeavesNone, heard_more, tells_none}
use Rattle.desk_server.proofs.Turning.{few_left, supplied_left}

-- ---- a run goes on

still_going : (b : Behaviour) (s : Machine) (limit : ℕ) (before after : Seen) → WaitsIn b before after limit → IsGoing b s limit before → Stands b s after
still_going b s limit before after w g = subst (λ r. StandsBy r b s after) (sym w.running) (record {
  before = g.before;
  last = g.last;
  all = w.asked ∙ g.all;
  runs = g.runs;
  machine = g.machine;
  alike = waits_alike b limit before after g.machine w g.alike;
  heard = subst (λ (h : List Heard). AreHeard b s g.before h g.machine) (sym w.heard) g.heard;
})

-- what is left of a run that goes on, with all that may be asked
abbrev left_going : Behaviour → ℕ → Seen → ℕ
left_going b limit v = v.may * (most_turns + 3) + (left_in_run b limit v.editing + 1)

no_more_left : (b : Behaviour) (n : ℕ) (before after : Seen) (limit : ℕ) → left_going b limit before ≤ n → WaitsIn b before after limit → left_in_run b limit after.editing ≤ left_in_run b limit before.editing
    → left_seen b after ≤ n
no_more_left b n before after limit fits w less = rw (w.running, w.may) (omega (arith, less, fits))

less_left : (b : Behaviour) (n : ℕ) (before after : Seen) (limit : ℕ) → left_going b limit before ≤ n → WaitsIn b before after limit → left_in_run b limit after.editing < left_in_run b limit before.editing
    → left_seen b after < n
less_left b n before after limit fits w less = rw (w.running, w.may) (omega (arith, less, fits))

none_left : (b : Behaviour) (n : ℕ) (before after : Seen) → before.may * (most_turns + 3) + 0 < n → after.running ≡ None → after.may ≡ before.may → left_seen b after < n
none_left b n before after alone none may = rw (none, may) alone

-- it is heard: all that was asked is
run_served : (b : Behaviour) (s mid : Machine) (limit : ℕ) (before after : Seen) (g : IsGoing b s limit before) (front : List Heard) → after.asked ≡ before.asked
    → after.heard ≡ before.heard ++ front → Hears b g.machine (command.Run limit) front mid → IsAt b after.editing mid → IsServed b s after
run_served b s mid limit before after g front asked heard hears at = record {
  machine = mid;
  at = at;
  heard = rw (asked, heard, g.all) (heard_more b s g.machine mid g.before before.heard front g.last g.heard (rw g.runs hears));
}

run_goes : (b : Behaviour) (limit : ℕ) (first before after : Seen) (t : ServerStep) → ((s : Machine) → Stands b s first → IsGoing b s limit before) → (limit < 2 ^ 64 → left_going b limit before ≤ left_seen b first) → before.may * (most_turns + 3) + 0 < left_seen b first
    → IsRunIn b limit before after t → IsServingTurn b first after t
run_goes b limit first before after (turn.Need made) on fits alone run = record {
  goes_on = λ s stands. still_going b s limit before after run.0 (on s stands);
  wanted = run.1;
  waits = run.2;
  going = subst (λ o. IsHeldAt o after.editing) (sym run.0.running) run.3;
  left = no_more_left b (left_seen b first) before after limit (fits run.0.limited) run.0 run.4;
}
run_goes b limit first before after (turn.Over next.GoOn) on fits alone (inl waits) = (
  (λ s stands. still_going b s limit before after waits.0 (on s stands)),
  less_left b (left_seen b first) before after limit (fits waits.0.limited) waits.0 waits.1,
)
run_goes b limit first before after (turn.Over next.GoOn) on fits alone (inr run) = (
  (λ s stands. let g = on s stands in let h = run.3 g.machine g.alike in
      subst (λ r. StandsBy r b s after) (sym run.2) (run_served b s h.1 limit before after g h.0 run.0 h.2 h.3 h.4)),
  none_left b (left_seen b first) before after alone run.2 run.1,
)
run_goes b limit first before after (turn.Over (next.Stop stop.Gone)) on fits alone cut = λ s stands. let g = on s stands in
    inr (record { before = g.before; last = g.last; all = cut.asked ∙ g.all; front = before.heard; more = cut.more; heard_is = cut.heard; left = g.machine; are = g.heard; begins = rw g.runs (cut.begins g.machine g.alike) })
run_goes b limit first before after (turn.Over (next.Stop stop.End)) on fits alone run = absurd run
run_goes b limit first before after (turn.Over (next.Stop (stop.Device page written))) on fits alone run = absurd run

-- a run that goes on
pub run_turn : (b : Behaviour) (limit : ℕ) (before after : Seen) (t : ServerStep) → before.running ≡ Some limit → IsRunIn b limit before after t → IsServingTurn b before after t
run_turn b limit before after t is run =
    run_goes b limit before before after t (λ s stands. subst (λ r. StandsBy r b s before) is stands) (λ limited. rw is (omega arith)) (rw is (omega arith)) run

-- ---- something is asked

-- What is seen where this was asked last, and no run went on.
pub record AsksNow (before mid : Seen) (a : AskedLine) : Type 0 where
  pub idle : before.running ≡ None
  pub asked : mid.asked ≡ before.asked ++ a ∷ []
  pub heard : mid.heard ≡ before.heard
  pub less : mid.may < before.may
  pub editing : mid.editing ≡ before.editing

served : (b : Behaviour) (s : Machine) (before : Seen) → before.running ≡ None → Stands b s before → IsServed b s before
served b s before idle stands = subst (λ r. StandsBy r b s before) idle stands

fewer_going : (n m x y : ℕ) → m < n → x ≤ most_turns → m * (most_turns + 3) + (x + 1) ≤ n * (most_turns + 3) + y
fewer_going n m x y less few = omega (arith, less, few)

fewer_left : (n m y : ℕ) → m < n → m * (most_turns + 3) + 0 < n * (most_turns + 3) + y
fewer_left n m y less = omega (arith, less)

now_going : (b : Behaviour) (s : Machine) (a : AskedLine) (limit : ℕ) (before mid : Seen) → command_asked a ≡ command.Run limit → AsksNow before mid a → IsServed b s before → IsGoing b s limit mid
now_going b s a limit before mid is asks v = record {
  before = before.asked;
  last = a;
  all = asks.asked;
  runs = is;
  machine = v.machine;
  alike = subst (λ e. RunsAlike b limit e v.machine) (sym asks.editing) (at_alike b limit before.editing v.machine v.at);
  heard = subst (λ (h : List Heard). AreHeard b s before.asked h v.machine) (sym asks.heard) v.heard;
}

now_begins : (b : Behaviour) (a : AskedLine) (c : Command) (before mid after : Seen) → command_asked a ≡ c → AsksNow before mid a → (cut : IsCutOff b c (IsAt b mid.editing) mid after)
    → (s : Machine) → IsAt b before.editing s → BeginsToHear b s (command_asked a) cut.more
now_begins b a c before mid after is asks cut s at = rw is (cut.begins s (subst (λ e. IsAt b e s) (sym asks.editing) at))

now_heard : (b : Behaviour) (s : Machine) (a : AskedLine) (c : Command) (before mid after : Seen) (n : Next) → command_asked a ≡ c → AsksNow before mid a → HearsNext b c mid after n
    → IsNextServing b before after n
now_heard b s a c before mid after next.GoOn is asks hears = (
  (λ t stands. let v = served b t before asks.idle stands in
      let h = hears.3 v.machine (subst (λ e. IsAt b e v.machine) (sym asks.editing) v.at) in
      subst (λ r. StandsBy r b t after) (sym hears.2) (record {
        machine = h.1;
        at = h.4;
        heard = rw (hears.0, asks.asked, h.2, asks.heard) (heard_more b t v.machine h.1 before.asked before.heard h.0 a v.heard (rw is h.3));
      })),
  rw (hears.2, hears.1) (fewer_left before.may mid.may _ asks.less),
)
now_heard b s a c before mid after (next.Stop stop.Gone) is asks cut = λ t stands. let v = served b t before asks.idle stands in
    inr (record { before = before.asked; last = a; all = cut.asked ∙ asks.asked; front = before.heard; more = cut.more; heard_is = cut.heard ∙ ap (λ (h : List Heard). h ++ cut.more) asks.heard; left = v.machine; are = v.heard; begins = now_begins b a c before mid after is asks cut v.machine v.at })
now_heard b s a c before mid after (next.Stop (stop.Device page written)) is asks cut = λ t stands. let v = served b t before asks.idle stands in
    record { before = before.asked; last = a; all = cut.asked ∙ asks.asked; front = before.heard; more = cut.more; heard_is = cut.heard ∙ ap (λ (h : List Heard). h ++ cut.more) asks.heard; left = v.machine; are = v.heard; begins = now_begins b a c before mid after is asks cut v.machine v.at }
now_heard b s a c before mid after (next.Stop stop.End) is asks cut = absurd cut

by_command : (b : Behaviour) (s : Machine) (a : AskedLine) (c : Command) (before mid after : Seen) (t : ServerStep) → command_asked a ≡ c → AsksNow before mid a → ComesTo b c mid after t
    → IsServingTurn b before after t
by_command b s a (command.Run limit) before mid after t is asks run =
    run_goes b limit before mid after t (λ m stands. now_going b m a limit before mid is asks (served b m before asks.idle stands))
    (λ limited. fewer_going before.may mid.may (left_in_run b limit mid.editing) _ asks.less (few_left b limit mid.editing limited)) (fewer_left before.may mid.may _ asks.less) run
by_command b s a (command.Edit e) before mid after (turn.Over n) is asks hears = now_heard b s a (command.Edit e) before mid after n is asks hears
by_command b s a (command.Ned number path) before mid after (turn.Over n) is asks hears = now_heard b s a (command.Ned number path) before mid after n is asks hears
by_command b s a command.Positions before mid after (turn.Over n) is asks hears = now_heard b s a command.Positions before mid after n is asks hears
by_command b s a command.Held before mid after (turn.Over n) is asks hears = now_heard b s a command.Held before mid after n is asks hears
by_command b s a command.Write before mid after (turn.Over n) is asks hears = now_heard b s a command.Write before mid after n is asks hears
by_command b s a command.Unknown before mid after (turn.Over n) is asks hears = now_heard b s a command.Unknown before mid after n is asks hears
by_command b s a command.TooLarge before mid after (turn.Over n) is asks hears = now_heard b s a command.TooLarge before mid after n is asks hears
by_command b s a (command.Edit e) before mid after (turn.Need made) is asks hears = absurd hears
by_command b s a (command.Ned number path) before mid after (turn.Need made) is asks hears = absurd hears
by_command b s a command.Positions before mid after (turn.Need made) is asks hears = absurd hears
by_command b s a command.Held before mid after (turn.Need made) is asks hears = absurd hears
by_command b s a command.Write before mid after (turn.Need made) is asks hears = absurd hears
by_command b s a command.Unknown before mid after (turn.Need made) is asks hears = absurd hears
by_command b s a command.TooLarge before mid after (turn.Need made) is asks hears = absurd hears

pub asked_turn : (b : Behaviour) (a : AskedLine) (before mid after : Seen) (t : ServerStep) → AsksNow before mid a → ComesTo b (command_asked a) mid after t → IsServingTurn b before after t
asked_turn b a before mid after t asks comes = by_command b (fresh_machine before.editing.model 0) a (command_asked a) before mid after t refl asks comes

-- ---- memory runs out for a box

-- the limit of the run that waits
held_limit : (o : Option ℕ) (e : Editing) → IsHeldAt o e → (limit : ℕ) × (o ≡ Some limit) × WaitsAt limit e.positions.stored e.phase
held_limit None e is = absurd is
held_limit (Some limit) e is = (limit, refl, is)

no_more : (k : ℕ) → k - k ≡ 0
no_more k = omega arith

-- What a run has stored that waits: nothing where it waits with setup, else what was due up to there.
record HasWaited (b : Behaviour) (m : Answers) (limit : ℕ) (phase : Phase) (old : Timeline ℕ) : Type 0 where
  at : Stood
  stored : HasStored b m limit (resumed limit phase) old at old

-- so it is in a session
waited : (b : Behaviour) (m : Answers) (limit : ℕ) (phase : Phase) (done : Option Completed) (known : Option ℕ) (w : World) (waiting : List BoxAt) (ps : Timeline Position)
    → WaitsAt limit (counts_in ps).stored phase → IsUndone phase done known ps → IsLive b m w waiting phase → AreGood b m w ps.stored → HasWaited b m limit phase (counts_in ps)
waited b m limit (Waiting from point.Setup) done known w waiting ps at left live good = record {
  at = Before;
  stored = (at, begun_is (counts_in ps) ps.first (ap counts_in left.2));
}
waited b m limit (Waiting from point.Position) done known w waiting ps at left live good =
    let last : last_count (counts_of ps.stored) ≡ Some at.0 = left.last_is ∙ at.1 in
    record {
      at = After at.0;
      stored = back_stored b m limit at.0 (counts_in ps) (counts_in ps) at.2 (last_goes_on b m w ps.stored at.0 good last) (sym left.cut_is ∙ ap (λ (o : Option ℕ). cut o (counts_in ps)) at.1);
    }
waited b m limit (Waiting from (point.Start k id)) done known w waiting ps at left live good =
    let old : Timeline ℕ = counts_in ps in
    record {
      at = After k;
      stored = subst (λ (t : Bool). HasStored b m limit (resumed_if t (record { from = from; count = k; declined = false })) old (After k) old) (sym (le-leb k limit at)) (record {
        going = (w, live.0.going);
        limited = at;
        grew = omega arith;
        counts = sym (ap (λ (n : ℕ). behind is_multiple old (numbers_from (suc k) n)) (no_more k));
      });
    }
waited b m limit Idle done known w waiting ps at left live good = absurd at
waited b m limit (Declined from there) done known w waiting ps at left live good = absurd at

-- a run that is given up leaves none, neither it nor one before it is done
pub gives_up : {C X : Type 0} {Y : X → Type 0} (b : Behaviour) (members : Members X Y) (s : Session C X Y) (limit : ℕ) → IsSound b members s → WaitsAt limit (editing_of members s).positions.stored s.phase
    → LeavesNone b (editing_of members s) limit (given_up (editing_of members s))
gives_up b members s limit sound at =
    let h = waited b (answers_of s.model) limit s.phase (editing_of members s).done s.known (world_in members s.runner.kernel) (waiting_in members s.runner) s.runner.positions at sound.kept.undone sound.kept.live sound.kept.good in
    record {
      done = refl;
      idle = refl;
      supplied = refl;
      known = refl;
      stood = h.at;
      positions = h.stored;
    }

-- it is given up, and that is told
pub memory_turn : {C X : Type 0} {Y : X → Type 0} (b : Behaviour) (members : Members X Y) (s : Session C X Y) (before after : Seen) (n : Next) → IsSound b members s → before.editing ≡ editing_of members s → IsHeldAt before.running before.editing
    → after.editing ≡ given_up (editing_of members s) → after.asked ≡ before.asked → after.may ≡ before.may → after.running ≡ None
    → HearsOne OutOfMemory before.heard after.heard n → IsNextServing b before after n
memory_turn b members s before after n sound is going left asked may running heard =
    let at = held_limit before.running before.editing going in
    let e : Editing = editing_of members s in
    let none : LeavesNone b e at.0 (given_up e) = gives_up b members s at.0 sound (subst (λ (x : Editing). WaitsAt at.0 x.positions.stored x.phase) is at.2) in
    run_turn b at.0 before after (turn.Over n) at.1
    (tells_none b at.0 before after n asked may running
    (record {
      model = ap (λ (x : Editing). x.model) left ∙ sym (ap (λ (x : Editing). x.model) is);
      idle = λ some. ap (λ (x : Editing). x.phase) left;
    })
    (subst (λ (x : Editing). LeavesNone b x at.0 after.editing) (sym is) (subst (λ (x : Editing). LeavesNone b e at.0 x) (sym left) none)) heard)

-- ---- a run that waits has one box more

-- it goes on from where it waited
box_alike : (b : Behaviour) (limit : ℕ) (e : Editing) (phase : Phase) (o : Option Request) (s : Machine) → RunsAlike b limit (record e { phase = phase }) s → RunsAlike b limit (with_wanted o (record e { phase = phase })) s
box_alike b limit e phase None s h = h
box_alike b limit e (Waiting from point.Setup) (Some request) s h = record { model = h.model; starts = h.starts }
box_alike b limit e (Waiting from point.Position) (Some request) s h = record { model = h.model; starts = h.starts }
box_alike b limit e (Waiting from (point.Start k id)) (Some request) s h = record { model = h.model; starts = h.starts }
box_alike b limit e Idle (Some request) s h = h
box_alike b limit e (Declined from there) (Some request) s h = h

more_alike : (b : Behaviour) (limit : ℕ) (e f : Editing) (s : Machine) → f ≡ with_box b e → RunsAlike b limit e s → RunsAlike b limit f s
more_alike b limit e f s is h = subst (λ (x : Editing). RunsAlike b limit x s) (sym is) (box_alike b limit e e.phase (wanted_of b e) s h)

more_going : (b : Behaviour) (s : Machine) (limit : ℕ) (before after : Seen) → after.editing ≡ with_box b before.editing → after.asked ≡ before.asked → after.heard ≡ before.heard → IsGoing b s limit before → IsGoing b s limit after
more_going b s limit before after is asked heard h = record {
  before = h.before;
  last = h.last;
  all = asked ∙ h.all;
  runs = h.runs;
  machine = h.machine;
  alike = more_alike b limit before.editing after.editing h.machine is h.alike;
  heard = subst (λ told. AreHeard b s h.before told h.machine) (sym heard) h.heard;
}

-- it goes on, and less is left
pub supplied_turn : (b : Behaviour) (before after : Seen) → IsHeldAt before.running before.editing → IsSome (wanted_of b before.editing) → after.editing ≡ with_box b before.editing → after.asked ≡ before.asked → after.heard ≡ before.heard → after.may ≡ before.may → after.running ≡ before.running
    → IsNextServing b before after next.GoOn
supplied_turn b before after going_on wants is asked heard may running =
    let at = held_limit before.running before.editing going_on in
    let less : left_in_run b at.0 after.editing < left_in_run b at.0 before.editing = supplied_left b at.0 before.editing after.editing wants at.2 is in
    let new : going b after.running after.editing ≡ left_in_run b at.0 after.editing + 1 = ap (λ o. going b o after.editing) (running ∙ at.1) in
    let old : going b before.running before.editing ≡ left_in_run b at.0 before.editing + 1 = ap (λ o. going b o before.editing) at.1 in
    let same : after.may * (most_turns + 3) ≡ before.may * (most_turns + 3) = ap (λ n. n * (most_turns + 3)) may in (
      λ s stands. subst (λ o. StandsBy o b s after) (sym (running ∙ at.1)) (more_going b s at.0 before after is asked heard (subst (λ o. StandsBy o b s before) at.1 stands)),
      omega (arith, less, new, old, same),
    )

-- a box is placed, or it isn't, and the turn goes on
pub went_serving : (b : Behaviour) (before mid after : Seen) (made : LibraryModule) (n : Next) → NeedsBox b before mid made → IsNextServing b mid after n → IsNextServing b before after n
went_serving b before mid after made next.GoOn needed went = ((λ s stands. went.0 s (needed.goes_on s stands)), omega (arith, went.1, needed.left))
went_serving b before mid after made (next.Stop why) needed went = λ s stands. went s (needed.goes_on s stands)

-- ---- the end

pub ends_served : (b : Behaviour) (s : Machine) (v : Seen) (why : ServeEnd) → EndsServing b s v why → Ends b s v.asked v.heard why
ends_served b s v stop.End is = (is.machine, is.heard)
ends_served b s v stop.Gone (inl is) = inl (is.machine, is.heard)
ends_served b s v stop.Gone (inr is) = inr is
ends_served b s v (stop.Device page written) is = is

-- ---- the beginning

pub served_first : (b : Behaviour) (m : Model) (interval : ℕ) (v : Seen) → v.editing ≡ fresh_editing m interval → v.asked ≡ [] → v.heard ≡ []
    → IsServed b (fresh_machine m interval) v
served_first b m interval v fresh asked heard = record {
  machine = fresh_machine m interval;
  at = record {
    model = ap (λ (e : Editing). e.model) fresh;
    done = ap (λ (e : Editing). e.done) fresh;
    idle = ap (λ (e : Editing). e.phase) fresh;
    held = ap (λ (e : Editing). length e.boxes + length e.supplied) fresh;
    known = ap (λ (e : Editing). e.known) fresh;
    positions = ap (λ (e : Editing). e.positions) fresh;
  };
  heard = rw (asked, heard) (refl, refl);
}
