-- Parts of an event take nothing from the model but answers to the questions that they note: models
-- that answer them alike do the same.
use Rattle.std.proofs.Common.{◌≡◌, ℕ, zero, suc, ◌+◌, ◌≤◌, ◌==◌, Bool, true, false, List, [], ◌∷◌, ◌++◌, ◌||◌, Option, Some, None, Result, Ok, Err, refl, sym, ap, ◌∙◌, arith, subst, append-nil, length, slice_get, if◌then◌else◌, nat_lt}
use Rattle.module_api.specs.Behaviour.{Behaviour, Replied}
use Rattle.module_api.specs.Names.{is_module_name}
use Rattle.module_api.specs.Laws.{AgreesOn, IsLawful}
use Rattle.module_api.specs.declared.call.CallReason.{CallReason}
use Rattle.module_api.specs.declared.call.CallReason.TheVariants as prompt
use Rattle.module_api.specs.declared.reply.Read.{Read}
use Rattle.module_api.specs.declared.reply.Read.TheVariants as read
use Rattle.module_api.specs.declared.reply.Reply.{Reply}
use Rattle.module_api.specs.declared.reply.Link.{Link}
use Rattle.model_questions.specs.declared.answer.Answer.{Answer}
use Rattle.model_questions.specs.declared.answer.Answer.TheVariants as answer
use Rattle.model_questions.specs.declared.answer.AskedQuestion.{AskedQuestion}
use Rattle.model_questions.specs.declared.answer.Built.{Built}
use Rattle.model_questions.specs.declared.answer.Question.{Question}
use Rattle.model_questions.specs.declared.answer.Question.TheVariants.{Root, TypeOf, Build, GateSize, Hop, HopBack}
use Rattle.model_questions.specs.Answers.{Answers, answer_of, gates_of, parameters_of}
use Rattle.model_questions.specs.declared.record.Record.{Record}
use Rattle.model_questions.specs.Questions.{same_question}
use Rattle.model_questions.proofs.AnswerLemmas.{AreNested, about, answer_more, same_gate, same_value, typed_alike}
use Rattle.model_questions.proofs.QuestionLemmas.{same_is}
use Rattle.channels.specs.declared.travels.ChannelFault.{ChannelFault}
use Rattle.channels.specs.declared.travels.Travel.{Travel}
use Rattle.channels.specs.declared.travels.Travel.TheVariants.{Arrival, Lost}
use Rattle.channels.specs.Travel.{travel}
use Rattle.sim_time.specs.Time.{time_sum}
use Rattle.module_api.specs.declared.message.Outgoing.{Outgoing}
use Rattle.module_api.specs.declared.reply.Action.{Action}
use Rattle.module_api.specs.declared.reply.Action.TheVariants.{Emit, RecordScalar, Send, SendDelayed, SendDirect, ScheduleAt, ScheduleAfter, Cancel, Create, Delete, Connect, Disconnect, End, Fail}
use Rattle.module_api.specs.declared.reply.Creation.{Creation}
use Rattle.module_api.specs.declared.reply.Flight.{Flight}
use Rattle.module_api.specs.declared.reply.GatePlace.{GatePlace}
use Rattle.module_api.specs.declared.reply.OwnGate.{OwnGate}
use Rattle.module_api.specs.Actions.{has_large_payload}
use Rattle.event_set.specs.declared.pending.Happening.{Happening}
use Rattle.event_set.specs.declared.pending.Happening.TheVariants as happening
use Rattle.event_set.specs.declared.pending.Pending.{Pending}
use Rattle.run_semantics.specs.declared.routes.GateChange.{GateChange}
use Rattle.run_semantics.specs.declared.routes.NextHop.{NextHop}
use Rattle.run_semantics.specs.declared.routes.PassedHop.{PassedHop}
use Rattle.run_semantics.specs.declared.routes.PlacedGate.{PlacedGate}
use Rattle.run_semantics.specs.Routes.{arriving, busy_of, change_of, channels_of, hop_by, if_live, is_in_gate, is_out_gate, is_simple, is_taken, module_at, transmission_gate, transmitting, with_change}
use Rattle.run_semantics.specs.declared.occasions.Occasion.{Occasion}
use Rattle.run_semantics.specs.declared.occasions.Occasion.TheVariants as occasion
use Rattle.run_semantics.specs.declared.outcome.RunFault.{RunFault as FaultValue}
use Rattle.run_semantics.specs.declared.outcome.RunFault.TheVariants as fault
use Rattle.run_semantics.specs.declared.traces.Instance.{Instance}
use Rattle.run_semantics.specs.Agreement.{Agrees}
use Rattle.run_semantics.specs.World.{World, asked, empty, is_asked, is_live, noted}
use Rattle.run_semantics.specs.Perform.{Flow, On, Stopped, Broken, ◌>>=◌, deed, perform, act, act_all, hop_after, next_hop, past_last, with_hop, after_hop, chain, most_hops, travelled, sent_over, sent_through, sent, entering, flight_end, entered, sent_into, sent_to, asking, broken, ask_all, for_each, is_allowed, question_of, acted, first_fault, fault_of_read, read_fault, unless_fault, call_module}
use Rattle.run_semantics.specs.Calls.{call_of, instance_in, changed, replied, called}
use Rattle.run_semantics.specs.Finishing.{call_last, with_finished, marked, finish, finish_all}
use Rattle.run_semantics.specs.Deleting.{subtree_of, to_finish_in, finished_first, gone, subtree_dropped, deleted_at}
use Rattle.run_semantics.specs.Joining.{gate_at, channel_by, joined, joined_free, joined_into, joined_from, joined_to, joined_at, freed, freed_from, freed_at}
use Rattle.run_semantics.specs.Creating.{with_start, awaiting, record_for, class_in, with_created, class_answer, creating, built_by, built_as, has_namesake, is_full, levels_in, created_in}
use Rattle.run_semantics.specs.Event.{happens, message_of}
use Rattle.run_semantics.specs.Subtree.{among, outer_first}
use Rattle.run_semantics.specs.Run.{rooted, room_in, unless_many, created, inside_of, compounds_from, built, set_up, most_nested, root_asked, prepared, Part, needs_of, placed, first_unknown, unless_unknown, stages_in, most_stages, initialize, one_stage, stages_from, started, start_all, start_modules, starting, unstarted, with_started}
use Rattle.run_semantics.proofs.Alive.{live_last, live_within}
use Rattle.run_semantics.proofs.Flows.{in_flow}
use Rattle.run_semantics.proofs.Growth.{AllAbout, Fits, fits_beside, found_live, fits_changed, fits_more, fits_placed, nested_last, IsGrown, grown_same, grown_on, grown_beside, fits_empty, longer, rooted_grows, created_grows, then_grows, asked_grows}
use Rattle.run_semantics.proofs.Grows.{growth_lasts_on, deed_grows, start_grows}
use Rattle.run_semantics.proofs.Lasting.{AreLive, Ends, LiveTo, deed_ends, fits_without, if_live_to, module_live, perform_ends, starting_live, unstarted_live, unstarted_new}
use Rattle.run_semantics.proofs.Setting.{AreUpTo, compounds_within, length_created}

-- ---- agreement on fewer questions

-- the models agree on all that was asked in that world
abbrev pub AgreesIn : Answers → Answers → World → Type 0
AgreesIn m n w = Agrees m n w.records w.questions

-- on the first questions of a list
pub Agrees-front : (m n : Answers) (rs : List Record) (xs ys : List AskedQuestion) → Agrees m n rs (xs ++ ys) → Agrees m n rs xs
Agrees-front m n rs [] ys h = tt
Agrees-front m n rs (x ∷ xs) ys h = (h.0, Agrees-front m n rs xs ys h.1)

-- on its last question
pub Agrees-last : (m n : Answers) (rs : List Record) (xs : List AskedQuestion) (a : AskedQuestion) → Agrees m n rs (xs ++ a ∷ []) → answer_of m rs a.question ≡ answer_of n rs a.question
Agrees-last m n rs [] a h = h.0
Agrees-last m n rs (x ∷ xs) a h = Agrees-last m n rs xs a h.1

-- on one of them
pub Agrees-asked : (m n : Answers) (rs : List Record) (q : Question) (xs : List AskedQuestion) → is_asked q xs ≡ true → Agrees m n rs xs → answer_of m rs q ≡ answer_of n rs q
Agrees-asked m n rs q [] e h = cc
Agrees-asked m n rs q (x ∷ xs) e h = by (same_question q x.question) refl e (λ later. Agrees-asked m n rs q xs later h.1)
  where
    by : (t : Bool) → same_question q x.question ≡ t → (t || is_asked q xs) ≡ true → (is_asked q xs ≡ true → answer_of m rs q ≡ answer_of n rs q) → answer_of m rs q ≡ answer_of n rs q
    by true t e later = let same = same_is q x.question t in ap (answer_of m rs) same ∙ h.0 ∙ sym (ap (answer_of n rs) same)
    by false t e later = later e

-- on one more, whether it was asked before or not
pub Agrees-noted : (m n : Answers) (rs : List Record) (event : ℕ) (q : Question) (xs : List AskedQuestion) → Agrees m n rs (noted event q xs) → answer_of m rs q ≡ answer_of n rs q
Agrees-noted m n rs event q xs h = by (is_asked q xs) refl h
  where
    by : (t : Bool) → is_asked q xs ≡ t → Agrees m n rs (if t then xs else xs ++ record { event = event; question = q } ∷ []) → answer_of m rs q ≡ answer_of n rs q
    by true t h = Agrees-asked m n rs q xs t h
    by false t h = Agrees-last m n rs xs (record { event = event; question = q }) h

-- with the modules that were there before
pub Agrees-fewer : (m n : Answers) (rs more : List Record) → AreNested 0 rs → (xs : List AskedQuestion) → AllAbout (length rs) xs → Agrees m n (rs ++ more) xs → Agrees m n rs xs
Agrees-fewer m n rs more h [] f a = tt
Agrees-fewer m n rs more h (x ∷ xs) f a =
    (sym (answer_more m rs more h x.question f.0) ∙ (a.0 ∙ answer_more n rs more h x.question f.0), Agrees-fewer m n rs more h xs f.1 a.1)

-- on what was asked before more was asked and created
pub Agrees-grown : (m n : Answers) (u : World) (rest : List AskedQuestion) (more rs : List Record) (qs : List AskedQuestion) → Fits u → u.questions ++ rest ≡ qs → u.records ++ more ≡ rs → Agrees m n rs qs → AgreesIn m n u
Agrees-grown m n u rest more rs qs f joined records h =
    let all : Agrees m n (u.records ++ more) (u.questions ++ rest) = subst (λ xs. Agrees m n xs (u.questions ++ rest)) (sym records) (subst (Agrees m n rs) (sym joined) h) in
    Agrees-fewer m n u.records more f.nested u.questions f.questions (Agrees-front m n (u.records ++ more) u.questions rest all)

-- the same, of a world that has grown
pub Agrees-before : (m n : Answers) (u w : World) → Fits u → IsGrown u w → AgreesIn m n w → AgreesIn m n u
Agrees-before m n u w f g h = Agrees-grown m n u g.rest g.more w.records w.questions f g.joined g.records h

-- ---- parts of an event in two models

-- a part of an event, from that world on, in the first model and in the second: it only asks, and
-- where the models agree on all that was asked it is the same
pub record DoesSame (m n : Answers) (w : World) (f g : Flow) : Type 0 where
  pub grows : IsGrown w (in_flow f)
  pub same : AgreesIn m n (in_flow f) → f ≡ g

-- a part that takes nothing from the model
does_itself : (m n : Answers) (w : World) (f : Flow) → IsGrown w (in_flow f) → DoesSame m n w f f
does_itself m n w f g = record { grows = g; same = λ h. refl }

-- a world in which the part goes on has the property
abbrev IfOn : (World → Type 0) → Flow → Type 0
IfOn P (On w) = P w
IfOn P (Stopped w) = Unit {0}
IfOn P (Broken w path f) = Unit {0}

-- the next part adds, where the flow goes on
on_grows : (m n : Answers) (P : World → Type 0) (fl : Flow) (k l : World → Flow) → Fits (in_flow fl) → IfOn P fl → ((v : World) → Fits v → P v → DoesSame m n v (k v) (l v)) → IsGrown (in_flow fl) (in_flow (fl >>= k))
on_grows m n P (On w) k l f p h = (h w f p).grows
on_grows m n P (Stopped w) k l f p h = grown_same w f
on_grows m n P (Broken w path fault) k l f p h = grown_same w f

-- the next part is the same, where the flow goes on
on_same : (m n : Answers) (P : World → Type 0) (fl : Flow) (k l : World → Flow) → Fits (in_flow fl) → IfOn P fl → ((v : World) → Fits v → P v → DoesSame m n v (k v) (l v)) → AgreesIn m n (in_flow (fl >>= k)) → (fl >>= k) ≡ (fl >>= l)
on_same m n P (On w) k l f p h a = (h w f p).same a
on_same m n P (Stopped w) k l f p h a = refl
on_same m n P (Broken w path fault) k l f p h a = refl

-- one part and the next, which may rely on what the first leaves
does_then_where : (m n : Answers) (P : World → Type 0) (w : World) (f g : Flow) (k l : World → Flow) → DoesSame m n w f g → IfOn P f → ((v : World) → Fits v → P v → DoesSame m n v (k v) (l v)) → DoesSame m n w (f >>= k) (g >>= l)
does_then_where m n P w f g k l d p h =
    let more = on_grows m n P f k l d.grows.fits p h in
    record {
      grows = grown_on d.grows more;
      same = λ a. on_same m n P f k l d.grows.fits p h a ∙ ap (λ fl. fl >>= l) (d.same (Agrees-before m n (in_flow f) (in_flow (f >>= k)) d.grows.fits more a));
    }

-- nothing is said of the world
any_world : (fl : Flow) → IfOn (λ w. Unit {0}) fl
any_world (On w) = tt
any_world (Stopped w) = tt
any_world (Broken w path f) = tt

-- one part and then the next
does_then : (m n : Answers) (w : World) (f g : Flow) (k l : World → Flow) → DoesSame m n w f g → ((v : World) → Fits v → DoesSame m n v (k v) (l v)) → DoesSame m n w (f >>= k) (g >>= l)
does_then m n w f g k l d h = does_then_where m n (λ w. Unit {0}) w f g k l d (any_world f) (λ v fits p. h v fits)

-- of two ways on, whichever is taken
either_does : (m n : Answers) (w : World) (c : Bool) (f g h k : Flow) → DoesSame m n w f g → DoesSame m n w h k → DoesSame m n w (if c then f else h) (if c then g else k)
either_does m n w true f g h k d e = d
either_does m n w false f g h k d e = e

-- A QUESTION, and what follows it: where that is the same for every answer, it is the same in
-- models that answer alike
asking_same : (m n : Answers) (q : Question) (next other : Answer → World → Flow) (w : World) → Fits w → about q ≤ length w.records → ((a : Answer) → Fits (asked q w) → DoesSame m n (asked q w) (next a (asked q w)) (other a (asked q w))) → DoesSame m n w (asking m q next w) (asking n q other w)
asking_same m n q next other w f l h =
    let v : World = asked q w in
    let g = asked_grows q w f l in
    let d = h (answer_of m w.records q) g.fits in
    record {
      grows = grown_on g d.grows;
      same = λ agreed.
          let here : AgreesIn m n v = Agrees-before m n v (in_flow (asking m q next w)) g.fits d.grows agreed in
          d.same agreed ∙ ap (λ (a : Answer). other a v) (Agrees-noted m n w.records w.count q w.questions here);
    }

-- ---- replies and calls

about_read : (id : ℕ) (r : Read) → about (question_of id r) ≡ id
about_read id (read.Parameter name) = refl
about_read id (read.Gate name) = refl

read_grows : (id : ℕ) (r : Read) (w : World) → Fits w → id ≤ length w.records → IsGrown w (asked (question_of id r) w)
read_grows id r w f l = asked_grows (question_of id r) w f (omega (arith, l, about_read id r))

-- the questions of all reads
ask_all_grows : (id : ℕ) (reads : List Read) (w : World) → Fits w → id ≤ length w.records → IsGrown w (ask_all id reads w)
ask_all_grows id [] w f l = grown_same w f
ask_all_grows id (r ∷ rs) w f l =
    let g = read_grows id r w f l in
    grown_on g (ask_all_grows id rs (asked (question_of id r) w) g.fits l)

-- they change nobody
ask_all_live : (id k : ℕ) (reads : List Read) (w : World) → is_live w k ≡ true → is_live (ask_all id reads w) k ≡ true
ask_all_live id k [] w e = e
ask_all_live id k (r ∷ rs) w e = ask_all_live id k rs (asked (question_of id r) w) e

-- the models answer these reads alike
abbrev AnswerAlike : Answers → Answers → List Record → ℕ → List Read → Type 0
AnswerAlike m n records id [] = Unit {0}
AnswerAlike m n records id (r ∷ rs) = (answer_of m records (question_of id r) ≡ answer_of n records (question_of id r)) × AnswerAlike m n records id rs

-- what was asked of the reads
alike_asked : (m n : Answers) (id : ℕ) (reads : List Read) (w : World) → Fits w → id ≤ length w.records → AgreesIn m n (ask_all id reads w) → AnswerAlike m n w.records id reads
alike_asked m n id [] w f l h = tt
alike_asked m n id (r ∷ rs) w f l h =
    let v : World = asked (question_of id r) w in
    let g = read_grows id r w f l in
    let here : AgreesIn m n v = Agrees-before m n v (ask_all id rs v) g.fits (ask_all_grows id rs v g.fits l) h in
    (Agrees-noted m n w.records w.count (question_of id r) w.questions here, alike_asked m n id rs v g.fits l h)

-- so they have the same fault of a read
fault_alike : (m n : Answers) (records : List Record) (id : ℕ) (reads : List Read) → AnswerAlike m n records id reads → read_fault m records id reads ≡ read_fault n records id reads
fault_alike m n records id [] h = refl
fault_alike m n records id (r ∷ rs) h =
    ap (λ (a : Answer). first_fault (fault_of_read r a) (read_fault m records id rs)) h.0
    ∙ ap (first_fault (fault_of_read r (answer_of n records (question_of id r)))) (fault_alike m n records id rs h.1)

-- a call shows the same there
shown_alike : (m n : Answers) (id : ℕ) (p : CallReason) (w : World) (reads : List Read) → AnswerAlike m n w.records id reads → AgreesOn reads (call_of m id p w) (parameters_of n w.records id) (gates_of n w.records id)
shown_alike m n id p w [] h = tt
shown_alike m n id p w (read.Parameter name ∷ rs) h = (same_value m n w.records id name h.0, shown_alike m n id p w rs h.1)
shown_alike m n id p w (read.Gate name ∷ rs) h = (same_gate m n w.records id name h.0, shown_alike m n id p w rs h.1)

-- where so many records are, they are after a part too
if_longer : (k : ℕ) (w : World) (fl : Flow) → k ≤ length w.records → IsGrown w (in_flow fl) → IfOn (λ v. k ≤ length v.records) fl
if_longer k w (On v) l g = omega (arith, l, longer w v g)
if_longer k w (Stopped v) l g = tt
if_longer k w (Broken v path f) l g = tt

-- ---- sending

-- what goes on with a hop does the same, whatever the hop: all live that did
abbrev GoesOnAlike : Answers → Answers → World → (Option NextHop → World → Flow) → (Option NextHop → World → Flow) → Type 0
GoesOnAlike m n w k l = (o : Option NextHop) (v : World) → Fits v → LiveTo v o → ((id : ℕ) → is_live w id ≡ true → is_live v id ≡ true) → DoesSame m n v (k o v) (l o v)

next_hop_same : (m n : Answers) (g : PlacedGate) (k l : Option NextHop → World → Flow) (w : World) → Fits w → is_live w g.id ≡ true → GoesOnAlike m n w k l → DoesSame m n w (next_hop m g k w) (next_hop n g l w)
next_hop_same m n g k l w f live h = by (change_of g w.changes)
  where
    q : Question
    q = Hop g.id g.name g.index

    by : (c : Option GateChange) → DoesSame m n w (hop_after m g k w c) (hop_after n g l w c)
    by (Some c) = h (if_live w c.to) w f (if_live_to w c.to) (λ id e. e)
    by None = asking_same m n q (λ a v. k (if_live v (hop_by v.records g.id a)) v) (λ a v. l (if_live v (hop_by v.records g.id a)) v) w f (live_within w g.id live)
        (λ a fits. h (if_live (asked q w) (hop_by w.records g.id a)) (asked q w) fits (if_live_to (asked q w) (hop_by w.records g.id a)) (λ id e. e))

past_last_same : (m n : Answers) (id : ℕ) (w : World) → GoesOnAlike m n w (past_last id) (past_last id)
past_last_same m n id w None v f l k = does_itself m n v (past_last id None v) (grown_same v f)
past_last_same m n id w (Some h) v f l k = does_itself m n v (past_last id (Some h) v) (grown_same v f)

-- what is done at the end of a chain does the same
abbrev ReachesAlike : Answers → Answers → (List PassedHop → PlacedGate → World → Flow) → (List PassedHop → PlacedGate → World → Flow) → Type 0
ReachesAlike m n r s = (hops : List PassedHop) (end : PlacedGate) (v : World) → Fits v → DoesSame m n v (r hops end v) (s hops end v)

-- so does the chain
chain_same : (m n : Answers) (id : ℕ) (r s : List PassedHop → PlacedGate → World → Flow) → ReachesAlike m n r s → (left : ℕ) (g : PlacedGate) (passed : List PassedHop) (w : World) → Fits w → is_live w g.id ≡ true → DoesSame m n w (chain m id r left g passed w) (chain n id s left g passed w)
chain_same m n id r s h zero g passed w f live = next_hop_same m n g (past_last id) (past_last id) w f live (past_last_same m n id w)
chain_same m n id r s h (suc left) g passed w f live =
    next_hop_same m n g (after_hop id (chain m id r left) r g passed) (after_hop id (chain n id s left) s g passed) w f live (goes_on (chain_same m n id r s h left))
  where
    goes_on : ((g : PlacedGate) (passed : List PassedHop) (v : World) → Fits v → is_live v g.id ≡ true → DoesSame m n v (chain m id r left g passed v) (chain n id s left g passed v))
        → GoesOnAlike m n w (after_hop id (chain m id r left) r g passed) (after_hop id (chain n id s left) s g passed)
    goes_on further None v fits l k = does_itself m n v _ (grown_same v fits)
    goes_on further (Some x) v fits l k =
        either_does m n v (is_simple v.records x.to.id) _ _ _ _ (h (with_hop passed g x) x.to v fits) (further x.to (with_hop passed g x) v fits l)

-- what leaves all but events, transmissions and changes
beside_grows : (u v : World) → Fits u → v.records ≡ u.records → v.dead ≡ u.dead → v.modules ≡ u.modules → v.questions ≡ u.questions → v.count ≡ u.count → IsGrown u v
beside_grows u v f records dead modules questions count = grown_beside u v (fits_beside u v f records dead modules questions) records questions count

transmitting_grows : (g : Option PlacedGate) (until : Option ℕ) (w : World) → Fits w → IsGrown w (transmitting g until w)
transmitting_grows (Some g) (Some until) w f = beside_grows w _ f refl refl refl refl refl
transmitting_grows (Some g) None w f = grown_same w f
transmitting_grows None until w f = grown_same w f

travelled_grows : (id : ℕ) (message : Outgoing) (from : Option PlacedGate) (end : PlacedGate) (w : World) (t : Result Travel ChannelFault) → Fits w → IsGrown w (in_flow (travelled id message from end w t))
travelled_grows id message from end w (Err e) f = grown_same w f
travelled_grows id message from end w (Ok (Lost until)) f = transmitting_grows from until w f
travelled_grows id message from end w (Ok (Arrival time until)) f =
    let g = transmitting_grows from until w f in
    grown_on g (beside_grows (transmitting from until w) _ g.fits refl refl refl refl refl)

sent_over_same : (m n : Answers) (id : ℕ) (message : Outgoing) (departure : Option ℕ) → ReachesAlike m n (sent_over id message departure) (sent_over id message departure)
sent_over_same m n id message None hops end v f = does_itself m n v (sent_over id message None hops end v) (grown_same v f)
sent_over_same m n id message (Some departure) hops end v f =
    does_itself m n v (sent_over id message (Some departure) hops end v) (travelled_grows id message (transmission_gate hops) end v (travel (channels_of hops) departure message.bits (busy_of (transmission_gate hops) v.transmissions)) f)

-- a message that is sent through a gate
sent_same : (m n : Answers) (id : ℕ) (gate : OwnGate) (message : Outgoing) (departure : Option ℕ) (w : World) → Fits w → is_live w id ≡ true → DoesSame m n w (sent m id gate message departure w) (sent n id gate message departure w)
sent_same m n id gate message departure w f live =
    let g : PlacedGate = record { id = id; name = gate.name; index = gate.index } in
    let q : Question = GateSize id gate.name in
    let v : World = asked q w in
    asking_same m n q (sent_through m id g message departure) (sent_through n id g message departure) w f (live_within w id live)
    (λ a fits. either_does m n v (is_out_gate a gate.index) _ _ (broken id fault.NoGate v) (broken id fault.NoGate v)
    (chain_same m n id (sent_over id message departure) (sent_over id message departure) (sent_over_same m n id message departure) most_hops g [] v fits live)
    (does_itself m n v (broken id fault.NoGate v) (grown_same v fits)))

entering_same : (m n : Answers) (id : ℕ) (message : Outgoing) (g : PlacedGate) (arrival : Option ℕ) (w : World) → Fits w → is_live w g.id ≡ true → DoesSame m n w (entering m id message g arrival w) (entering n id message g arrival w)
entering_same m n id message g None w f live = does_itself m n w (broken id fault.TimeOverflow w) (grown_same w f)
entering_same m n id message g (Some time) w f live =
    either_does m n w (is_simple w.records g.id) (On (arriving g message time w)) (On (arriving g message time w)) _ _
    (does_itself m n w (On (arriving g message time w)) (beside_grows w _ f refl refl refl refl refl))
    (chain_same m n id (sent_over id message (Some time)) (sent_over id message (Some time)) (sent_over_same m n id message (Some time)) most_hops g [] w f live)

into_same : (m n : Answers) (id : ℕ) (message : Outgoing) (g : PlacedGate) (flight : Flight) (a : Answer) (w : World) → Fits w → is_live w g.id ≡ true → DoesSame m n w (sent_into m id g message flight a w) (sent_into n id g message flight a w)
into_same m n id message g flight a w f live =
    let q : Question = HopBack g.id g.name g.index in
    let v : World = asked q w in
    either_does m n w (is_in_gate a g.index) _ _ (broken id fault.NoGate w) (broken id fault.NoGate w)
    (asking_same m n q (entered m id g message flight) (entered n id g message flight) w f (live_within w g.id live)
    (λ c fits. either_does m n v (is_taken g c v) (broken id fault.AlreadyConnected v) (broken id fault.AlreadyConnected v) _ _
    (does_itself m n v (broken id fault.AlreadyConnected v) (grown_same v fits)) (entering_same m n id message g (flight_end v.clock flight) v fits live)))
    (does_itself m n w (broken id fault.NoGate w) (grown_same w f))

-- a message that is sent directly
to_same : (m n : Answers) (id : ℕ) (place : GatePlace) (message : Outgoing) (flight : Flight) (w : World) (found : Option ℕ) → module_at place.path w ≡ found → Fits w → DoesSame m n w (sent_to m id place message flight w found) (sent_to n id place message flight w found)
to_same m n id place message flight w None e f = does_itself m n w (broken id fault.NoModule w) (grown_same w f)
to_same m n id place message flight w (Some target) e f =
    let g : PlacedGate = record { id = target; name = place.name; index = place.index } in
    let q : Question = GateSize target place.name in
    let live = module_live place.path w target e in
    asking_same m n q (sent_into m id g message flight) (sent_into n id g message flight) w f (live_within w target live) (λ a fits. into_same m n id message g flight a (asked q w) fits live)

-- ---- gates that are joined and freed

changed_same : (m n : Answers) (g : PlacedGate) (to : Option NextHop) (w : World) → Fits w → DoesSame m n w (On (with_change g to w)) (On (with_change g to w))
changed_same m n g to w f = does_itself m n w (On (with_change g to w)) (beside_grows w (with_change g to w) f refl refl refl refl refl)

free_same : (m n : Answers) (id : ℕ) (g t : PlacedGate) (link : Option Link) (o : Option NextHop) (w : World) → Fits w → is_live w t.id ≡ true → DoesSame m n w (joined_free m id g t link o w) (joined_free n id g t link o w)
free_same m n id g t link (Some hop) w f live = does_itself m n w (broken id fault.AlreadyConnected w) (grown_same w f)
free_same m n id g t link None w f live =
    let q : Question = HopBack t.id t.name t.index in
    let v : World = asked q w in
    asking_same m n q (joined id g t link) (joined id g t link) w f (live_within w t.id live)
    (λ a fits. either_does m n v (is_taken t a v) (broken id fault.AlreadyConnected v) (broken id fault.AlreadyConnected v) _ _ (does_itself m n v (broken id fault.AlreadyConnected v) (grown_same v fits))
    (changed_same m n g (Some (record { to = t; channel = channel_by link })) v fits))

join_into_same : (m n : Answers) (id : ℕ) (g t : PlacedGate) (link : Option Link) (a : Answer) (w : World) → Fits w → is_live w g.id ≡ true → is_live w t.id ≡ true → DoesSame m n w (joined_into m id g t link a w) (joined_into n id g t link a w)
join_into_same m n id g t link a w f from to =
    either_does m n w (is_in_gate a t.index) _ _ (broken id fault.NoGate w) (broken id fault.NoGate w)
    (next_hop_same m n g (joined_free m id g t link) (joined_free n id g t link) w f from (λ o v fits l k. free_same m n id g t link o v fits (k t.id to)))
    (does_itself m n w (broken id fault.NoGate w) (grown_same w f))

join_from_same : (m n : Answers) (id : ℕ) (g t : PlacedGate) (link : Option Link) (a : Answer) (w : World) → Fits w → is_live w g.id ≡ true → is_live w t.id ≡ true → DoesSame m n w (joined_from m id g t link a w) (joined_from n id g t link a w)
join_from_same m n id g t link a w f from to =
    let q : Question = GateSize t.id t.name in
    either_does m n w (is_out_gate a g.index) _ _ (broken id fault.NoGate w) (broken id fault.NoGate w)
    (asking_same m n q (joined_into m id g t link) (joined_into n id g t link) w f (live_within w t.id to) (λ c fits. join_into_same m n id g t link c (asked q w) fits from to))
    (does_itself m n w (broken id fault.NoGate w) (grown_same w f))

join_to_same : (m n : Answers) (id : ℕ) (from to : GatePlace) (link : Option Link) (source : ℕ) (w : World) (found : Option ℕ) → module_at to.path w ≡ found → is_live w source ≡ true → Fits w → DoesSame m n w (joined_to m id from to link source w found) (joined_to n id from to link source w found)
join_to_same m n id from to link source w None e live f = does_itself m n w (broken id fault.NoModule w) (grown_same w f)
join_to_same m n id from to link source w (Some target) e live f =
    let q : Question = GateSize source from.name in
    asking_same m n q (joined_from m id (gate_at source from) (gate_at target to) link) (joined_from n id (gate_at source from) (gate_at target to) link) w f (live_within w source live)
    (λ a fits. join_from_same m n id (gate_at source from) (gate_at target to) link a (asked q w) fits live (module_live to.path w target e))

connected_same : (m n : Answers) (id : ℕ) (from to : GatePlace) (link : Option Link) (w : World) (found : Option ℕ) → module_at from.path w ≡ found → Fits w → DoesSame m n w (joined_at m id from to link w found) (joined_at n id from to link w found)
connected_same m n id from to link w None e f = does_itself m n w (broken id fault.NoModule w) (grown_same w f)
connected_same m n id from to link w (Some source) e f = join_to_same m n id from to link source w (module_at to.path w) refl (module_live from.path w source e) f

freed_same : (m n : Answers) (id : ℕ) (g : PlacedGate) (o : Option NextHop) (w : World) → Fits w → DoesSame m n w (freed id g o w) (freed id g o w)
freed_same m n id g None w f = does_itself m n w (broken id fault.NotConnected w) (grown_same w f)
freed_same m n id g (Some hop) w f = changed_same m n g None w f

disconnected_same : (m n : Answers) (id : ℕ) (place : GatePlace) (w : World) (found : Option ℕ) → module_at place.path w ≡ found → Fits w → DoesSame m n w (freed_at m id place w found) (freed_at n id place w found)
disconnected_same m n id place w None e f = does_itself m n w (broken id fault.NoModule w) (grown_same w f)
disconnected_same m n id place w (Some source) e f =
    let g : PlacedGate = gate_at source place in
    let q : Question = GateSize source place.name in
    let v : World = asked q w in
    let live = module_live place.path w source e in
    asking_same m n q (freed_from m id g) (freed_from n id g) w f (live_within w source live)
    (λ a fits. either_does m n v (is_out_gate a g.index) _ _ (broken id fault.NoGate v) (broken id fault.NoGate v)
    (next_hop_same m n g (freed id g) (freed id g) v fits live (λ o x k l j. freed_same m n id g o x k))
    (does_itself m n v (broken id fault.NoGate v) (grown_same v fits)))

-- ---- setup

-- the first question, and what follows it
root_same : (m n : Answers) → DoesSame m n empty (root_asked m) (root_asked n)
root_same m n = asking_same m n Root rooted rooted empty fits_empty (omega arith) (λ a fits. does_itself m n (asked Root empty) (rooted a (asked Root empty)) (rooted_grows a))

-- where a network is there, it has a record
abbrev HasRecord : World → Type 0
HasRecord w = 1 ≤ length w.records

-- a network that is created has its record
rooted_on : (found : Answer) → IfOn HasRecord (rooted found (asked Root empty))
rooted_on (answer.Root name) = omega arith
rooted_on (answer.Class class) = tt
rooted_on (answer.Inside bs) = tt
rooted_on (answer.Value v) = tt
rooted_on (answer.Gate g) = tt
rooted_on (answer.Next next) = tt
rooted_on (answer.Fault path f) = tt
rooted_on (answer.Beyond beyond) = tt
rooted_on (answer.Injection next) = tt
rooted_on answer.Absent = tt

-- some modules, one after another, each of which is the same
each_same : (m n : Answers) (part other : ℕ → World → Flow) (k : ℕ) (ids : List ℕ) (w : World) → ((id : ℕ) (v : World) → Fits v → id ≤ length v.records → DoesSame m n v (part id v) (other id v)) → AreUpTo k ids → Fits w → k ≤ length w.records
    → DoesSame m n w (for_each part ids w) (for_each other ids w)
each_same m n part other k [] w h all f l = does_itself m n w (On w) (grown_same w f)
each_same m n part other k (id ∷ ids) w h all f l =
    let d = h id w f (omega (arith, all.0, l)) in
    does_then_where m n (λ v. k ≤ length v.records) w (part id w) (other id w) (for_each part ids) (for_each other ids) d (if_longer k w (part id w) l d.grows)
    (λ v g p. each_same m n part other k ids v h all.1 g p)

-- submodules are created, where they are not too many
many_on : (parent : ℕ) (bs : List Built) (w : World) (one : Option Built) → IfOn (λ v. length w.records + length bs ≤ length v.records) (unless_many parent bs w one)
many_on parent bs w (Some b) = tt
many_on parent bs w None = omega (arith, length_created parent bs w)

created_on : (parent : ℕ) (found : Answer) (w : World) → IfOn (λ v. length w.records + length (inside_of found) ≤ length v.records) (created parent found w)
created_on parent (answer.Inside bs) w = many_on parent bs w (slice_get bs (room_in w))
created_on parent (answer.Class class) w = tt
created_on parent (answer.Root name) w = tt
created_on parent (answer.Value v) w = tt
created_on parent (answer.Gate g) w = tt
created_on parent (answer.Next next) w = tt
created_on parent (answer.Fault path fault) w = tt
created_on parent (answer.Beyond beyond) w = tt
created_on parent (answer.Injection next) w = tt
created_on parent answer.Absent w = tt

-- what follows an answer
built_same : (m n : Answers) (inner other : ℕ → World → Flow) (parent : ℕ) (found : Answer) (w : World) → ((id : ℕ) (v : World) → Fits v → id ≤ length v.records → DoesSame m n v (inner id v) (other id v)) → Fits w → parent ≤ length w.records
    → DoesSame m n w (built inner parent found w) (built other parent found w)
built_same m n inner other parent found w h f l =
    let k : ℕ = length w.records + length (inside_of found) in
    let ids : List ℕ = compounds_from (suc (length w.records)) (inside_of found) in
    does_then_where m n (λ v. k ≤ length v.records) w (created parent found w) (created parent found w) (for_each inner ids) (for_each other ids)
    (does_itself m n w (created parent found w) (created_grows parent found w f l)) (created_on parent found w)
    (λ v g p. each_same m n inner other k ids v h (compounds_within (suc (length w.records)) k (inside_of found) (omega arith)) g p)

-- the setup of a compound module
set_up_same : (m n : Answers) (depth id : ℕ) (w : World) → Fits w → id ≤ length w.records → DoesSame m n w (set_up depth m id w) (set_up depth n id w)
set_up_same m n zero id w f l = does_itself m n w (On w) (grown_same w f)
set_up_same m n (suc depth) id w f l =
    asking_same m n (Build id) (built (set_up depth m) id) (built (set_up depth n) id) w f l (λ a fits. built_same m n (set_up depth m) (set_up depth n) id a (asked (Build id) w) (set_up_same m n depth) fits l)

-- setup
prepared_same : (m n : Answers) → DoesSame m n empty (prepared m) (prepared n)
prepared_same m n = does_then_where m n HasRecord empty (root_asked m) (root_asked n) (set_up most_nested m 1) (set_up most_nested n 1) (root_same m n) (rooted_on (answer_of m [] Root)) (set_up_same m n most_nested 1)

-- where the flow goes on the module lives
lives_on : (b : Behaviour) (m : Answers) (u : World) (id : ℕ) (fl : Flow) → Ends b m (IsGrown u) (growth_lasts_on b m u) (id ∷ []) fl → IfOn (λ v. is_live v id ≡ true) fl
lives_on b m u id (On w) h = h.1.0
lives_on b m u id (Stopped w) h = tt
lives_on b m u id (Broken w path f) h = tt

-- ---- modules that are created

-- what answers alike about the class of a module that is created creates the same
creating_same : (m n : Answers) (parent : ℕ) (c : Creation) (next other : Answer → World → Flow) (w : World) → Fits w → parent ≤ length w.records → ((a : Answer) (v : World) → Fits v → is_live v (suc (length w.records)) ≡ true → DoesSame m n v (next a v) (other a v)) → DoesSame m n w (creating m parent c next w) (creating n parent c other w)
creating_same m n parent c next other w f l h =
    let a : Answer = class_answer m parent c w in
    let first : ℕ = suc (length w.records) in
    let r : Record = record_for parent c (class_in a) in
    let v : World = with_created parent c (class_in a) w in
    let u : World = asked (TypeOf first) v in
    let fits : Fits v = fits_more w v (r ∷ []) f refl refl refl refl (nested_last 0 w.records r f.nested (omega (arith, l))) in
    let live = live_last w v r refl refl f.dead in
    let made : IsGrown w v = record { rest = []; joined = append-nil w.questions; present = tt; count = refl; more = r ∷ []; records = refl; fits = fits } in
    let asks = asked_grows (TypeOf first) v fits (live_within v first live) in
    let d = h a u asks.fits live in
    record {
      grows = grown_on made (grown_on asks d.grows);
      same = λ agreed.
          let here : AgreesIn m n u = Agrees-before m n u (in_flow (next a u)) asks.fits d.grows agreed in
          let there = Agrees-noted m n v.records v.count (TypeOf first) v.questions here in
          let alike : a ≡ class_answer n parent c w = sym (typed_alike m w.records (record_for parent c None) (class_in a) f.nested l) ∙ (there ∙ typed_alike n w.records (record_for parent c None) (class_in a) f.nested l) in
          d.same agreed ∙ ap (λ (x : Answer). other x (asked (TypeOf first) (with_created parent c (class_in x) w))) alike;
    }

awaiting_same : (m n : Answers) (first : ℕ) (w : World) → Fits w → DoesSame m n w (awaiting first w) (awaiting first w)
awaiting_same m n first w f = does_itself m n w (awaiting first w) (beside_grows w (with_start first w) f refl refl refl refl refl)

built_by_same : (m n : Answers) (levels first : ℕ) (class : Option (List ℕ)) (w : World) → Fits w → is_live w first ≡ true → DoesSame m n w (built_by m levels first class w) (built_by n levels first class w)
built_by_same m n levels first (Some class) w f live = awaiting_same m n first w f
built_by_same m n levels first None w f live =
    does_then m n w (set_up levels m first w) (set_up levels n first w) (awaiting first) (awaiting first) (set_up_same m n levels first w f (live_within w first live)) (awaiting_same m n first)

built_as_same : (m n : Answers) (levels first : ℕ) (a : Answer) (w : World) → Fits w → is_live w first ≡ true → DoesSame m n w (built_as m levels first a w) (built_as n levels first a w)
built_as_same m n levels first (answer.Class class) w f live = built_by_same m n levels first class w f live
built_as_same m n levels first (answer.Fault path e) w f live = does_itself m n w _ (grown_same w f)
built_as_same m n levels first (answer.Root name) w f live = does_itself m n w _ (grown_same w f)
built_as_same m n levels first (answer.Inside bs) w f live = does_itself m n w _ (grown_same w f)
built_as_same m n levels first (answer.Value v) w f live = does_itself m n w _ (grown_same w f)
built_as_same m n levels first (answer.Gate g) w f live = does_itself m n w _ (grown_same w f)
built_as_same m n levels first (answer.Next next) w f live = does_itself m n w _ (grown_same w f)
built_as_same m n levels first (answer.Beyond beyond) w f live = does_itself m n w _ (grown_same w f)
built_as_same m n levels first (answer.Injection i) w f live = does_itself m n w _ (grown_same w f)
built_as_same m n levels first answer.Absent w f live = does_itself m n w _ (grown_same w f)

created_new_same : (m n : Answers) (id : ℕ) (c : Creation) (w : World) (found : Option ℕ) → module_at c.parent w ≡ found → Fits w → DoesSame m n w (created_in m id c w found) (created_in n id c w found)
created_new_same m n id c w None e f = does_itself m n w (broken id fault.NoModule w) (grown_same w f)
created_new_same m n id c w (Some parent) e f =
    let within = live_within w parent (module_live c.parent w parent e) in
    let first : ℕ = suc (length w.records) in
    let levels : ℕ = levels_in parent w in
    let none : (x : FaultValue) → DoesSame m n w (broken id x w) (broken id x w) = λ x. does_itself m n w (broken id x w) (grown_same w f) in
    either_does m n w (is_simple w.records parent) _ _ _ _ (none fault.NoModule)
    (either_does m n w (is_module_name c.name) _ _ _ _
    (either_does m n w (has_namesake parent c w) _ _ _ _ (none fault.DuplicateName)
    (either_does m n w (is_full (room_in w)) _ _ _ _ (does_itself m n w _ (grown_same w f))
    (either_does m n w (is_full levels) _ _ _ _ (does_itself m n w _ (grown_same w f)) (creating_same m n parent c (built_as m levels first) (built_as n levels first) w f within (built_as_same m n levels first)))))
    (none fault.BadName))

-- ---- replies

-- what follows the questions of a reply, in an event
abbrev followed : Answers → (Action → World → Flow) → Occasion → ℕ → Reply → World → Flow
followed m does o id reply w = unless_fault id (read_fault m w.records id reply.reads) (acted does o id reply.actions) (ask_all id reply.reads w)

-- actions that are done so do the same, and the module lives on where the flow goes on
pub record ActAlike (m n : Answers) (id : ℕ) (does other : Action → World → Flow) : Type 0 where
  pub same : (action : Action) (w : World) → Fits w → is_live w id ≡ true → DoesSame m n w (does action w) (other action w)
  pub live : (action : Action) (w : World) → has_large_payload action ≡ false → Fits w → is_live w id ≡ true → IfOn (λ v. is_live v id ≡ true) (does action w)

if_either : (P : World → Type 0) (c : Bool) (f g : Flow) → IfOn P f → (c ≡ false → IfOn P g) → IfOn P (if c then f else g)
if_either P true f g h k = h
if_either P false f g h k = k refl

act_same : (m n : Answers) (o : Occasion) (id : ℕ) (does other : Action → World → Flow) → ActAlike m n id does other → (action : Action) (w : World) → Fits w → is_live w id ≡ true → DoesSame m n w (act does o id action w) (act other o id action w)
act_same m n o id does other h action w f l =
    let large : Flow = broken id fault.PayloadTooLarge w in
    let not_now : Flow = broken id fault.NotInFinish w in
    either_does m n w (has_large_payload action) large large _ _ (does_itself m n w large (grown_same w f))
    (either_does m n w (is_allowed o action) _ _ not_now not_now (h.same action w f l) (does_itself m n w not_now (grown_same w f)))

act_live : (m n : Answers) (o : Occasion) (id : ℕ) (does other : Action → World → Flow) → ActAlike m n id does other → (action : Action) (w : World) → Fits w → is_live w id ≡ true → IfOn (λ v. is_live v id ≡ true) (act does o id action w)
act_live m n o id does other h action w f l =
    if_either (λ v. is_live v id ≡ true) (has_large_payload action) (broken id fault.PayloadTooLarge w) _ tt
    (λ small. if_either (λ v. is_live v id ≡ true) (is_allowed o action) (does action w) (broken id fault.NotInFinish w) (h.live action w small f l) (λ e. tt))

-- so are all actions of a reply
act_all_same : (m n : Answers) (o : Occasion) (id : ℕ) (does other : Action → World → Flow) → ActAlike m n id does other → (actions : List Action) (w : World) → Fits w → is_live w id ≡ true → DoesSame m n w (act_all does o id actions w) (act_all other o id actions w)
act_all_same m n o id does other h [] w f l = does_itself m n w (On w) (grown_same w f)
act_all_same m n o id does other h (action ∷ actions) w f l =
    does_then_where m n (λ v. is_live v id ≡ true) w (act does o id action w) (act other o id action w) (for_each (act does o id) actions) (for_each (act other o id) actions)
    (act_same m n o id does other h action w f l) (act_live m n o id does other h action w f l) (act_all_same m n o id does other h actions)

-- unless they are too many
acted_same : (m n : Answers) (o : Occasion) (id : ℕ) (does other : Action → World → Flow) → ActAlike m n id does other → (actions : List Action) (w : World) → Fits w → is_live w id ≡ true → DoesSame m n w (acted does o id actions w) (acted other o id actions w)
acted_same m n o id does other h actions w f l =
    let many : Flow = broken id fault.TooManyActions w in
    either_does m n w (nat_lt 1000 (length actions)) many many _ _ (does_itself m n w many (grown_same w f)) (act_all_same m n o id does other h actions w f l)

-- unless a read has a fault
unless_fault_same : (m n : Answers) (o : Occasion) (id : ℕ) (does other : Action → World → Flow) → ActAlike m n id does other → (found : Option FaultValue) (actions : List Action) (w : World) → Fits w → is_live w id ≡ true
    → DoesSame m n w (unless_fault id found (acted does o id actions) w) (unless_fault id found (acted other o id actions) w)
unless_fault_same m n o id does other h (Some e) actions w f l = does_itself m n w (broken id e w) (grown_same w f)
unless_fault_same m n o id does other h None actions w f l = acted_same m n o id does other h actions w f l

-- a call has the same reply, since the law of reads holds, and the same follows
called_same : (b : Behaviour) → IsLawful b → (m n : Answers) (o : Occasion) (id : ℕ) (does other : Action → World → Flow) → ActAlike m n id does other → (p : CallReason) (w : World) (found : Option Instance) → Fits w → instance_in id w.modules ≡ found
    → DoesSame m n w (called b m (followed m does o id) id p w found) (called b n (followed n other o id) id p w found)
called_same b law m n o id does other h p w None f e = does_itself m n w (On w) (grown_same w f)
called_same b law m n o id does other h p w (Some i) f e =
    let r : Replied = (b.naming i.kind).reply i.state (call_of m id p w) in
    let v : World = changed id r.state w in
    let live = found_live id w i f e in
    let l = live_within w id live in
    let fits = fits_changed id r.state w f in
    let asks = ask_all_grows id r.reply.reads v fits l in
    let u : World = ask_all id r.reply.reads v in
    let found = read_fault m w.records id r.reply.reads in
    let d = unless_fault_same m n o id does other h found r.reply.actions u asks.fits (ask_all_live id id r.reply.reads v live) in
    record {
      grows = grown_on (grown_beside w v fits refl refl refl) (grown_on asks d.grows);
      same = λ agreed.
          let before : AgreesIn m n u = Agrees-before m n u _ asks.fits d.grows agreed in
          let alike : AnswerAlike m n w.records id r.reply.reads = alike_asked m n id r.reply.reads v fits l before in
          let reply : (b.naming i.kind).reply i.state (call_of n id p w) ≡ r = (law.reads i.kind) i.state (call_of m id p w) (parameters_of n w.records id) (gates_of n w.records id) (shown_alike m n id p w r.reply.reads alike) in
          d.same agreed
          ∙ ap (λ found. unless_fault id found (acted other o id r.reply.actions) u) (fault_alike m n w.records id r.reply.reads alike)
          ∙ ap (λ (x : Replied). replied (followed n other o id) id x w) (sym reply);
    }

-- ---- modules that are deleted

-- a deed is the same in all models
deeds_alike : (b : Behaviour) (m n : Answers) (id : ℕ) → ActAlike m n id (deed id) (deed id)
deeds_alike b m n id = record {
  same = λ action w f l. does_itself m n w (deed id action w) (deed_grows b m id action w l f);
  live = λ action w small f l. lives_on b m w id (deed id action w) (deed_ends b m (IsGrown w) (growth_lasts_on b m w) (id ∷ []) id action w l ((f, grown_same w f), (l, tt)));
}

finish_same : (b : Behaviour) → IsLawful b → (m n : Answers) (id : ℕ) (w : World) → Fits w → DoesSame m n w (finish b m occasion.Deletion id w) (finish b n occasion.Deletion id w)
finish_same b law m n id w f =
    does_then m n w (call_last b m occasion.Deletion id w) (call_last b n occasion.Deletion id w) (marked id) (marked id)
    (called_same b law m n occasion.Deletion id (deed id) (deed id) (deeds_alike b m n id) prompt.Finish w (instance_in id w.modules) f refl)
    (λ v g. does_itself m n v (marked id v) (beside_grows v (with_finished id v) g refl refl refl refl refl))

finish_all_same : (b : Behaviour) → IsLawful b → (m n : Answers) (ids : List ℕ) (w : World) → Fits w → DoesSame m n w (finish_all b m occasion.Deletion ids w) (finish_all b n occasion.Deletion ids w)
finish_all_same b law m n [] w f = does_itself m n w (On w) (grown_same w f)
finish_all_same b law m n (id ∷ ids) w f =
    does_then m n w (finish b m occasion.Deletion id w) (finish b n occasion.Deletion id w) (for_each (finish b m occasion.Deletion) ids) (for_each (finish b n occasion.Deletion) ids) (finish_same b law m n id w f) (finish_all_same b law m n ids)

first_same : (b : Behaviour) → IsLawful b → (m n : Answers) (finish : Bool) (target : ℕ) (w : World) → Fits w → DoesSame m n w (finished_first b m finish target w) (finished_first b n finish target w)
first_same b law m n true target w f = finish_all_same b law m n (to_finish_in target w) w f
first_same b law m n false target w f = does_itself m n w (On w) (grown_same w f)

dropped_same : (b : Behaviour) (m n : Answers) (id target : ℕ) (w : World) → Fits w → DoesSame m n w (subtree_dropped id target w) (subtree_dropped id target w)
dropped_same b m n id target w f =
    let gone_grows : IsGrown w (gone (subtree_of target w) w) = grown_beside w _ (fits_without target w f) refl refl refl in
    does_itself m n w (subtree_dropped id target w) (by (among id (subtree_of target w)) gone_grows)
  where
    by : (t : Bool) → IsGrown w (gone (subtree_of target w) w) → IsGrown w (in_flow (if t then Stopped (gone (subtree_of target w) w) else On (gone (subtree_of target w) w)))
    by true g = g
    by false g = g

deleted_same : (b : Behaviour) → IsLawful b → (m n : Answers) (id : ℕ) (finish : Bool) (w : World) (found : Option ℕ) → Fits w → DoesSame m n w (deleted_at b m id finish w found) (deleted_at b n id finish w found)
deleted_same b law m n id finish w None f = does_itself m n w (broken id fault.NoModule w) (grown_same w f)
deleted_same b law m n id finish w (Some target) f =
    either_does m n w (target == 1) _ _ _ _ (does_itself m n w (broken id fault.NoModule w) (grown_same w f))
    (does_then m n w (finished_first b m finish target w) (finished_first b n finish target w) (subtree_dropped id target) (subtree_dropped id target) (first_same b law m n finish target w f) (dropped_same b m n id target))

-- ---- actions: one line for each

perform_same : (b : Behaviour) → IsLawful b → (m n : Answers) (id : ℕ) (action : Action) (w : World) → Fits w → is_live w id ≡ true → DoesSame m n w (perform b m id action w) (perform b n id action w)
perform_same b law m n id (Emit signal value) w f l = (deeds_alike b m n id).same (Emit signal value) w f l
perform_same b law m n id (RecordScalar name value) w f l = (deeds_alike b m n id).same (RecordScalar name value) w f l
perform_same b law m n id (Send gate message) w f l = sent_same m n id gate message (Some w.clock) w f l
perform_same b law m n id (SendDelayed gate message delay) w f l = sent_same m n id gate message (time_sum w.clock delay) w f l
perform_same b law m n id (SendDirect place message flight) w f l = to_same m n id place message flight w (module_at place.path w) refl f
perform_same b law m n id (ScheduleAt a) w f l = (deeds_alike b m n id).same (ScheduleAt a) w f l
perform_same b law m n id (ScheduleAfter s) w f l = (deeds_alike b m n id).same (ScheduleAfter s) w f l
perform_same b law m n id (Cancel timer) w f l = (deeds_alike b m n id).same (Cancel timer) w f l
perform_same b law m n id (Create c) w f l = created_new_same m n id c w (module_at c.parent w) refl f
perform_same b law m n id (Delete path finish) w f l = deleted_same b law m n id finish w (module_at path w) f
perform_same b law m n id (Connect from to link) w f l = connected_same m n id from to link w (module_at from.path w) refl f
perform_same b law m n id (Disconnect place) w f l = disconnected_same m n id place w (module_at place.path w) refl f
perform_same b law m n id End w f l = (deeds_alike b m n id).same End w f l
perform_same b law m n id (Fail text) w f l = (deeds_alike b m n id).same (Fail text) w f l

all_alike : (b : Behaviour) → IsLawful b → (m n : Answers) (id : ℕ) → ActAlike m n id (perform b m id) (perform b n id)
all_alike b law m n id = record { same = perform_same b law m n id; live = λ action w small f l. lives_on b m w id (perform b m id action w) (perform_ends b m (IsGrown w) (growth_lasts_on b m w) id action w small ((f, grown_same w f), (l, tt))) }

-- one call
call_same : (b : Behaviour) → IsLawful b → (m n : Answers) (id : ℕ) (p : CallReason) (w : World) → Fits w → DoesSame m n w (call_module b m id p w) (call_module b n id p w)
call_same b law m n id p w f = called_same b law m n occasion.Event id (perform b m id) (perform b n id) (all_alike b law m n id) p w (instance_in id w.modules) f refl

-- ---- starts

-- one module is initialized, where it has the stage
initialize_same : (b : Behaviour) → IsLawful b → (m n : Answers) (stage id : ℕ) (w : World) → Fits w → DoesSame m n w (initialize b m stage id w) (initialize b n stage id w)
initialize_same b law m n stage id w f =
    either_does m n w (nat_lt stage (stages_in b (instance_in id w.modules))) _ _ (On w) (On w) (call_same b law m n id (prompt.Initialize stage) w f) (does_itself m n w (On w) (grown_same w f))

-- one stage of these modules
one_stage_same : (b : Behaviour) → IsLawful b → (m n : Answers) (stage : ℕ) (ids : List ℕ) (w : World) → Fits w → DoesSame m n w (one_stage b m stage ids w) (one_stage b n stage ids w)
one_stage_same b law m n stage [] w f = does_itself m n w (On w) (grown_same w f)
one_stage_same b law m n stage (id ∷ ids) w f =
    does_then m n w (initialize b m stage id w) (initialize b n stage id w) (for_each (initialize b m stage) ids) (for_each (initialize b n stage) ids) (initialize_same b law m n stage id w f) (one_stage_same b law m n stage ids)

-- the stages that are left
stages_same : (b : Behaviour) → IsLawful b → (m n : Answers) (ids : List ℕ) (stage left : ℕ) (w : World) → Fits w → DoesSame m n w (stages_from b m ids stage left w) (stages_from b n ids stage left w)
stages_same b law m n ids stage zero w f = does_itself m n w (On w) (grown_same w f)
stages_same b law m n ids stage (suc left) w f =
    does_then m n w (one_stage b m stage ids w) (one_stage b n stage ids w) (stages_from b m ids (suc stage) left) (stages_from b n ids (suc stage) left) (one_stage_same b law m n stage ids w f) (stages_same b law m n ids (suc stage) left)

-- a start of modules that live
start_modules_same : (b : Behaviour) → IsLawful b → (m n : Answers) (ids : List ℕ) (first : ℕ) (w : World) → AreLive w ids → Fits w → DoesSame m n w (start_modules b m ids first w) (start_modules b n ids first w)
start_modules_same b law m n ids first w live f = by (first_unknown b (needs_of ids w)) (fits_placed b w ids f live)
  where
    calls : List ℕ
    calls = outer_first w.records ids first

    by : (o : Option Part) → Fits (placed b (needs_of ids w) w) → DoesSame m n w (unless_unknown b (needs_of ids w) w o >>= started b m ids calls) (unless_unknown b (needs_of ids w) w o >>= started b n ids calls)
    by (Some p) fits = does_itself m n w _ (grown_same w f)
    by None fits =
        let v : World = placed b (needs_of ids w) w in
        let u : World = with_started ids v in
        let g = fits_beside v u fits refl refl refl refl in
        let d = stages_same b law m n calls 0 (most_stages b v.modules calls) u g in
        record { grows = grown_on (grown_beside w u g refl refl refl) d.grows; same = d.same }

-- ---- events

-- what happens in an event is the same
pub happens_same : (b : Behaviour) → IsLawful b → (m n : Answers) (p : Pending) (what : Happening) (w : World) → Fits w → DoesSame m n w (happens b m p what w) (happens b n p what w)
happens_same b law m n p (happening.Start last) w f = start_modules_same b law m n (starting p.id last w) p.id w (starting_live p.id last w) f
happens_same b law m n p (happening.Timer timer kind) w f = call_same b law m n p.id (prompt.Message (message_of p)) w f
happens_same b law m n p (happening.Arrival kind bits payload) w f = call_same b law m n p.id (prompt.Message (message_of p)) w f
happens_same b law m n p (happening.Delivery d) w f = call_same b law m n p.id (prompt.Message (message_of p)) w f

-- event zero, before it is settled
abbrev pub begins : Behaviour → Answers → Flow
begins b m = prepared m >>= start_all b m

-- event zero is the same
pub begins_same : (b : Behaviour) → IsLawful b → (m n : Answers) → DoesSame m n empty (begins b m) (begins b n)
begins_same b law m n = does_then m n empty (prepared m) (prepared n) (start_all b m) (start_all b n) (prepared_same m n) (λ w f. start_modules_same b law m n (unstarted w) 1 w (unstarted_live w) f)

-- a setup leaves a world whose ids are those of modules that were created
pub prepared_fits : (m : Answers) → Fits (in_flow (prepared m))
prepared_fits m = (prepared_same m m).grows.fits

-- and it only asks and creates, in every catalogue
pub begins_grows : (b : Behaviour) (m : Answers) → IsGrown empty (in_flow (begins b m))
begins_grows b m = let g = (prepared_same m m).grows in grown_on g (then_grows (prepared m) (start_all b m) g.fits (λ w f. start_grows b m (unstarted w) 1 w (unstarted_live w) (unstarted_new w) f))
