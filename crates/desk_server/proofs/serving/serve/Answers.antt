use Rattle.std.proofs.Common.{◌≡◌, None, refl, sym, ap, subst, ◌∙◌}
use denote.Param.Object.{read_made}
use Rattle.module_api.specs.Meaning.{Module}
use Rattle.desk_answers.specs.Turns.{editing_at}
use Rattle.edit_session.specs.Editing.{wanted_of, IsFor}
use Rattle.module_network.specs.Library.{box_of}
use Rattle.module_network.specs.Library.{library}
use Rattle.desk_server.specs.Served.{fresh_machine}
use Rattle.desk_server.specs.Serving.{seen, seen_in, IsNextServing, IsServer, MayStopAt}
use Rattle.desk_server.proofs.ServingTurns.{ends_served, served_first, went_serving}
use Rattle.desk_server.proofs.serving.serve.OwnLists.{at-1-1, own-1}
use Rattle.desk_server.proofs.serving.serve.Goals.{in-Need+in-Ok, in-Need+in-Err, in-Over}
use Rattle.desk_server.proofs.serving.serve.Goals as goal

pub turns-init : goal.turns-init
turns-init g c =
    let e = c.in_ok-session.ensures.editing in
    record {
      sound = c.of_session.ensures.sound;
      kept = c.requires.kept;
      label = refl;
      stands = (e.0, e.1, served_first library e.0 c.args.interval (seen (editing_at (λ b. (own-1.entry b.vtable).1) c.of_session.result) (g.K.Client.asked c.args.client) (g.K.Client.heard c.args.client) (g.K.Client.left c.args.client) None) (c.of_session.ensures.editing ∙ e.2) c.requires.unasked c.requires.unheard);
    }

pub supply-requires-clause-wanted : goal.supply-requires-clause-wanted
supply-requires-clause-wanted g c =
    let means : (own-1.entry c.into_dyn_box-held.result.vtable).1.meaning c.into_dyn_box-held.result.value ≡ box_of c.in-Ok.held.value =
    read_made own-1 (own-1.entry at-1-1) at-1-1 refl Module (λ j y. j.1.meaning y) c.into_dyn_box-held.result.vtable c.into_dyn_box-held.result.value c.in-Ok.held.value c.into_dyn_box-held.ensures.1 in
    subst (λ (m : Module). IsFor library (wanted_of library (editing_at (λ b. (own-1.entry b.vtable).1) c.turn.new.self.desk)) m) (sym (means ∙ ap box_of c.in-Ok.ensures.ok)) c.in-Need.ensures.comes.wanted

pub supply-requires-clause-waits : goal.supply-requires-clause-waits
supply-requires-clause-waits g c = c.in-Need.ensures.comes.waits

pub supply-requires-clause-going : goal.supply-requires-clause-going
supply-requires-clause-going g c = c.in-Need.ensures.comes.going

-- each turn leaves less to be done
pub turns-smaller : goal.turns-smaller
turns-smaller g c =
    let went : IsNextServing library (seen_in (λ b. (own-1.entry b.vtable).1) g.K.Client.asked g.K.Client.heard g.K.Client.left c.turns.server) (seen_in (λ b. (own-1.entry b.vtable).1) g.K.Client.asked g.K.Client.heard g.K.Client.left c.match-turn.server) c.match-turn.next = elim c.match-turn.branch [
      | in-Need+in-Ok w ↦ rw (w.server-is, w.next-is) (went_serving library (seen_in (λ b. (own-1.entry b.vtable).1) g.K.Client.asked g.K.Client.heard g.K.Client.left c.turns.server) (seen_in (λ b. (own-1.entry b.vtable).1) g.K.Client.asked g.K.Client.heard g.K.Client.left c.turn.new.self) (seen_in (λ b. (own-1.entry b.vtable).1) g.K.Client.asked g.K.Client.heard g.K.Client.left w.supply.new.self) w.in-Need.made w.supply.result w.in-Need.ensures.comes w.supply.ensures.comes)
      | in-Need+in-Err w ↦ rw (w.server-is, w.next-is) (went_serving library (seen_in (λ b. (own-1.entry b.vtable).1) g.K.Client.asked g.K.Client.heard g.K.Client.left c.turns.server) (seen_in (λ b. (own-1.entry b.vtable).1) g.K.Client.asked g.K.Client.heard g.K.Client.left c.turn.new.self) (seen_in (λ b. (own-1.entry b.vtable).1) g.K.Client.asked g.K.Client.heard g.K.Client.left w.give_up.new.self) w.in-Need.made w.give_up.result w.in-Need.ensures.comes w.give_up.ensures.comes)
      | in-Over w ↦ rw (w.server-is, w.next-is) w.in-Over.ensures.comes
    ] in
    let goes_on = subst (IsNextServing library (seen_in (λ b. (own-1.entry b.vtable).1) g.K.Client.asked g.K.Client.heard g.K.Client.left c.turns.server) (seen_in (λ b. (own-1.entry b.vtable).1) g.K.Client.asked g.K.Client.heard g.K.Client.left c.match-turn.server)) c.in_default.is went in
    goes_on.1

pub turns-preserved : goal.turns-preserved
turns-preserved g c =
    let went : IsNextServing library (seen_in (λ b. (own-1.entry b.vtable).1) g.K.Client.asked g.K.Client.heard g.K.Client.left c.turns.server) (seen_in (λ b. (own-1.entry b.vtable).1) g.K.Client.asked g.K.Client.heard g.K.Client.left c.match-turn.server) c.match-turn.next = elim c.match-turn.branch [
      | in-Need+in-Ok w ↦ rw (w.server-is, w.next-is) (went_serving library (seen_in (λ b. (own-1.entry b.vtable).1) g.K.Client.asked g.K.Client.heard g.K.Client.left c.turns.server) (seen_in (λ b. (own-1.entry b.vtable).1) g.K.Client.asked g.K.Client.heard g.K.Client.left c.turn.new.self) (seen_in (λ b. (own-1.entry b.vtable).1) g.K.Client.asked g.K.Client.heard g.K.Client.left w.supply.new.self) w.in-Need.made w.supply.result w.in-Need.ensures.comes w.supply.ensures.comes)
      | in-Need+in-Err w ↦ rw (w.server-is, w.next-is) (went_serving library (seen_in (λ b. (own-1.entry b.vtable).1) g.K.Client.asked g.K.Client.heard g.K.Client.left c.turns.server) (seen_in (λ b. (own-1.entry b.vtable).1) g.K.Client.asked g.K.Client.heard g.K.Client.left c.turn.new.self) (seen_in (λ b. (own-1.entry b.vtable).1) g.K.Client.asked g.K.Client.heard g.K.Client.left w.give_up.new.self) w.in-Need.made w.give_up.result w.in-Need.ensures.comes w.give_up.ensures.comes)
      | in-Over w ↦ rw (w.server-is, w.next-is) w.in-Over.ensures.comes
    ] in
    let sound : IsServer library (λ b. (own-1.entry b.vtable).1) c.match-turn.server = elim c.match-turn.branch [
      | in-Need+in-Ok w ↦ rw w.server-is w.supply.ensures.sound
      | in-Need+in-Err w ↦ rw w.server-is w.give_up.ensures.sound
      | in-Over w ↦ rw w.server-is c.turn.ensures.sound
    ] in
    let goes_on = subst (IsNextServing library (seen_in (λ b. (own-1.entry b.vtable).1) g.K.Client.asked g.K.Client.heard g.K.Client.left c.turns.server) (seen_in (λ b. (own-1.entry b.vtable).1) g.K.Client.asked g.K.Client.heard g.K.Client.left c.match-turn.server)) c.in_default.is went in
    let stands = c.turns.invariant.stands in
    let kept : g.K.Client.keeps c.match-turn.server.client = elim c.match-turn.branch [
      | in-Need+in-Ok w ↦ rw w.server-is w.supply.ensures.kept
      | in-Need+in-Err w ↦ rw w.server-is w.give_up.ensures.kept
      | in-Over w ↦ rw w.server-is c.turn.ensures.kept
    ] in
    let label : g.K.Client.label c.match-turn.server.client ≡ g.K.Client.label c.turns.server.client = elim c.match-turn.branch [
      | in-Need+in-Ok w ↦ rw w.server-is (w.supply.ensures.label ∙ c.turn.ensures.label)
      | in-Need+in-Err w ↦ rw w.server-is (w.give_up.ensures.label ∙ c.turn.ensures.label)
      | in-Over w ↦ rw w.server-is c.turn.ensures.label
    ] in
    record { sound = sound; kept = kept; label = label ∙ c.turns.invariant.label; stands = (stands.0, stands.1, goes_on.0 (fresh_machine stands.0 c.args.interval) stands.2) }

pub returns-in-Stop-clause-served : goal.returns-in-Stop-clause-served
returns-in-Stop-clause-served g c =
    let went : IsNextServing library (seen_in (λ b. (own-1.entry b.vtable).1) g.K.Client.asked g.K.Client.heard g.K.Client.left c.turns.server) (seen_in (λ b. (own-1.entry b.vtable).1) g.K.Client.asked g.K.Client.heard g.K.Client.left c.match-turn.server) c.match-turn.next = elim c.match-turn.branch [
      | in-Need+in-Ok w ↦ rw (w.server-is, w.next-is) (went_serving library (seen_in (λ b. (own-1.entry b.vtable).1) g.K.Client.asked g.K.Client.heard g.K.Client.left c.turns.server) (seen_in (λ b. (own-1.entry b.vtable).1) g.K.Client.asked g.K.Client.heard g.K.Client.left c.turn.new.self) (seen_in (λ b. (own-1.entry b.vtable).1) g.K.Client.asked g.K.Client.heard g.K.Client.left w.supply.new.self) w.in-Need.made w.supply.result w.in-Need.ensures.comes w.supply.ensures.comes)
      | in-Need+in-Err w ↦ rw (w.server-is, w.next-is) (went_serving library (seen_in (λ b. (own-1.entry b.vtable).1) g.K.Client.asked g.K.Client.heard g.K.Client.left c.turns.server) (seen_in (λ b. (own-1.entry b.vtable).1) g.K.Client.asked g.K.Client.heard g.K.Client.left c.turn.new.self) (seen_in (λ b. (own-1.entry b.vtable).1) g.K.Client.asked g.K.Client.heard g.K.Client.left w.give_up.new.self) w.in-Need.made w.give_up.result w.in-Need.ensures.comes w.give_up.ensures.comes)
      | in-Over w ↦ rw (w.server-is, w.next-is) w.in-Over.ensures.comes
    ] in
    let stops = subst (IsNextServing library (seen_in (λ b. (own-1.entry b.vtable).1) g.K.Client.asked g.K.Client.heard g.K.Client.left c.turns.server) (seen_in (λ b. (own-1.entry b.vtable).1) g.K.Client.asked g.K.Client.heard g.K.Client.left c.match-turn.server)) c.in-Stop.is went in
    let stands = c.turns.invariant.stands in
    (stands.0, stands.1, rw c.into_client.ensures (ends_served library (fresh_machine stands.0 c.args.interval) (seen_in (λ b. (own-1.entry b.vtable).1) g.K.Client.asked g.K.Client.heard g.K.Client.left c.match-turn.server) c.in-Stop.stop (stops (fresh_machine stands.0 c.args.interval) stands.2)))

pub returns-in-Stop-clause-kept : goal.returns-in-Stop-clause-kept
returns-in-Stop-clause-kept g c =
    let kept : g.K.Client.keeps c.match-turn.server.client = elim c.match-turn.branch [
      | in-Need+in-Ok w ↦ rw w.server-is w.supply.ensures.kept
      | in-Need+in-Err w ↦ rw w.server-is w.give_up.ensures.kept
      | in-Over w ↦ rw w.server-is c.turn.ensures.kept
    ] in
    rw c.into_client.ensures kept

pub returns-in-Stop-clause-stopped : goal.returns-in-Stop-clause-stopped
returns-in-Stop-clause-stopped g c =
    let may : MayStopAt (g.K.Client.stops c.match-turn.server.client) c.match-turn.next = elim c.match-turn.branch [
      | in-Need+in-Ok w ↦ rw (w.server-is, w.next-is) w.supply.ensures.stops
      | in-Need+in-Err w ↦ rw (w.server-is, w.next-is) w.give_up.ensures.stops
      | in-Over w ↦ rw (w.server-is, w.next-is) w.in-Over.ensures.stops
    ] in
    rw c.into_client.ensures (subst (MayStopAt (g.K.Client.stops c.match-turn.server.client)) c.in-Stop.is may)

pub returns-in-Stop-clause-label : goal.returns-in-Stop-clause-label
returns-in-Stop-clause-label g c =
    let label : g.K.Client.label c.match-turn.server.client ≡ g.K.Client.label c.turns.server.client = elim c.match-turn.branch [
      | in-Need+in-Ok w ↦ rw w.server-is (w.supply.ensures.label ∙ c.turn.ensures.label)
      | in-Need+in-Err w ↦ rw w.server-is (w.give_up.ensures.label ∙ c.turn.ensures.label)
      | in-Over w ↦ rw w.server-is c.turn.ensures.label
    ] in
    rw c.into_client.ensures (label ∙ c.turns.invariant.label)

pub give_up-requires-clause-going : goal.give_up-requires-clause-going
give_up-requires-clause-going g c = c.in-Need.ensures.comes.going
