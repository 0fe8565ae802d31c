use Rattle.std.proofs.Common.{refl, sym, subst, rules}
use Rattle.edit_session.specs.Editing.{Editing}
use Rattle.module_network.specs.Library.{library}
use Rattle.desk_server.specs.Serving.{seen, seen_in, IsHeldAt, IsNextServing}
use Rattle.desk_server.proofs.ServingTurns.{supplied_turn}
use Rattle.desk_server.proofs.serving.Server.supply.Goals as goal

pub give_up-requires-clause-going : goal.give_up-requires-clause-going
give_up-requires-clause-going g c = subst (λ (e : Editing). IsHeldAt c.args.self.now.running e) (sym c.in-Err.ensures.err.1) c.requires.going

pub returns-in-NoMemory : goal.returns-in-NoMemory
returns-in-NoMemory g c = record {
  kept = c.give_up.ensures.kept;
  label = c.give_up.ensures.label;
  stops = c.give_up.ensures.stops;
  sound = c.give_up.ensures.sound;
  comes = subst (λ (e : Editing). IsNextServing library (seen e (g.K.Client.asked c.args.self.now.client) (g.K.Client.heard c.args.self.now.client) (g.K.Client.left c.args.self.now.client) c.args.self.now.running)
      (seen_in (λ b. (g.dyn-1.0.entry b.vtable).1) g.K.Client.asked g.K.Client.heard g.K.Client.left c.give_up.new.self) c.give_up.result) c.in-Err.ensures.err.1 c.give_up.ensures.comes;
}

pub returns-in-Ok : goal.returns-in-Ok
returns-in-Ok g c = record {
  kept = search rules;
  label = search rules;
  stops = search rules;
  sound = search rules;
  comes = supplied_turn library (seen_in (λ b. (g.dyn-1.0.entry b.vtable).1) g.K.Client.asked g.K.Client.heard g.K.Client.left c.args.self.now) _ c.requires.going c.requires.waits c.in-Ok.ensures.ok.1 refl refl refl refl;
}
