use Rattle.std.proofs.Common.{◌≡◌}
use Rattle.model_data.specs.declared.model.Model.{Model}
use Rattle.model_reading.specs.Models.{IsModelOf}
use Rattle.module_network.specs.Library.{library}
use Rattle.desk_server.specs.Served.{fresh_machine}
use Rattle.desk_server.specs.Serving.{left_seen, seen_in, IsServer, Stands}
use Rattle.desk_server.proofs.serving.serve.OwnLists.{own-1}
use Rattle.desk_server.proofs.serving.serve.Given as goal

-- what was asked is heard, but for a run that goes on, from the model of the texts on
abbrev pub invariant-turns : goal.invariant-turns
invariant-turns g l = record {
  sound : IsServer library (λ b. (own-1.entry b.vtable).1) l.server;
  stands : (m : Model) × IsModelOf l.texts l.ini l.config m
      × Stands library (fresh_machine m l.interval) (seen_in (λ b. (own-1.entry b.vtable).1) g.K.Client.asked g.K.Client.heard g.K.Client.left l.server);
  kept : g.K.Client.keeps l.server.client;
  label : g.K.Client.label l.server.client ≡ g.K.Client.label l.fn.client;
}

-- each turn leaves less to be done
abbrev pub decreases-turns : goal.decreases-turns
decreases-turns g l = left_seen library (seen_in (λ b. (own-1.entry b.vtable).1) g.K.Client.asked g.K.Client.heard g.K.Client.left l.server)
