-- A step that ends with what its client is told.
use Rattle.std.proofs.Common.{◌≡◌, ℕ, List, Option, sym, ◌∙◌, subst}
use Rattle.module_api.specs.Behaviour.{Behaviour}
use Rattle.kernel_boxes.specs.Seats.{Members}
use Rattle.desk_answers.specs.Turns.{IsSettled}
use Rattle.transcripts.specs.Heard.{Heard}
use Rattle.transcripts.specs.declared.asked.AskedLine.{AskedLine}
use Rattle.desk_server.specs.Serving.{Seen, seen_in, IsServer, Serves, Tells}
use Rattle.desk_server.specs.declared.serving.Next.{Next}
use Rattle.desk_server.specs.declared.serving.Server.{Server}
use Rattle.desk_client.specs.declared.clients.ServeEnd.{ServeEnd}

module _ {O K X : Type 0} {Y : X → Type 0} {R : Type 0} {b : Behaviour} {members : Members X Y} {asked_of : K → List AskedLine} {heard_of : K → List Heard} {may_ask : K → ℕ}
    {keeps : K → Type 0} {label_of : K → ℕ} {stops_of : K → ServeEnd → Type 0} {may_stop : (ServeEnd → Type 0) → R → Type 0} {is_step : Seen → Seen → R → Type 0} where
  -- It serves as its relation says, where the desk keeps what it keeps and the client's label is
  -- that from before, when the client is told.
  pub serves_told : {what : Heard} {goes_on : Option ℕ} {before middle after : Server O K X Y} {n : Next} {answer : R}
      → Tells asked_of heard_of may_ask keeps label_of stops_of what goes_on middle after n → may_stop (stops_of after.client) answer
      → IsServer b members middle → label_of middle.client ≡ label_of before.client
      → is_step (seen_in members asked_of heard_of may_ask before) (seen_in members asked_of heard_of may_ask after) answer
      → Serves b members asked_of heard_of may_ask keeps label_of stops_of may_stop is_step before after answer
  serves_told told stops sound same comes = record {
    kept = told.kept;
    label = told.label ∙ same;
    stops = stops;
    sound = subst (λ desk. IsSettled b members desk) (sym told.desk) sound;
    comes = comes;
  }
