-- Why a client is served no more.
use Rattle.std.specs.Prelude.{ℕ}
use Rattle.desk_client.specs.declared.clients.Page.{Page}
use Rattle.desk_client.specs.declared.clients.ServeEnd.{ServeEnd}
use Rattle.desk_client.specs.declared.clients.ServeEnd.TheVariants as stop

-- what is true at each reason: that nothing more is asked, that the client can't go on, or what
-- comes of a device that failed
abbrev pub at_stop : Type 0 → Type 0 → (Page → ℕ → Type 0) → ServeEnd → Type 0
at_stop over gone lost stop.End = over
at_stop over gone lost stop.Gone = gone
at_stop over gone lost (stop.Device page written) = lost page written
