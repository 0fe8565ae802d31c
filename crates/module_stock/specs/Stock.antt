-- The stock kinds.
use Rattle.std.specs.Prelude.{List, [], ◌∷◌, codes}
use Rattle.module_api.specs.Behaviour.{Behaviour}
use Rattle.module_parts.specs.Catalogues.{CatalogueEntry, entry, catalogue}
use Rattle.module_stock.specs.Tick.{tick_script}
use Rattle.module_stock.specs.Source.{source_script}
use Rattle.module_stock.specs.Queue.{queue_script}
use Rattle.module_stock.specs.Sink.{sink_script}
use Rattle.module_stock.specs.Router.{router_script}
use Rattle.module_stock.specs.Spawner.{spawner_script}

abbrev pub entries : List CatalogueEntry
entries =
    entry (codes "Tick") tick_script ∷ entry (codes "Source") source_script
    ∷ entry (codes "Queue") queue_script
    ∷ entry (codes "Sink") sink_script ∷ entry (codes "Router") router_script
    ∷ entry (codes "Spawner") spawner_script ∷ []

-- these six, and no other
unfoldable pub stock : Behaviour
stock = catalogue entries
