-- The laws of the stock catalogue.
use Rattle.std.proofs.Common.{[], codes, refl}
use Rattle.module_api.specs.Laws.{IsLawful}
use Rattle.module_api.specs.Meaning.{IsFresh}
use Rattle.module_parts.specs.ScriptLaws.{KeepsOwn, keeps_all}
use Rattle.module_parts.specs.Scripts.{naming_of, module_by}
use Rattle.module_parts.specs.CatalogueLaws.{entry_lawful, catalogue_lawful}
use Rattle.module_stock.specs.Held.{AllFit}
use Rattle.module_stock.specs.Tick.{tick_script}
use Rattle.module_stock.specs.TickLaws as tick
use Rattle.module_stock.specs.Source.{source_script}
use Rattle.module_stock.specs.SourceLaws as source
use Rattle.module_stock.specs.Queue.{queue_script}
use Rattle.module_stock.specs.QueueLaws.{queue_keeps}
use Rattle.module_stock.specs.Sink.{sink_script}
use Rattle.module_stock.specs.Router.{router_script}
use Rattle.module_stock.specs.Spawner.{spawner_script}
use Rattle.module_stock.specs.Stock.{entries, stock}

sink_keeps : KeepsOwn sink_script (λ s. Unit {0})
unfolding sink_script
sink_keeps = keeps_all sink_script (λ s. refl)

router_keeps : KeepsOwn router_script (λ r. Unit {0})
unfolding router_script
router_keeps = keeps_all router_script (λ r. refl)

spawner_keeps : KeepsOwn spawner_script (λ s. Unit {0})
unfolding spawner_script
spawner_keeps = keeps_all spawner_script (λ s. refl)

pub stock_lawful : IsLawful stock
unfolding stock
stock_lawful = catalogue_lawful entries (
  entry_lawful (codes "Tick") tick_script tick.IsSmall tick.tick_keeps,
  (
    entry_lawful (codes "Source") source_script source.IsSmall source.source_keeps,
    (
      entry_lawful (codes "Queue") queue_script AllFit queue_keeps,
      (
        entry_lawful (codes "Sink") sink_script (λ s. Unit {0}) sink_keeps,
        (
          entry_lawful (codes "Router") router_script (λ r. Unit {0}) router_keeps,
          (
            entry_lawful (codes "Spawner") spawner_script (λ s. Unit {0}) spawner_keeps,
            tt,
          ),
        ),
      ),
    ),
  ),
)

-- ---- a fresh module of each

pub tick_is_fresh : IsFresh stock (codes "Tick")
    (module_by (codes "Tick") tick_script (record { n = 0 }))
unfolding stock naming_of tick_script
tick_is_fresh = record {
  of_kind = record { known = refl; named = refl };
  kind = refl;
  initial = refl;
}

pub source_is_fresh : IsFresh stock (codes "Source")
    (module_by (codes "Source") source_script (record { n = 0 }))
unfolding stock naming_of source_script
source_is_fresh = record {
  of_kind = record { known = refl; named = refl };
  kind = refl;
  initial = refl;
}

pub queue_is_fresh : IsFresh stock (codes "Queue") (module_by (codes "Queue") queue_script [])
unfolding stock naming_of queue_script
queue_is_fresh = record {
  of_kind = record { known = refl; named = refl };
  kind = refl;
  initial = refl;
}

pub sink_is_fresh : IsFresh stock (codes "Sink") (module_by (codes "Sink") sink_script (record {}))
unfolding stock naming_of sink_script
sink_is_fresh = record {
  of_kind = record { known = refl; named = refl };
  kind = refl;
  initial = refl;
}

pub router_is_fresh : IsFresh stock (codes "Router")
    (module_by (codes "Router") router_script (record {}))
unfolding stock naming_of router_script
router_is_fresh = record {
  of_kind = record { known = refl; named = refl };
  kind = refl;
  initial = refl;
}

pub spawner_is_fresh : IsFresh stock (codes "Spawner")
    (module_by (codes "Spawner") spawner_script (record { step = 0 }))
unfolding stock naming_of spawner_script
spawner_is_fresh = record {
  of_kind = record { known = refl; named = refl };
  kind = refl;
  initial = refl;
}
