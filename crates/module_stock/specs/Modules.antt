-- What the stock modules are.
use Rattle.std.specs.Prelude.{codes}
use Rattle.module_api.specs.Meaning.{Module}
use Rattle.module_parts.specs.Scripts.{module_by}
use Rattle.module_stock.specs.declared.modules.StockModule.{StockModule}
use Rattle.module_stock.specs.declared.modules.StockModule.TheVariants as stock_module
use Rattle.module_stock.specs.Tick.{tick_script}
use Rattle.module_stock.specs.Source.{source_script}
use Rattle.module_stock.specs.Queue.{queue_script}
use Rattle.module_stock.specs.Sink.{sink_script}
use Rattle.module_stock.specs.Router.{router_script}
use Rattle.module_stock.specs.Spawner.{spawner_script}

abbrev pub module_of : StockModule → Module
module_of (stock_module.Tick m) = module_by (codes "Tick") tick_script m.0
module_of (stock_module.Source m) = module_by (codes "Source") source_script m.0
module_of (stock_module.Queue m) = module_by (codes "Queue") queue_script m.0
module_of (stock_module.Sink m) = module_by (codes "Sink") sink_script m.0
module_of (stock_module.Router m) = module_by (codes "Router") router_script m.0
module_of (stock_module.Spawner m) = module_by (codes "Spawner") spawner_script m.0
