-- The kinds that come with the program: the stock modules, and those that networks are built of.
use Rattle.module_api.specs.Behaviour.{Behaviour}
use Rattle.module_api.specs.Meaning.{Module}
use Rattle.module_stock.specs.Stock.{stock}
use Rattle.module_stock.specs.Modules as stock_modules
use Rattle.module_network.specs.declared.library.LibraryModule.{LibraryModule}
use Rattle.module_network.specs.declared.library.LibraryModule.TheVariants as library_module
use Rattle.module_parts.specs.Joined.{joined}
use Rattle.module_network.specs.Network.{network}
use Rattle.module_network.specs.Modules as network_modules

unfoldable pub library : Behaviour
library = joined stock network

abbrev pub box_of : LibraryModule → Module
box_of (library_module.Stock m) = stock_modules.module_of m
box_of (library_module.Network m) = network_modules.module_of m
