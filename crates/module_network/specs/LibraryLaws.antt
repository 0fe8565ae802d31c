-- The laws of all modules that come with the program.
use Rattle.std.proofs.Common.{◌≡◌, ℕ, List, false}
use Rattle.module_api.specs.Laws.{IsLawful}
use Rattle.module_api.specs.Meaning.{Module, IsFresh}
use Rattle.module_stock.specs.Stock.{stock}
use Rattle.module_stock.specs.StockLaws.{stock_lawful}
use Rattle.module_parts.specs.JoinedLaws.{joined_lawful, first_fresh, second_fresh}
use Rattle.module_network.specs.Library.{library}
use Rattle.module_network.specs.Network.{network}
use Rattle.module_network.specs.NetworkLaws.{network_lawful}

pub library_lawful : IsLawful library
unfolding library
library_lawful = joined_lawful stock network stock_lawful network_lawful

pub stock_is_fresh : (kind : List ℕ) (box : Module) → IsFresh stock kind box
    → IsFresh library kind box
unfolding library
stock_is_fresh = first_fresh stock network

pub network_is_fresh : (kind : List ℕ) (box : Module) → stock.known kind ≡ false
    → IsFresh network kind box → IsFresh library kind box
unfolding library
network_is_fresh = second_fresh stock network
