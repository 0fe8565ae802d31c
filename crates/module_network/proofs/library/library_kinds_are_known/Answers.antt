use Rattle.std.proofs.Common.{◌⊎◌, inl, inr, Bool, true, false, ◌||◌, IsTrue, refl}
use Rattle.std.proofs.lemmas.Bool.{false≢true}
use Rattle.module_stock.specs.Stock.{stock}
use Rattle.module_network.specs.Library.{library}
use Rattle.module_network.specs.Network.{network}
use Rattle.module_network.proofs.library.library_kinds_are_known.Goals as goal

either : (a b : Bool) → IsTrue (a || b) → IsTrue a ⊎ IsTrue b
either true b h = inl refl
either false b h = inr h

both : (a b : Bool) → IsTrue a ⊎ IsTrue b → IsTrue (a || b)
both true b h = refl
both false b (inl h) = absurd (false≢true h)
both false b (inr h) = h

pub returns : goal.returns
unfolding library
returns c kind = (either (stock.known kind) (network.known kind), both (stock.known kind) (network.known kind))
