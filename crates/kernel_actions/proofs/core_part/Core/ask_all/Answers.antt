use Rattle.std.proofs.Common.{refl}
use Rattle.kernel_actions.proofs.Lasting.{growth_same}
use Rattle.kernel_actions.proofs.core_part.Core.ask_all.Goals as goal

pub loop-place-init : goal.loop-place-init
loop-place-init c = record { noted = refl; grown = growth_same c.args.self.now }
