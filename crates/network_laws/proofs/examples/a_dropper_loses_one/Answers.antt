use Rattle.std.proofs.Common.{refl}
use Rattle.module_network.specs.Dropper.{dropper_script}
use Rattle.network_laws.proofs.examples.a_dropper_loses_one.Goals as goal

pub returns : goal.returns
unfolding dropper_script
returns c = record { told = ((refl, refl), ((refl, refl), ((refl, refl), tt))); sent = refl }
