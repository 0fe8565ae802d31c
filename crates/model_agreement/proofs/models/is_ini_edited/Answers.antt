use Rattle.std.proofs.Common.{sym}
use Rattle.model_agreement.proofs.Settings.{same_networks}
use Rattle.model_agreement.proofs.models.is_ini_edited.Goals as goal

pub returns : goal.returns
returns c = λ e.
    record {
      types = sym c.requires;
      network = sym (same_networks c.args.one.now c.args.other.now c.requires (c.same_network.ensures e));
    }
