use Rattle.model_agreement.proofs.Settings.{along_one, rests_on_same}
use Rattle.model_agreement.proofs.models.rest_on_same.Goals as goal

pub returns : goal.returns
returns c = λ e.
    let chain = c.same_chain.ensures c.if-not-same_chain.false in
    rests_on_same c.args.one.now c.args.other.now c.requires.types (c.same_network.ensures c.if-not-same_network.false)
    (along_one c.args.one.now c.args.other.now chain (c.same_counted.ensures e c.requires.one c.requires.other))
