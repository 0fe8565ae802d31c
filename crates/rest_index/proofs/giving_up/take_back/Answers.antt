use Rattle.std.proofs.Common.{◌∙◌, ap}
use Rattle.rest_index.specs.Following.{with_all}
use Rattle.rest_index.proofs.Back.{as_before}
use Rattle.rest_index.proofs.giving_up.take_back.Goals as goal

pub returns-clause-before : goal.returns-clause-before
returns-clause-before c = λ rows seeds before left.
    c.count_again.ensures ∙ ap (with_all c.args.flags.now.live) c.as_slice.ensures ∙ as_before rows seeds before c.args.flags.now.given c.args.flags.now.live left
