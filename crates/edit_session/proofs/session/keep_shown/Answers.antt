use Rattle.edit_session.proofs.Showing.{rest_shown}
use Rattle.edit_session.proofs.session.keep_shown.Goals as goal

pub returns-then-same : goal.returns-then-same
returns-then-same c = λ m n rs is shown. rest_shown m n rs c.args.shown.now (is c.if-same.true) shown
