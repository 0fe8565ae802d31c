use Rattle.std.proofs.Common.{ap, sym, ◌∙◌}
use Rattle.ned_scopes.specs.Known.{known_at}
use Rattle.ned_scopes.proofs.KnownLaws.{newly_added}
use Rattle.ned_scopes.proofs.known.KnownTypes.add.Goals as goal

pub returns : goal.returns
returns c =
    ap known_at c.in_ok-insert.ensures.entries
    ∙ newly_added c.args.self.now c.self.inside.bases.entries c.args.known c.self.view_is (sym c.has.ensures ∙ c.if-has.false)
