use Rattle.std.proofs.Common.{◌∙◌, refl, sym}
use Rattle.inside_run.proofs.Alike.{known_alike}
use Rattle.model_keeping.proofs.again.value_since.Goals as goal

pub returns-in-Some : goal.returns-in-Some
returns-in-Some c = sym (known_alike c.args.since.now.entries c.args.key.now ∙ c.in-Some.ensures.value)

pub returns-in-None : goal.returns-in-None
returns-in-None c = sym (known_alike c.args.since.now.entries c.args.key.now ∙ c.in-None.ensures.none refl)
