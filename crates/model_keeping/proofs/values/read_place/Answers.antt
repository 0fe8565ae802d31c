use Rattle.std.proofs.Common.{◌∙◌, ap, sym, Some}
use Rattle.inside_run.specs.Same.{same_is}
use Rattle.param_engine.specs.Tables.{said}
use Rattle.param_keeping.specs.Stores.{store_of, value_in}
use Rattle.model_keeping.proofs.Storing.{apart_alike, known_as}
use Rattle.model_keeping.proofs.values.read_place.Goals as goal

pub look_up-requires-clause-apart : goal.look_up-requires-clause-apart
look_up-requires-clause-apart g c = apart_alike c.args.stored.kept.now.entries c.requires.apart

pub look_up-requires-clause-exact : goal.look_up-requires-clause-exact
look_up-requires-clause-exact g c = same_is

pub returns-in-Some : goal.returns-in-Some
returns-in-Some g c =
    ap (λ o. said (value_in o)) c.in-Some.ensures.there
    ∙ ap Some (sym (c.requires.right c.args.key.now c.in-Some.field-0-1.now (known_as (store_of c.args.stored.kept.now c.args.stored.read.now) c.args.key.now c.in-Some.field-0-1.now c.in-Some.ensures.value)))
