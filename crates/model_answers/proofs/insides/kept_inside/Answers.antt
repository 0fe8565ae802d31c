use Rattle.std.proofs.Common.{◌≡◌, ◌∙◌, ap, sym, subst, Ok, Option, Result, Some}
use Rattle.std.specs.Prelude.{IfSome}
use Rattle.sim_values.specs.declared.model_fault.ModelFault.{ModelFault}
use Rattle.inside_keys.specs.declared.found.Found.{Found}
use Rattle.inside_keys.specs.declared.found.Found.TheVariants as found_as
use Rattle.inside_keys.specs.declared.key.What.TheVariants as what
use Rattle.inside_keys.specs.Keys.{key}
use Rattle.inside_keys.specs.Values.{value_at}
use Rattle.model_keeping.specs.Held.{standing}
use Rattle.model_keeping.specs.declared.values.ValuePlace.{ValuePlace}
use Rattle.param_engine.specs.Tables.{said}
use Rattle.model_answers.specs.Reading.{settings_of}
use Rattle.model_answers.proofs.Placing.{read_placed}
use Rattle.model_answers.proofs.insides.kept_inside.Goals as goal

pub returns-in-Some-Inside : goal.returns-in-Some-Inside
returns-in-Some-Inside c =
    let s = settings_of c.args.from in
    let there = subst (λ (o : Option ValuePlace). IfSome o (λ p. said {F = ModelFault} (standing c.args.from.kept p) ≡ Some (value_at s (key c.args.site.now what.Inside)))) c.in-Some.is c.in_ok-place.ensures in
    read_placed s c.args.site.now (found_as.Inside c.in-Some-Inside.inside)
    (ap (λ (f : Found). said {F = ModelFault} (Some f)) (sym c.in-Some-Inside.field-0-is) ∙ ap (λ (o : Option Found). said {F = ModelFault} o) c.in-Some-Inside.ensures ∙ there)
