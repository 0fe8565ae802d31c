use Rattle.std.proofs.Common.{◌≡◌, ◌<◌, ◌^◌, ℕ, subst, sym}
use Rattle.inside_keys.specs.declared.found.Found.{Found}
use Rattle.inside_keys.specs.declared.key.Key.{Key}
use Rattle.inside_keys.specs.Values.{asking_of, rules_of}
use Rattle.inside_run.proofs.Alike.{rules_alike}
use Rattle.inside_run.specs.Same.{equal}
use Rattle.model_settings.specs.Standings.{setting_of}
use Rattle.param_base.specs.Spots.{IsBase}
use Rattle.param_engine.specs.Tables.{IsKept}
use Rattle.param_engine.specs.Working.{ruled}
use Rattle.param_following.specs.Following.{Rules}
use Rattle.sim_values.specs.declared.model_fault.ModelFault.{ModelFault}
use Rattle.sim_values.specs.declared.model_fault.ModelFault.TheVariants as fault
use Rattle.sim_values.specs.declared.value_fault.ValueFault.TheVariants.{Circle}
use Rattle.model_keeping.proofs.Holding.{its_values, over_nothing, stored_values}
use Rattle.model_keeping.proofs.store.ValueStore.of_values.Goals as goal

pub absorb-requires-clause-found : goal.absorb-requires-clause-found
absorb-requires-clause-found c =
    let s = setting_of c.args.setting.now in
    over_nothing (ruled equal (asking_of s) (fault.Value Circle)) c.new-kept.result c.new-live.result c.args.found.entries c.new-kept.ensures.entries
    (subst (λ (r : Rules Key Found ModelFault). IsKept r c.args.found.entries) (sym (rules_alike s)) c.requires)

pub returns : goal.returns
returns c =
    let m = c.args.setting.now in
    stored_values m c.absorb.new.kept c.absorb.new.live c.new.result
    (its_values m c.absorb.new.kept c.absorb.new.live (subst (λ (n : ℕ). n < 2 ^ 63) c.len-few.ensures.len c.len-few.ensures.small)
    (subst (λ (r : Rules Key Found ModelFault). IsBase r c.absorb.new.kept c.absorb.new.live) (rules_alike (setting_of m)) c.absorb.ensures.base))
    c.new.ensures.kept c.new.ensures.live
