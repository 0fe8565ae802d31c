use Rattle.std.proofs.Common.{◌≡◌, Some, subst, sym}
use Rattle.std.specs.Prelude.{IfOk, OnOk}
use Rattle.param_following.specs.Following.{Rules, value_of}
use Rattle.param_engine.specs.Tables.{IsFoundAt, IsKept, found_in}
use Rattle.param_engine.specs.Working.{AreBegunOnce}
use Rattle.sim_values.specs.declared.model_fault.ModelFault.{ModelFault}
use Rattle.inside_keys.specs.declared.found.Found.{Found}
use Rattle.inside_keys.specs.declared.key.Key.{Key}
use Rattle.inside_run.proofs.Alike.{rules_alike}
use Rattle.inside_run.proofs.values.value_of.Goals as goal

pub value_of-requires : goal.value_of-requires
value_of-requires g c = subst (λ (r : Rules Key Found ModelFault). IsKept r c.args.table.now.entries) (sym (rules_alike (g.S.ModuleSource.setting c.args.scene.now))) c.requires

pub returns-clause-value : goal.returns-clause-value
returns-clause-value g c =
    subst (λ (r : Rules Key Found ModelFault). IfOk c.value_of.result (λ found. found_in c.value_of.new.table.entries found ≡ Some (value_of r c.args.key)))
    (rules_alike (g.S.ModuleSource.setting c.args.scene.now)) c.value_of.ensures.value

pub returns-clause-there : goal.returns-clause-there
returns-clause-there g c =
    subst (λ (r : Rules Key Found ModelFault). IfOk c.value_of.result (λ found. IfOk found (IsFoundAt r.same c.value_of.new.table.entries c.args.key)))
    (rules_alike (g.S.ModuleSource.setting c.args.scene.now)) c.value_of.ensures.there

pub returns-clause-kept : goal.returns-clause-kept
returns-clause-kept g c = subst (λ (r : Rules Key Found ModelFault). IsKept r c.value_of.new.table.entries) (rules_alike (g.S.ModuleSource.setting c.args.scene.now)) c.value_of.ensures.kept

pub returns-clause-once : goal.returns-clause-once
returns-clause-once g c =
    subst (λ (r : Rules Key Found ModelFault). OnOk c.value_of.result (AreBegunOnce r c.args.table.now.entries c.value_of.new.table.entries c.value_of.new.table.begun))
    (rules_alike (g.S.ModuleSource.setting c.args.scene.now)) c.value_of.ensures.once
