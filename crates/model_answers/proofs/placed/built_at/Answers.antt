use Rattle.std.proofs.Common.{refl}
use Rattle.model_settings.specs.declared.created.RunSetting.{RunSetting}
use Rattle.model_answers.proofs.Lines.{kept_there}
use Rattle.model_answers.proofs.placed.built_at.Goals as goal

pub returns-clause-readable : goal.returns-clause-readable
returns-clause-readable c =
    let setting : RunSetting = record { model = c.args.values.setting; created = c.new.result } in
    record {
      kept_are = kept_there setting c.args.values.setting.now c.args.values.kept refl c.new.ensures c.requires.right;
      fresh_are = c.empty_table-fresh.ensures.kept;
    }
