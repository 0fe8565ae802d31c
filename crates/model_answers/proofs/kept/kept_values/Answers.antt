use Rattle.std.proofs.Common.{◌∙◌, List, ℕ, ap, reverse, subst}
use Rattle.std.specs.List.{All}
use Rattle.model_data.specs.Models.{network_of}
use Rattle.model_settings.specs.Standings.{setting_of}
use Rattle.model_answers.specs.Kept.{most_insides, paths_of, walked, IsInsideKept}
use Rattle.model_answers.proofs.Keeping.{reversed}
use Rattle.model_answers.proofs.kept.kept_values.Goals as goal

pub returns-clause-insides : goal.returns-clause-insides
returns-clause-insides c =
    let s = setting_of c.args.setting.now in
    subst (λ (l : List (List ℕ)). All (IsInsideKept s c.keep_all.new.kept.entries) (walked s most_insides l))
    (ap reverse c.in_ok-pending.ensures ∙ reversed (network_of c.model.result.now) ∙ ap (λ m. paths_of (network_of m)) c.model.ensures) c.in_ok-keep_all.ensures.insides
