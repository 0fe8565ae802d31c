use Rattle.std.proofs.Common.{◌∙◌, sym, ap}
use Rattle.model_data.specs.declared.model.Model.{Model}
use Rattle.model_data.specs.Models.{network_of}
use Rattle.model_settings.specs.Standings.{setting_of}
use Rattle.model_answers.proofs.Holding.{held_same, tables_same}
use Rattle.model_answers.proofs.evaluated.EvaluatedModel.with_same_text.Goals as goal

pub invariant_of-result : goal.invariant_of-result
invariant_of-result c = (
  held_same c.self.inside.model c.args.model c.self.inside.values.value c.in_ok-values.values.value
      (c.requires.types ∙ ap (λ (m : Model). m.types) (sym c.self.view_is)) (c.requires.network ∙ ap network_of (sym c.self.view_is)) (c.requires.same ∙ ap setting_of (sym c.self.view_is))
      c.in_ok-values.ensures.cases c.self.invariant.0,
  tables_same c.self.inside.model c.args.model c.self.inside.tables c.in_ok-tables.tables
      (c.requires.types ∙ ap (λ (m : Model). m.types) (sym c.self.view_is)) (c.requires.ini ∙ ap (λ (m : Model). m.ini) (sym c.self.view_is)) (c.requires.chain ∙ ap (λ (m : Model). m.chain) (sym c.self.view_is))
      c.in_ok-tables.ensures.types c.in_ok-tables.ensures.entries c.self.invariant.1,
)
