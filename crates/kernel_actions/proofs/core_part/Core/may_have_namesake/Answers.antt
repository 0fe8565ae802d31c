use Rattle.std.proofs.Common.{◌≡◌, ◌∙◌, List, ℕ, false, is_some, ap, sym}
use Rattle.model_questions.specs.declared.record.Record.{Record}
use Rattle.model_questions.specs.Records.{own_name, path_of, path_under}
use Rattle.run_semantics.specs.Routes.{module_at}
use Rattle.run_semantics.specs.World.{World}
use Rattle.kernel_actions.proofs.Namesakes.{is_none_by, none_named}
use Rattle.kernel_actions.proofs.core_part.Core.may_have_namesake.Goals as goal

pub returns : goal.returns
returns c = λ out.
    let w = c.args.self.now in
    let path : c.in_ok-path.path ≡ path_under (path_of w.records c.args.parent) (own_name c.args.creation.now.name c.args.creation.now.index) =
    c.in_ok-path.ensures
    ∙ (ap (λ (rs : List Record). path_under (path_of rs c.args.parent) (own_name c.as_bytes-name.result.now c.args.creation.now.index)) c.records.ensures.records
    ∙ (ap (λ (v : World). path_under (path_of v.records c.args.parent) (own_name c.as_bytes-name.result.now c.args.creation.now.index)) c.self.view_is
    ∙ ap (λ (name : List ℕ). path_under (path_of w.records c.args.parent) (own_name name c.args.creation.now.index)) c.as_bytes-name.ensures)) in
    let found : c.first_at.result ≡ module_at c.in_ok-path.path w = c.first_at.ensures ∙ ap (λ (v : World). module_at c.in_ok-path.path v) c.self.view_is in
    none_named c.args.parent c.args.creation.now w c.levels_in.result c.in_ok-path.path c.requires c.levels_in.ensures c.if-levels_in-eq0.false path
    (sym found ∙ is_none_by c.first_at.result (sym c.is_some.ensures ∙ out))
