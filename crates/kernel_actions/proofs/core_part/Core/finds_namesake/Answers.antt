use Rattle.std.proofs.Common.{◌≡◌, ◌≤◌, ◌<◌, ◌∙◌, List, ap, subst, length, get_or}
use Rattle.model_questions.specs.declared.record.Record.{Record}
use Rattle.run_semantics.specs.World.{World}
use Rattle.kernel_actions.proofs.Namesakes.{named_nowhere, named_on, named_there, namesake_is}
use Rattle.kernel_actions.proofs.core_part.Core.finds_namesake.Goals as goal

pub loop-index-init : goal.loop-index-init
loop-index-init c = namesake_is c.args.parent c.args.creation.now c.args.self.now

pub loop-index-preserved : goal.loop-index-preserved
loop-index-preserved c =
    let i = c.loop-index.index in
    let r = c.record-item.result in
    let same : c.records-record-items.result.now ≡ c.args.self.now.records = c.records-record-items.ensures.records ∙ ap (λ (w : World). w.records) c.self.view_is in
    named_on c.args.parent c.args.creation.now c.args.self.now.dead i c.args.self.now.records r c.is_namesake.result _ (subst (λ (rs : List Record). i < length rs) same c.loop-index-test.true)
    (subst (λ (rs : List Record). r ≡ get_or rs i r) same c.record-item.is) c.is_namesake.ensures c.if-is_namesake.false c.loop-index.invariant

pub returns-then-is_namesake : goal.returns-then-is_namesake
returns-then-is_namesake c =
    let i = c.loop-index.index in
    let r = c.record-item.result in
    let same : c.records-record-items.result.now ≡ c.args.self.now.records = c.records-record-items.ensures.records ∙ ap (λ (w : World). w.records) c.self.view_is in
    named_there c.args.parent c.args.creation.now c.args.self.now.dead i c.args.self.now.records r c.is_namesake.result _ (subst (λ (rs : List Record). i < length rs) same c.loop-index-test.true)
    (subst (λ (rs : List Record). r ≡ get_or rs i r) same c.record-item.is) c.is_namesake.ensures c.if-is_namesake.true c.loop-index.invariant

pub returns : goal.returns
returns c =
    let i = c.loop-index.index in
    let same : c.records-record-items.result.now ≡ c.args.self.now.records = c.records-record-items.ensures.records ∙ ap (λ (w : World). w.records) c.self.view_is in
    named_nowhere c.args.parent c.args.creation.now c.args.self.now.dead i c.args.self.now.records _ (subst (λ (rs : List Record). length rs ≤ i) same c.loop-index-test.false) c.loop-index.invariant
