use Rattle.std.proofs.Common.{◌∙◌, ◌+◌, ap, sym, drop}
use Rattle.std.proofs.lemmas.List.{drop_more, drop_all}
use Rattle.event_set.specs.Events.{without_modules}
use Rattle.event_set.proofs.Dropping.{module_then_others, no_modules}
use Rattle.event_set.proofs.set.EventSet.drop_modules.Goals as goal

pub loop-id-preserved : goal.loop-id-preserved
loop-id-preserved c =
    module_then_others _ (drop (c.loop-id.id-index + 1) c.args.ids.now) (drop c.loop-id.id-index c.args.ids.now) c.loop-id.self c.drop_module.new.self c.drop_module.ensures (drop_more c.args.ids.now c.loop-id.id-index _ c.loop-id-test.true)
    ∙ c.loop-id.invariant

pub returns : goal.returns
returns c =
    sym (no_modules c.loop-id.self)
    ∙ ap (λ ids. without_modules ids c.loop-id.self) (sym (drop_all c.loop-id.id-index c.args.ids.now c.loop-id-test.false))
    ∙ c.loop-id.invariant
