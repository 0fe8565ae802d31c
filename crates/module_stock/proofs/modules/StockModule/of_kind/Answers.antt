use Rattle.std.proofs.Common.{◌≡◌, codes, rules}
use Rattle.module_stock.specs.StockLaws.{tick_is_fresh, source_is_fresh, queue_is_fresh, sink_is_fresh, router_is_fresh, spawner_is_fresh}
use Rattle.module_stock.proofs.modules.StockModule.of_kind.Goals as goal

pub returns-then-eq-clause-fresh : goal.returns-then-eq-clause-fresh
returns-then-eq-clause-fresh c =
    let kind : c.args.kind.now ≡ codes "Tick" = search rules in
    rw (kind, c.new.ensures) tick_is_fresh

pub returns-then-eq-2-clause-fresh : goal.returns-then-eq-2-clause-fresh
returns-then-eq-2-clause-fresh c =
    let kind : c.args.kind.now ≡ codes "Source" = search rules in
    rw (kind, c.new-then-eq-2.ensures) source_is_fresh

pub returns-then-eq-3-clause-fresh : goal.returns-then-eq-3-clause-fresh
returns-then-eq-3-clause-fresh c =
    let kind : c.args.kind.now ≡ codes "Queue" = search rules in
    rw (kind, c.new-then-eq-3.ensures) queue_is_fresh

pub returns-then-eq-4-clause-fresh : goal.returns-then-eq-4-clause-fresh
returns-then-eq-4-clause-fresh c =
    let kind : c.args.kind.now ≡ codes "Sink" = search rules in
    rw kind sink_is_fresh

pub returns-then-eq-5-clause-fresh : goal.returns-then-eq-5-clause-fresh
returns-then-eq-5-clause-fresh c =
    let kind : c.args.kind.now ≡ codes "Router" = search rules in
    rw kind router_is_fresh

pub returns-then-eq-6-clause-fresh : goal.returns-then-eq-6-clause-fresh
returns-then-eq-6-clause-fresh c =
    let kind : c.args.kind.now ≡ codes "Spawner" = search rules in
    rw (kind, c.new-then-eq-6.ensures) spawner_is_fresh
