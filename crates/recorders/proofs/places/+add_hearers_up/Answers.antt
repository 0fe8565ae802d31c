use Rattle.std.proofs.Common.{◌-◌, arith}
use Rattle.std.proofs.lemmas.Result.{on_ok_weaker}
use Rattle.recorders.proofs.Hearers.{heard_above}
use Rattle.recorders.proofs.places.+add_hearers_up.Goals as goal

pub returns-in-Some : goal.returns-in-Some
returns-in-Some t c =
    on_ok_weaker c.add_hearers_up.result
    (λ above q.
    heard_above c.args.wanted.now c.args.records.now c.args.depth (c.args.depth - 1) q c.args.emitter c.in-Some.record.now c.args.ids.now.items c.add_wanted.new.ids.items c.add_hearers_up.new.ids.items (omega arith) c.in-Some.ensures
    (c.in_ok-add_wanted.ensures q) (above q))
    c.add_hearers_up.ensures
