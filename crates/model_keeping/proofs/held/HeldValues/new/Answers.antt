use Rattle.std.proofs.Common.{◌∙◌}
use Rattle.model_keeping.proofs.Holding.{held_new}
use Rattle.model_keeping.proofs.held.HeldValues.new.Goals as goal

pub returns : goal.returns
returns c =
    let r = held_new c.args.setting.now c.in_ok-shared.field-0.value c.in_ok-store.store c.in_ok-closed.closed c.in_ok-read.read c.empty_table.result.entries c.in_ok-store.ensures c.in_ok-shared.ensures
    (c.in_ok-closed.ensures ∙ c.as_slice.ensures) (c.in_ok-read.ensures ∙ c.as_slice-2.ensures) c.empty_table.ensures.kept in
    record { found = r.0; read_are = r.1 }
