use Rattle.std.proofs.Common.{rules, Some, sym, ap, ◌∙◌}
use Rattle.std.specs.Result.{result_ok}
use Rattle.desk_commands.specs.Injections.{payload_of}
use Rattle.desk_commands.proofs.Payloads.{only_memory, payload_read}
use Rattle.desk_commands.proofs.injections.payload_of.Goals as goal

pub returns-then-is_dash : goal.returns-then-is_dash
unfolding payload_of
returns-then-is_dash c = search rules

pub returns-in-Ok : goal.returns-in-Ok
returns-in-Ok c =
    payload_read c.args.word.now (sym c.is_dash.ensures ∙ c.if-is_dash.false) c.requires
    ∙ ap result_ok c.in-Ok.ensures.ok ∙ ap Some (sym c.from_vec.ensures)

pub want_of_memory-requires : goal.want_of_memory-requires
want_of_memory-requires c =
    only_memory c.args.word.now c.in-Err.error (sym c.is_dash.ensures ∙ c.if-is_dash.false) c.requires c.in-Err.ensures.err
