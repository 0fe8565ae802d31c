use Rattle.std.proofs.Common.{Some, sym, ◌∙◌, ap, arith}
use Rattle.param_engine.specs.Tables.{said}
use Rattle.param_engine.proofs.Going.{kept_value}
use Rattle.inside_keys.specs.Values.{rules_of}
use Rattle.inside_run.proofs.Alike.{known_alike}
use Rattle.inside_run.proofs.Exact.{exact}
use Rattle.inside_run.proofs.values.known.Goals as goal

pub returns-in-Some : goal.returns-in-Some
returns-in-Some g c =
    let s = g.S.ModuleSource.setting c.args._scene.now in
    let es = c.args.table.now.entries in
    let h = c.in-Some.ensures in
    ap said h.there ∙ ap Some (sym
    (kept_value (rules_of s) (exact s) es c.args.key.now c.in-Some.field-0-1.now
    c.requires (omega (arith, c.len-len.ensures.len, c.len-len.ensures.small)) (known_alike es c.args.key.now ∙ h.value)))
