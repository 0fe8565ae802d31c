use Rattle.std.proofs.Common.{Some, length, ap, sym, ◌∙◌}
use Rattle.ini_trees.specs.Entries.{last_name}
use Rattle.ned_types.specs.Flat.{or_else}
use Rattle.inside_parts.specs.Names.{position_of}
use Rattle.inside_keys.specs.Settings.{type_names}
use Rattle.inside_keys.specs.Values.{inner_along}
use Rattle.inside_run.proofs.types.type_meant.Goals as goal

pub returns-in-Some-clause-same : goal.returns-in-Some-clause-same
returns-in-Some-clause-same g c =
    let s = g.S.ModuleSource.setting c.args.scene.now in
    let last = c.last_name-last.ensures ∙ ap last_name c.as_bytes.ensures in
    ap (λ o. or_else o (position_of (last_name c.args.name.now) (type_names s)))
    (sym c.in-Some.is ∙ c.in_ok-number.ensures.same ∙ ap (inner_along s (length s.types) (Some c.args.declared.now)) last)

pub returns-clause-same : goal.returns-clause-same
returns-clause-same g c =
    let s = g.S.ModuleSource.setting c.args.scene.now in
    let last = c.last_name-last.ensures ∙ ap last_name c.as_bytes.ensures in
    c.type_number.ensures.same ∙ ap (λ l. position_of l (type_names s)) (c.in_ok-last.ensures ∙ last)
    ∙ ap (λ o. or_else o (position_of (last_name c.args.name.now) (type_names s)))
    (sym c.in_default.is ∙ c.in_ok-number.ensures.same ∙ ap (inner_along s (length s.types) (Some c.args.declared.now)) last)
