use Rattle.std.proofs.Common.{Ok, ap, sym, subst, ◌∙◌, rules}
use Rattle.std.proofs.lemmas.Int.{to_z-of_z}
use mir.Syntax.{w64}
use Rattle.param_following.specs.Asking.{Done}
use Rattle.inside_wiring.specs.Ends.{natural}
use Rattle.inside_keys.specs.Values.{among, at_index, is_there}
use Rattle.inside_keys.specs.declared.found.Found.TheVariants as found
use Rattle.sim_values.specs.declared.value.Value.TheVariants as value
use Rattle.inside_run.specs.declared.progress.Reading.{Reading}
use Rattle.inside_run.specs.Going.{Moves, counted}
use Rattle.inside_run.proofs.Moves.{moves_as, some_is_there}
use Rattle.inside_run.proofs.reading.counted.Goals as goal

pub returns-in-Element-clause-moves : goal.returns-in-Element-clause-moves
returns-in-Element-clause-moves c s =
    let m = c.args.site.now in
    let there = c.among.ensures m ∙ ap (λ z. among m c.args.count (natural z)) (to_z-of_z w64 c.in-Element.index (search rules)) in
    subst (λ (r : Reading). Moves s c.at_index.result (counted m c.args.name.now r c.args.count)) (sym c.in-Element.is)
    (moves_as s c.at_index.result _ _ (ap (at_index m c.args.name.now c.in-Element.parameter) there) (c.at_index.ensures.moves s))

pub returns-in-ExistsAt-clause-moves : goal.returns-in-ExistsAt-clause-moves
returns-in-ExistsAt-clause-moves c s =
    let m = c.args.site.now in
    let there = c.among-in-ExistsAt.ensures m ∙ ap (λ z. among m c.args.count (natural z)) (to_z-of_z w64 c.in-ExistsAt.index (search rules)) in
    ap (λ b. Done (Ok (found.Value (value.Truth b)))) (c.is_some-is_there.ensures ∙ some_is_there m c.among-in-ExistsAt.result ∙ ap (is_there m) there)
    ∙ sym (ap (λ (r : Reading). counted m c.args.name.now r c.args.count) c.in-ExistsAt.is)
