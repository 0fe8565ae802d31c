use Rattle.std.proofs.Common.{ap, sym, subst, ◌∙◌, rules}
use Rattle.std.proofs.lemmas.Int.{to_z-of_z}
use mir.Syntax.{w64}
use Rattle.ned_types.specs.Flat.{submodule_named}
use Rattle.inside_keys.specs.Values.{asking_in}
use Rattle.inside_keys.specs.declared.key.What.{What}
use Rattle.inside_run.specs.declared.progress.Reading.TheVariants as reading
use Rattle.inside_run.specs.Going.{Moves, read}
use Rattle.inside_run.specs.Weights.{Costs, typed_weight}
use Rattle.inside_run.proofs.Moves.{element_is, exists_at_is, exists_is, member_is, moves_as}
use Rattle.inside_run.proofs.keys.asked_in.Goals as goal

pub returns-in-Sizeof-clause-costs : goal.returns-in-Sizeof-clause-costs
returns-in-Sizeof-clause-costs g c =
    let s = g.S.ModuleSource.setting c.args.scene.now in
    subst (λ (w : What). Costs s (typed_weight s c.args.site w c.args.declared.now) c.size_of.result) (sym c.in-Sizeof.is) (c.size_of.ensures.costs s)

pub returns-in-Exists-clause-moves : goal.returns-in-Exists-clause-moves
returns-in-Exists-clause-moves g c =
    let s = g.S.ModuleSource.setting c.args.scene.now in
    subst (λ (w : What). Moves s c.begin_reading.result (asking_in s c.args.site w c.args.number c.args.declared.now)) (sym c.in-Exists.is)
    (moves_as s c.begin_reading.result _ _ (exists_is c.args.site (submodule_named c.in-Exists.sub c.args.declared.now.submodules)) (c.begin_reading.ensures.moves s))

pub returns-in-Exists-clause-costs : goal.returns-in-Exists-clause-costs
returns-in-Exists-clause-costs g c =
    let s = g.S.ModuleSource.setting c.args.scene.now in
    subst (λ (w : What). Costs s (typed_weight s c.args.site w c.args.declared.now) c.begin_reading.result) (sym c.in-Exists.is) (c.begin_reading.ensures.costs s)

pub returns-in-ExistsAt-clause-moves : goal.returns-in-ExistsAt-clause-moves
returns-in-ExistsAt-clause-moves g c =
    let s = g.S.ModuleSource.setting c.args.scene.now in
    subst (λ (w : What). Moves s c.begin_reading-in-ExistsAt.result (asking_in s c.args.site w c.args.number c.args.declared.now)) (sym c.in-ExistsAt.is)
    (moves_as s c.begin_reading-in-ExistsAt.result _ _ (ap (λ k. read c.args.site (reading.ExistsAt k) (submodule_named c.in-ExistsAt.sub c.args.declared.now.submodules)) (to_z-of_z w64 c.in-ExistsAt.index (search rules)) ∙ exists_at_is c.args.site c.in-ExistsAt.index (submodule_named c.in-ExistsAt.sub c.args.declared.now.submodules)) (c.begin_reading-in-ExistsAt.ensures.moves s))

pub returns-in-ExistsAt-clause-costs : goal.returns-in-ExistsAt-clause-costs
returns-in-ExistsAt-clause-costs g c =
    let s = g.S.ModuleSource.setting c.args.scene.now in
    subst (λ (w : What). Costs s (typed_weight s c.args.site w c.args.declared.now) c.begin_reading-in-ExistsAt.result) (sym c.in-ExistsAt.is) (c.begin_reading-in-ExistsAt.ensures.costs s)

pub returns-in-Member-clause-moves : goal.returns-in-Member-clause-moves
returns-in-Member-clause-moves g c =
    let s = g.S.ModuleSource.setting c.args.scene.now in
    subst (λ (w : What). Moves s c.begin_reading-in-Member.result (asking_in s c.args.site w c.args.number c.args.declared.now)) (sym c.in-Member.is)
    (moves_as s c.begin_reading-in-Member.result _ _ (member_is c.args.site c.in-Member.x (submodule_named c.in-Member.sub c.args.declared.now.submodules)) (c.begin_reading-in-Member.ensures.moves s))

pub returns-in-Member-clause-costs : goal.returns-in-Member-clause-costs
returns-in-Member-clause-costs g c =
    let s = g.S.ModuleSource.setting c.args.scene.now in
    subst (λ (w : What). Costs s (typed_weight s c.args.site w c.args.declared.now) c.begin_reading-in-Member.result) (sym c.in-Member.is) (c.begin_reading-in-Member.ensures.costs s)

pub returns-in-Element-clause-moves : goal.returns-in-Element-clause-moves
returns-in-Element-clause-moves g c =
    let s = g.S.ModuleSource.setting c.args.scene.now in
    subst (λ (w : What). Moves s c.begin_reading-in-Element.result (asking_in s c.args.site w c.args.number c.args.declared.now)) (sym c.in-Element.is)
    (moves_as s c.begin_reading-in-Element.result _ _ (ap (λ k. read c.args.site (reading.Element k c.in-Element.x) (submodule_named c.in-Element.sub c.args.declared.now.submodules)) (to_z-of_z w64 c.in-Element.index (search rules)) ∙ element_is c.args.site c.in-Element.index c.in-Element.x (submodule_named c.in-Element.sub c.args.declared.now.submodules)) (c.begin_reading-in-Element.ensures.moves s))

pub returns-in-Element-clause-costs : goal.returns-in-Element-clause-costs
returns-in-Element-clause-costs g c =
    let s = g.S.ModuleSource.setting c.args.scene.now in
    subst (λ (w : What). Costs s (typed_weight s c.args.site w c.args.declared.now) c.begin_reading-in-Element.result) (sym c.in-Element.is) (c.begin_reading-in-Element.ensures.costs s)
