use Rattle.std.proofs.Common.{ap, sym}
use Rattle.inside_keys.specs.Asked.{result_then}
use Rattle.inside_keys.specs.Values.{size_of_gate}
use Rattle.inside_run.specs.Scenes.{standing_by}
use Rattle.inside_run.proofs.Moves.{moves_as}
use Rattle.inside_run.proofs.inside.size_from.Goals as goal

pub returns-clause-moves : goal.returns-clause-moves
returns-clause-moves g c =
    let s = g.S.ModuleSource.setting c.args.scene.now in
    let stands = standing_by c.args.stands.now in
    moves_as s c.size_of_gate.result _ _ (ap (λ p. result_then p (size_of_gate s stands c.args.gate.now c.args.inside.now)) (sym c.in_ok-part.ensures)) (c.size_of_gate.ensures.moves s stands c.gates.ensures)

pub returns-clause-costs : goal.returns-clause-costs
returns-clause-costs g c = c.size_of_gate.ensures.costs (g.S.ModuleSource.setting c.args.scene.now)
