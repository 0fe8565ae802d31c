use Rattle.std.proofs.Common.{if◌then◌else◌, ap, sym, ◌∙◌}
use Rattle.ned_types.specs.Flat.{submodule_named}
use Rattle.inside_keys.specs.Asked.{ask_then}
use Rattle.inside_keys.specs.Keys.{key}
use Rattle.inside_keys.specs.Values.{is, vector_size}
use Rattle.inside_keys.specs.declared.key.What.TheVariants as what
use Rattle.inside_run.proofs.Moves.{moves_as, size_is}
use Rattle.inside_run.proofs.keys.size_of.Goals as goal

pub returns-clause-moves : goal.returns-clause-moves
returns-clause-moves g c s =
    let m = c.args.site in
    moves_as s c.read.result _ _
    (size_is m _ ∙ ap (vector_size m) c.submodule_in-submodule.ensures
    ∙ ap (λ b. if b then ask_then (key m (what.GateSize c.args.name)) is else vector_size m (submodule_named c.args.name c.args.declared.now.submodules)) (sym c.if-branch.false ∙ c.in_ok-is_gate_vector.ensures))
    (c.read.ensures.moves s)
