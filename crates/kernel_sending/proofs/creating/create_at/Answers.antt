use Rattle.std.proofs.Common.{ap, arith, length}
use Rattle.kernel_actions.proofs.Growing.{growth_on}
use Rattle.kernel_sending.proofs.Creations.{created_on, created_room, created_there, few_created}
use Rattle.kernel_sending.proofs.creating.create_at.Goals as goal

pub create_as_answered-requires : goal.create_as_answered-requires
create_as_answered-requires g c = record { room = few_created c.args.core.now c.requires.few; there = c.requires.there }

pub build_as-requires-clause-room : goal.build_as-requires-clause-room
build_as-requires-clause-room g c = created_room c.args.parent c.args.creation.now _ _ c.args.core.now c.create_as_answered.new.core c.in_ok-answer.ensures.world c.requires.room

pub build_as-requires-clause-there : goal.build_as-requires-clause-there
build_as-requires-clause-there g c =
    let many = ap length c.records.ensures.records in
    created_there c.args.parent c.args.creation.now _ _ _ c.args.core.now c.create_as_answered.new.core c.in_ok-answer.ensures.world (omega (arith, many))

pub returns-clause-flow : goal.returns-clause-flow
returns-clause-flow g c =
    let many = ap length c.records.ensures.records in
    created_on g.A.Answers.answers c.args.levels c.args.parent c.args.creation.now c.in_ok-answer.answer _ c.args.core.now c.create_as_answered.new.core _ c.in_ok-answer.ensures.answer c.in_ok-answer.ensures.world (omega (arith, many)) c.in_ok-turn.ensures.flow

pub returns-clause-grown : goal.returns-clause-grown
returns-clause-grown g c = growth_on c.args.core.now c.create_as_answered.new.core c.build_as.new.core c.create_as_answered.ensures.grown c.build_as.ensures.grown

pub returns-in_err-turn-clause-grown : goal.returns-in_err-turn-clause-grown
returns-in_err-turn-clause-grown g c = growth_on c.args.core.now c.create_as_answered.new.core c.build_as.new.core c.create_as_answered.ensures.grown c.build_as.ensures.grown
