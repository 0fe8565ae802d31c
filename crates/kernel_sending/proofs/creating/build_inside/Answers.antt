use Rattle.kernel_sending.proofs.Creations.{inside_stops, set_up_room}
use Rattle.kernel_actions.proofs.Growing.{growth_on}
use Rattle.kernel_sending.proofs.creating.build_inside.Goals as goal

pub await_start-requires : goal.await_start-requires
await_start-requires g c = set_up_room g.A.Answers.answers c.args.levels c.args.first c.args.core.now c.set_up.new.core c.requires.there (rw c.in-GoOn.is at c.in_ok-turn.ensures.flow) c.requires.room

pub returns-in_default-clause-flow : goal.returns-in_default-clause-flow
returns-in_default-clause-flow g c = inside_stops g.A.Answers.answers c.args.levels c.args.first c.args.core.now c.set_up.new.core c.in_ok-turn.turn c.in_default.not-GoOn c.in_ok-turn.ensures.flow

pub returns-in_err-waits-in-GoOn-clause-grown : goal.returns-in_err-waits-in-GoOn-clause-grown
returns-in_err-waits-in-GoOn-clause-grown g c = growth_on c.args.core.now c.set_up.new.core c.await_start.new.core c.set_up.ensures.grown c.await_start.ensures.grown
