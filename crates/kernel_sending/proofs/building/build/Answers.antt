use Rattle.std.proofs.Common.{◌≡◌, ◌∙◌, ◌≤◌, ap, arith, length, subst, suc, sym}
use Rattle.std.specs.List.{All}
use Rattle.run_semantics.specs.Perform.{flow_of}
use Rattle.run_semantics.specs.Run.{created, inside_of}
use Rattle.run_semantics.specs.World.{World}
use Rattle.run_semantics.specs.declared.outcome.EventFlow.{EventFlow}
use Rattle.model_questions.specs.declared.answer.Question.TheVariants.{Build}
use Rattle.model_questions.specs.Answers.{answer_of}
use Rattle.kernel_actions.proofs.Growing.{growth_on}
use Rattle.kernel_sending.proofs.Creations.{asked_grows}
use Rattle.kernel_sending.proofs.Levels.{built_stops}
use Rattle.kernel_sending.proofs.Within.{all_within, built_long}
use Rattle.kernel_sending.proofs.building.build.Goals as goal

pub returns-clause-built : goal.returns-clause-built
returns-clause-built g c =
    built_stops g.A.Answers.answers c.args.id c.args.core.now c.ask.new.self c.build.new.self c.in_ok-found.found c.in_ok-turn.turn _ c.in_default.not-GoOn
    (c.in_ok-found.ensures ∙ ap (λ rs. answer_of g.A.Answers.answers rs (Build c.args.id)) c.records.ensures.records) c.in_ok-ask.ensures.noted c.in_ok-turn.ensures.flow

pub returns-clause-grown : goal.returns-clause-grown
returns-clause-grown g c = growth_on c.args.core.now c.ask.new.self c.build.new.self (asked_grows (Build c.args.id) c.args.core.now c.ask.new.self c.in_ok-ask.ensures.noted) c.build.ensures.grown

pub returns-in-GoOn-clause-there : goal.returns-in-GoOn-clause-there
returns-in-GoOn-clause-there g c =
    let asked_long : length c.ask.new.self.records ≡ length c.args.core.now.records = ap (λ (w : World). length w.records) c.in_ok-ask.ensures.noted in
    let last : length c.records-last.result.now ≡ length c.ask.new.self.records = ap length c.records-last.ensures.records in
    let long = built_long c.args.id c.in_ok-found.found c.ask.new.self c.build.new.self (subst (λ (t : EventFlow). flow_of t c.build.new.self ≡ created c.args.id c.in_ok-found.found c.ask.new.self) c.in-GoOn.is c.in_ok-turn.ensures.flow) in
    let inner : length c.inside_of.result.now ≡ length (inside_of c.in_ok-found.found) = ap length c.inside_of.ensures in
    subst (All (λ n. n ≤ length c.build.new.self.records)) (sym c.in_ok-inner-in-GoOn.ensures)
    (all_within (suc (length c.records-last.result.now)) (length c.build.new.self.records) c.inside_of.result.now (omega (arith, last, long, inner)))
