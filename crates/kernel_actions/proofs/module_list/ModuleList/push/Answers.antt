use Rattle.std.proofs.Common.{◌≡◌, ◌+◌, ◌∷◌, ◌++◌, ◌∙◌, [], List, ap, arith, length, subst, sym}
use Rattle.std.proofs.lemmas.List.{length_push}
use Rattle.model_questions.specs.declared.record.Record.{Record}
use Rattle.kernel_actions.specs.Modules.{AreLookedUp, Modules, module_as}
use Rattle.kernel_actions.proofs.Listed.{length_paths, looked_up_more}
use Rattle.kernel_actions.proofs.module_list.ModuleList.push.Goals as goal

pub look_up_last-looked_up-requires-clause-last : goal.look_up_last-looked_up-requires-clause-last
look_up_last-looked_up-requires-clause-last c =
    let many : length c.self.inside.paths ≡ length c.self.inside.records = ap length c.self.invariant.paths_are ∙ length_paths c.self.inside.records c.self.inside.dead in
    let more : length c.as_slice.result.now ≡ length c.self.inside.records + 1 = ap length (c.as_slice.ensures ∙ c.in_ok-push.ensures.ok) ∙ length_push c.self.inside.records c.args.created in
    omega (arith, many, more)

pub invariant_of-self-in-Ok : goal.invariant_of-self-in-Ok
invariant_of-self-in-Ok c =
    let rs = c.self.inside.records in
    let whole : c.as_slice.result.now ≡ rs ++ c.args.created ∷ [] = c.as_slice.ensures ∙ c.in_ok-push.ensures.ok in
    let many : length rs ≡ length c.args.self.now.records = ap (λ (m : Modules). length m.records) c.self.view_is in
    let few = c.requires.few in
    let there = c.requires.there in
    subst (λ (l : List Record). AreLookedUp l c.self.inside.dead c.look_up_last-looked_up.new.paths c.look_up_last-looked_up.new.children) (sym c.in_ok-push.ensures.ok)
    (looked_up_more rs c.args.created c.self.inside.dead c.self.inside.paths c.look_up_last-looked_up.new.paths c.self.inside.children c.look_up_last-looked_up.new.children
    (omega (arith, many, few)) (omega (arith, many, there)) c.self.invariant
    (c.in-Ok.ensures.paths ∙ ap (λ (l : List Record). c.self.inside.paths ++ module_as l c.self.inside.dead (length l) ∷ []) whole)
    c.in-Ok.ensures.children)
